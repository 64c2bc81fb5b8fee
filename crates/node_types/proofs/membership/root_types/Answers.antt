use Prim.Native.Nat.{ℕ, ◌+◌, ◌*◌, ◌-◌, ◌%◌}
use native.Mathlib.Omega.{arith}
use mathlib.Core.Path.{◌≡◌, refl, sym, ◌∙◌, ap, ap₂, subst}
use lib.Dec.{leb}
use lib.ListN.{take, drop, length-replicate}
use Rattle.grammar.specs.Lists.{place}
use Rattle.grammar.specs.Names.{Name, same_name}
use Rattle.theory.specs.Marked.{holds}
use Rattle.theory.proofs.Lists.ListLaws.{part_of}
use Rattle.reader.specs.TableIndex.{part}
use Rattle.documents.specs.DocumentNodes.{node_at, nodes_in}
use Rattle.documents.specs.NodeTrees.{tree_count}
use Rattle.walks.specs.TypeSets.{tests_at}
use Rattle.node_types.specs.KnownDocument.{index_of}
use Rattle.node_types.specs.NodeTypes.{types_for}
use Rattle.node_types.proofs.StackLaws as laws
use Rattle.node_types.proofs.TypeLaws.{rules_keyed, label_few}
use Rattle.node_types.proofs.membership.root_types.Goals as goal

pub chained_rules-by_label-requires : goal.chained_rules-by_label-requires
chained_rules-by_label-requires c = rules_keyed c.requires.0.held

pub loop-at-init : goal.loop-at-init
loop-at-init c =
    let nodes = index_of c.args.names.now c.args.sizes.now c.args.shapes.now c.args.nodes in
    let none = laws.none_count c.args.document.now nodes in
    let long = length-replicate {A = ℕ} 1024 0 in (
      c.nullable_contents-nullable.auto.marks ∙ long,
      refl,
      omega arith,
      λ g x. laws.none_stacked c.args.document.now nodes g c.args.words.now (4 * c.args.nodes),
    )

pub overflow_sub-base : goal.overflow_sub-base
overflow_sub-base c =
    let fits = laws.round_room _ _ _ _ _ c.loop-at.at c.loop-at.top c.requires.1 c.loop-at-test.true c.loop-at.auto.at c.loop-at.invariant.2 in omega (arith, fits.0)

pub put_types-requires : goal.put_types-requires
put_types-requires c =
    let fits = laws.round_room _ _ _ _ _ c.loop-at.at c.loop-at.top c.requires.1 c.loop-at-test.true c.loop-at.auto.at c.loop-at.invariant.2 in (
      c.requires.0,
      c.chained_rules-by_label.ensures,
      c.nullable_contents-nullable.ensures,
      label_few c.requires.0.held _ (c.label_of-label.ensures c.requires.0.table c.requires.0.held.indexes),
      omega arith,
      omega (arith, fits.0, fits.1, fits.2, c.requires.2, c.loop-at.invariant.1, c.from-shape.ensures),
    )

pub bring-requires : goal.bring-requires
bring-requires c =
    let fits = laws.round_room _ _ _ _ _ c.loop-at.at c.loop-at.top c.requires.1 c.loop-at-test.true c.loop-at.auto.at c.loop-at.invariant.2 in
    let kept = c.put_types.auto.words in
    (omega arith, λ h. omega arith, omega (arith, kept, fits.0, fits.1, fits.2, c.requires.2, c.loop-at.invariant.1, c.from-shape.ensures))

pub loop-at-preserved : goal.loop-at-preserved
loop-at-preserved c =
    let d = c.args.document.now in
    let nodes = index_of c.args.names.now c.args.sizes.now c.args.shapes.now c.args.nodes in
    let known = c.requires.1 in
    let i = c.loop-at.at in
    let top = c.loop-at.top in
    let words = c.loop-at.words in
    let some = c.loop-at-test.true in
    let before : i - 1 + 1 ≡ i = omega arith in
    let enough = laws.round_enough d nodes known i (i - 1) before c.loop-at.auto.at in
    let fits = laws.round_room _ _ _ _ _ i top known some c.loop-at.auto.at c.loop-at.invariant.2 in
    let count = laws.round_count d nodes known i (i - 1) before c.loop-at.auto.at in
    let spot : top - 4 + 4 ≡ top = omega (arith, fits.0) in
    let from = c.from-from.result in
    let size = c.from.result in
    let head = (node_at d c.args.names.now c.args.sizes.now c.args.shapes.now (i - 1)).head in
    let name : part d from (from + size) ≡ head.name
    = part_of d from size ∙ ap₂ (λ (f z : ℕ). take z (drop f d)) c.from-from.ensures c.from.ensures in
    let shape = c.from-shape.ensures in
    let children = ap (λ (n : ℕ). n % 256) shape in (
      c.put_types.auto.marks ∙ c.loop-at.invariant.0,
      c.bring.auto.words ∙ c.put_types.auto.words ∙ c.loop-at.invariant.1,
      omega (arith, c.loop-at.invariant.2, count, enough, fits.0, children),
      λ g x.
          laws.round_stacked d nodes known i (i - 1) before c.loop-at.auto.at g words c.put_types.new.words c.bring.new.words top
          (top - 4)
          (top - 4 + 4 * (c.from-shape.result % 256))
          (c.loop-at.invariant.3 g x)
          spot
          (ap (λ (n : ℕ). top - 4 + 4 * n) children)
          (c.put_types.ensures.types g x head (c.label_of-label.ensures g x.indexes ∙ ap (λ (n : Name). place same_name n g.labels) name)
          (sym (ap (leb 256) shape))
          ∙ ap (λ (n : ℕ). holds (types_for g head (tests_at words (top - 4 + 4) n) g.rules)) children)
          c.put_types.ensures.behind
          c.bring.ensures,
    )

pub returns : goal.returns
returns c =
    let d = c.args.document.now in
    let nodes = index_of c.args.names.now c.args.sizes.now c.args.shapes.now c.args.nodes in
    let last : c.loop-at.at ≡ 0 = omega arith in
    let one = c.requires.1.one_tree in
    let whole = subst (λ (n : ℕ). c.loop-at.top + 4 * tree_count (drop n (nodes_in d nodes)) ≡ 4 * c.args.nodes) last c.loop-at.invariant.2 in
    record {
      inside = omega (arith, whole, one, c.loop-at.invariant.1);
      types =
          λ g x t e.
          laws.stack_root g (nodes_in d nodes) c.loop-at.words c.loop-at.top one
          (subst (λ (n : ℕ). laws.Stacked g (drop n (nodes_in d nodes)) c.loop-at.words c.loop-at.top) last (c.loop-at.invariant.3 g x))
          t
          e;
    }
