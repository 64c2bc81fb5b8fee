use Prim.Native.Nat.{ℕ, ◌+◌, ◌<◌}
use native.Mathlib.Omega.{arith}
use mathlib.Core.Bool.{Bool}
use mathlib.Core.List.{List}
use mathlib.Core.Path.{◌≡◌, refl, sym, ◌∙◌, ap, subst}
use Rattle.theory.specs.Marked.{holds}
use Rattle.reader.specs.TableIndex.{rule_label, rule_count}
use Rattle.walks.specs.TypeSets.{tests_at}
use Rattle.labels.specs.Chains.{PlaceFrom}
use Rattle.node_types.specs.NodeTypes.{rule_fits, types_for}
use Rattle.node_types.proofs.StackLaws.{tests_behind}
use Rattle.node_types.proofs.TypeLaws as laws
use Rattle.node_types.proofs.membership.put_types.Goals as goal

pub loop-i-init : goal.loop-i-init
loop-i-init c =
    let index = c.args.index.now in
    let first = c.store.new.words in
    let tests = tests_at first (c.args.node.at + 4) c.args.node.children in
    let at = subst (PlaceFrom (rule_label index) (rule_count index) c.args.label 0) (sym c.from-i.ensures) (c.requires.1.first c.args.label c.requires.3) in (
      omega (arith, at.within),
      refl,
      refl,
      refl,
      λ h. at.found (omega arith),
      λ g x h named marked.
          laws.types_passed x h tests c.args.label named _ 0 c.from-i.result at
          ((laws.emptied c.args.words.now first _ c.args.node.at (omega arith) c.empty.ensures c.store.ensures).0 ∙ sym (laws.types_none g h tests)),
    )

pub put_if-requires : goal.put_if-requires
put_if-requires c =
    let type = (laws.known_rule c.requires.0.held c.loop-i.i (omega (arith, c.loop-i-test.true, c.rule_count-rules.ensures))).type_below in
    (omega (arith, c.rule_type.ensures), omega (arith, c.loop-i.invariant.2, c.store.auto.words))

pub loop-i-preserved : goal.loop-i-preserved
loop-i-preserved c =
    let index = c.args.index.now in
    let i = c.loop-i.i in
    let old = c.loop-i.words in
    let first = c.store.new.words in
    let below : i < rule_count index = omega (arith, c.loop-i-test.true) in
    let tests = tests_at first (c.args.node.at + 4) c.args.node.children in
    let same : tests_at old (c.args.node.at + 4) c.args.node.children ≡ tests = tests_behind first old (c.args.node.at + 4) c.loop-i.invariant.3 c.args.node.children (c.args.node.at + 4) (omega arith) in
    let onward : PlaceFrom (rule_label index) (rule_count index) c.args.label (i + 1) c.from-i-in-loop-i.result =
    subst (λ (k : ℕ). PlaceFrom (rule_label index) (rule_count index) k (i + 1) c.from-i-in-loop-i.result) (c.loop-i.invariant.4 c.loop-i-test.true)
    (subst (PlaceFrom (rule_label index) (rule_count index) (rule_label index i) (i + 1)) (sym c.from-i-in-loop-i.ensures) (c.requires.1.after i below)) in (
      omega (arith, onward.within),
      c.rule_fits-fits.auto.marks ∙ c.loop-i.invariant.1,
      c.put_if.auto.words ∙ c.loop-i.invariant.2,
      c.put_if.ensures.behind ∙ c.loop-i.invariant.3,
      λ h. onward.found (omega arith),
      λ g x h named marked.
          let rule = laws.known_rule x i below in
          laws.types_passed x h tests c.args.label named _ (i + 1) c.from-i-in-loop-i.result onward
          (laws.types_step g h tests i rule.rule rule.listed old c.put_if.new.words c.args.node.at c.rule_fits-fits.result c.rule_type.result
          (c.rule_fits-fits.ensures g x rule.rule rule.listed h marked (laws.asked_named x i below h c.args.label named (c.loop-i.invariant.4 c.loop-i-test.true))
          ∙ ap (λ (ts : List (ℕ → Bool)). rule_fits g h ts rule.rule) same)
          (c.rule_type.ensures ∙ rule.at.type)
          c.put_if.ensures
          (c.loop-i.invariant.5 g x h named marked)),
    )

pub returns : goal.returns
returns c =
    let first = c.store.new.words in
    let empty = laws.emptied c.args.words.now first _ c.args.node.at (omega arith) c.empty.ensures c.store.ensures in
    record {
      types =
          λ g x h named marked.
          let all = x.indexes.rules in
          c.loop-i.invariant.5 g x h named marked
          ∙ ap holds (laws.types_all g h (tests_at first (c.args.node.at + 4) c.args.node.children) c.loop-i.i (omega arith))
          ∙ ap (λ (ts : List (ℕ → Bool)). holds (types_for g h ts g.rules))
          (tests_behind c.args.words.now first (c.args.node.at + 4) empty.1 c.args.node.children (c.args.node.at + 4) (omega arith));
      behind = c.loop-i.invariant.3 ∙ empty.1;
    }
