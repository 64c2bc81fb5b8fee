-- `documents::node_of` meets its contract: each way through the code is a case of `read_node`.
use Prim.Native.Nat.{ℕ, ◌+◌, ◌-◌, ◌%◌}
use native.Mathlib.Omega.{arith}
use mathlib.Core.Path.{sym, ◌∙◌, ap}
use Rattle.grammar.specs.LimitSets.{limits_of}
use Rattle.grammar.specs.Fields.{fields_of}
use mathlib.Core.Bool.{true}
use lib.Dec.{eqb}
use lib.ListN.{drop}
use Rattle.grammar.specs.ReadDocument.{node_tag, with_node}
use Rattle.documents.specs.DocumentNodes.{node_from}
use Rattle.documents.specs.DocumentSteps.{rest_of}
use Rattle.documents.proofs.DocumentFields.{node_foreign, node_short, node_long, node_misnamed, node_misplaced, node_here, good_counts, shape_children, shape_small}
use Rattle.documents.proofs.documents.node_of.Goals as goal

pub returns-then-not-is_node_tag : goal.returns-then-not-is_node_tag
returns-then-not-is_node_tag c =
    let s = c.args.s.now in
    let lim = limits_of c.args.limits in
    λ o z.
    node_foreign s c.args.from c.args.to c.requires.from_le_to.0 c.requires.from_le_to.1 lim c.args.classes.now c.args.tag (fields_of (drop c.args.to s)) o
    (sym c.is_node_tag.ensures ∙ c.if-not-is_node_tag.true)

pub returns-then-size-lt2 : goal.returns-then-size-lt2
returns-then-size-lt2 c =
    let s = c.args.s.now in
    let lim = limits_of c.args.limits in
    λ o z. node_short s c.args.from c.args.to c.requires.from_le_to.0 c.requires.from_le_to.1 lim c.args.classes.now c.args.tag (fields_of (drop c.args.to s)) o (omega arith)

pub returns-then-size-gt-NAME : goal.returns-then-size-gt-NAME
returns-then-size-gt-NAME c =
    let s = c.args.s.now in
    let lim = limits_of c.args.limits in
    λ o z. node_long s c.args.from c.args.to c.requires.from_le_to.0 c.requires.from_le_to.1 lim c.args.classes.now c.args.tag (fields_of (drop c.args.to s)) o (omega arith)

pub is_name-requires : goal.is_name-requires
is_name-requires c = c.requires.in_bounds

pub returns-then-bad_node : goal.returns-then-bad_node
returns-then-bad_node c =
    let s = c.args.s.now in
    let lim = limits_of c.args.limits in
    λ o z.
    node_misplaced s c.args.from c.args.to c.requires.from_le_to.0 c.requires.from_le_to.1 lim c.args.classes.now c.args.tag (fields_of (drop c.args.to s)) o
    (sym c.is_node_tag.ensures ∙ c.if-not-is_node_tag.false) (omega arith) (omega arith)
    c.args.nodes c.args.depth c.from-children.result c.from-children.ensures z
    (sym c.is_name.ensures ∙ c.if-not-is_name.false)
    (sym c.bad_node.ensures ∙ c.if-bad_node.true)

pub shape_of-requires : goal.shape_of-requires
shape_of-requires c =
    let good = sym c.bad_node.ensures ∙ c.if-bad_node.false in
    let few = (good_counts (limits_of c.args.limits) c.args.nodes c.from-children.result c.args.depth good).few in
    omega arith

pub returns : goal.returns
returns c =
    let s = c.args.s.now in
    let lim = limits_of c.args.limits in
    let good = sym c.bad_node.ensures ∙ c.if-bad_node.false in
    let counts = good_counts lim c.args.nodes c.from-children.result c.args.depth good in
    let shape = c.shape_of.ensures in
    let text = eqb c.args.tag (node_tag true) in
    let few = counts.few in
    let children = shape_children text c.from-children.result (omega arith) in
    let small = shape_small text c.from-children.result (omega arith) in
    let rest = ap (λ (k : ℕ). k % 256) shape in
    record {
      forward = omega arith;
      order = omega arith;
      within = c.requires.from_le_to.1;
      room = counts.room;
      some_level = counts.some_level;
      level = counts.level;
      few = omega arith;
      small = omega arith;
      goes =
          λ o z.
          node_here s c.args.from c.args.to c.requires.from_le_to.0 c.requires.from_le_to.1 lim c.args.classes.now c.args.tag (fields_of (drop c.args.to s)) o
          (sym c.is_node_tag.ensures ∙ c.if-not-is_node_tag.false) (omega arith) (omega arith)
          c.args.nodes c.args.depth c.from-children.result c.from-children.ensures z (omega arith)
          (sym c.is_name.ensures ∙ c.if-not-is_name.false)
          good
          ∙ ap (λ (k : ℕ). rest_of lim c.args.classes.now (with_node o (node_from s (c.args.from + 1) (c.args.to - (c.args.from + 1)) k)) (fields_of (drop c.args.to s))) (sym shape);
    }

pub returns-then-not-is_name : goal.returns-then-not-is_name
returns-then-not-is_name c =
    let s = c.args.s.now in
    let lim = limits_of c.args.limits in
    λ o z.
    node_misnamed s c.args.from c.args.to c.requires.from_le_to.0 c.requires.from_le_to.1 lim c.args.classes.now c.args.tag (fields_of (drop c.args.to s)) o
    (sym c.is_node_tag.ensures ∙ c.if-not-is_node_tag.false) (omega arith) (omega arith)
    (sym c.is_name.ensures ∙ c.if-not-is_name.true)
