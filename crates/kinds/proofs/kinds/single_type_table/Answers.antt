use native.Mathlib.Omega.{arith}
use mathlib.Core.Path.{sym, ◌∙◌}
use Rattle.kinds.proofs.IndexedKinds.{types_below, pairs_repeated, starts_compete, then_contents}
use Rattle.kinds.proofs.kinds.single_type_table.Goals as goal

pub returns-then-not-distinct_pairs : goal.returns-then-not-distinct_pairs
returns-then-not-distinct_pairs c = λ g x. sym (pairs_repeated g _ (c.distinct_pairs.ensures _ g x) c.if-not-distinct_pairs.true)

pub start_types-requires : goal.start_types-requires
start_types-requires c = (types_below c.requires.0, c.requires.1)

pub none_compete-requires : goal.none_compete-requires
none_compete-requires c = (types_below c.requires.0, omega arith)

pub returns-then-none_compete : goal.returns-then-none_compete
returns-then-none_compete c =
    λ g x.
    c.none_compete_in_any.ensures g x
    ∙ sym (then_contents g _ (c.distinct_pairs.ensures _ g x) _
    (c.none_compete.ensures _ g g.starts x (c.start_types.ensures _ g x)) c.if-not-distinct_pairs.false c.if-none_compete.true)

pub returns-else-none_compete : goal.returns-else-none_compete
returns-else-none_compete c =
    λ g x.
    c.if-none_compete.false
    ∙ sym (starts_compete g _ (c.distinct_pairs.ensures _ g x) _
    (c.none_compete.ensures _ g g.starts x (c.start_types.ensures _ g x)) c.if-not-distinct_pairs.false c.if-none_compete.false)
