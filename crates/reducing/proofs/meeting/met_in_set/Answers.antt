-- `met_in_set` meets its contract. The loop's invariant: the pairs met in the contents of the set's pairs before `p` are added.
use Prim.Native.Nat.{ℕ, ◌≤◌}
use native.Mathlib.Omega.{arith}
use mathlib.Core.Bool.{Bool}
use mathlib.Core.List.{List}
use mathlib.Core.Path.{◌≡◌, sym, ◌∙◌, ap}
use lib.ListN.{length, take, length-replicate}
use lib.Dec.{eqb}
use Rattle.grammar.specs.Lists.{distinct, joined_of, numbers_below}
use Rattle.grammar.specs.Table.{Table}
use Rattle.theory.specs.Alternatives.{only_if}
use Rattle.sets.specs.Sets.{member}
use Rattle.reducing.specs.PairsMet.{met_in_pair, Meets}
use Rattle.reducing.proofs.ListingLaws.{filled_zeros}
use Rattle.reducing.proofs.MeetingLaws.{meets_start, meets_next, meets_on, meets_off, set_met}
use Rattle.reducing.proofs.meeting.met_in_set.Goals as goal
use Rattle.reducing.proofs.meeting.met_in_set.Goals.{then-has, else-has}

abbrev of_pair : (ℕ → Bool) → Table → ℕ → List ℕ
of_pair set u p = only_if (set p) (met_in_pair u p)

pub loop-p-init : goal.loop-p-init
loop-p-init c = (meets_start (of_pair (member c.args.set.words 0)) _ _ filled_zeros.once, length-replicate {A = ℕ} 256 0)

pub loop-p-preserved : goal.loop-p-preserved
loop-p-preserved c =
    let p = c.loop-p.p in
    let set = member c.args.set.words 0 in
    let pair = λ (u : Table). met_in_pair u p in
    let before = take c.loop-p.count c.loop-p.numbers in
    let met : Meets c.args.old.now c.args.add.now c.args.v c.args.lists (λ u. of_pair set u p) before c.if-has.numbers c.if-has.count =
    elim c.if-has.branch [
      | then-has w ↦
          rw (w.numbers-is, w.count-is)
          (meets_on (set p) pair _ _ _ (sym c.has.ensures ∙ w.if-has.true) w.met_in_pair-count.ensures)
      | else-has w ↦
          rw (w.numbers-is, w.count-is)
          (meets_off (set p) pair _ _ (sym c.has.ensures ∙ w.if-has.false) c.loop-p.invariant.0.once)
    ] in
    let long : length c.if-has.numbers ≡ 256 =
    elim c.if-has.branch [
      | then-has w ↦ rw w.numbers-is (w.met_in_pair-count.auto.list ∙ c.loop-p.invariant.1)
      | else-has w ↦ rw w.numbers-is c.loop-p.invariant.1
    ] in
    (meets_next (of_pair set) p _ _ _ _ _ c.loop-p.invariant.0 met, long)

pub returns : goal.returns
returns c =
    let set = member c.args.set.words 0 in
    let few : c.loop-p.count ≤ 256 = omega arith in
    let e : c.loop-p.p ≡ c.args.v.rules = omega arith in (
      λ u x l.
          (c.loop-p.invariant.0.adds u x l).all
          ∙ ap (λ (n : ℕ). distinct eqb (joined_of (of_pair set u) (numbers_below n))) e
          ∙ ap (distinct eqb) (set_met x set),
      record { once = c.loop-p.invariant.0.once; few = few },
    )
