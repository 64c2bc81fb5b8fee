-- `more_sets` meets its contract. The loop's invariant: the sets in the words are found, and those below `next` have been looked into.
use Prim.Native.Nat.{ℕ}
use native.Mathlib.Omega.{arith}
use mathlib.Core.List.{List}
use mathlib.Core.Path.{ap}
use Rattle.sets.specs.Sets.{member}
use Rattle.union.specs.PairNumbers.{is_start}
use Rattle.forms.specs.SetForms.{label_sets}
use Rattle.forms.proofs.SetsFound.{found_start}
use Rattle.forms.proofs.WorklistLaws.{next_set, next_met, look_more, look_many, look_all}
use Rattle.forms.proofs.worklist.more_sets.Goals as goal

pub loop-next-init : goal.loop-next-init
loop-next-init c = (
  c.requires.3,
  λ lim u types x lists held counted. record { sets = label_sets u (is_start u); found = found_start u lim; counted = counted; held = held },
)

pub returns-in_err-total : goal.returns-in_err-total
returns-in_err-total c =
    λ lim u types x lists held counted.
    let h = c.loop-next-test.true in
    let st = c.loop-next.invariant.1 lim u types x lists held counted in
    let set = c.load-set.result.words in
    rw c.from_residual.ensures
    (look_many st h c.args.most types c.loop-next.invariant.0 _ _
    (c.add_met.ensures.0 c.args.old.now c.args.add.now u st.sets (next_set st h) x st.held st.counted st.found.once
    (next_met st h set _ (ap (λ (w : List ℕ). member w 0) c.load-set.ensures) (c.met_in_set-found.ensures.0 u x lists)))
    c.in_err-total.was)

pub loop-next-preserved : goal.loop-next-preserved
loop-next-preserved c =
    let h = c.loop-next-test.true in
    let set = c.load-set.result.words in (
      c.add_met.ensures.1 _ c.in_ok-total.was,
      λ lim u types x lists held counted.
          let st = c.loop-next.invariant.1 lim u types x lists held counted in
          look_more st h c.args.most types c.loop-next.invariant.0 _ _
          (c.add_met.ensures.0 c.args.old.now c.args.add.now u st.sets (next_set st h) x st.held st.counted st.found.once
          (next_met st h set _ (ap (λ (w : List ℕ). member w 0) c.load-set.ensures) (c.met_in_set-found.ensures.0 u x lists)))
          _
          c.in_ok-total.was,
    )

pub returns : goal.returns
returns c =
    λ lim u types x lists held counted.
    look_all (c.loop-next.invariant.1 lim u types x lists held counted) (omega arith) c.args.most c.loop-next.invariant.0
