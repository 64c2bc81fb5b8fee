-- `start_numbers` meets its contract. The loop's invariant: the set has the numbers of the start pairs before `p`.
use Prim.Native.Nat.{ℕ, ◌<◌}
use native.Mathlib.Omega.{arith}
use mathlib.Core.Bool.{true}
use mathlib.Core.List.{List}
use mathlib.Core.Path.{◌≡◌, refl, sym, ◌∙◌, ap}
use lib.ListN.{length, get_or, length-replicate}
use borrow.Author.Rules.{rules}
use Rattle.sets.specs.Sets.{member, nothing}
use Rattle.sets.proofs.SetLaws.{member_zeros, eight_set, stored_kept}
use Rattle.union.specs.Places.{start_types_at}
use Rattle.union.specs.Rounds.{puts}
use Rattle.union.proofs.PutsLaws.{puts_start, puts_step, put_in}
use Rattle.forms.proofs.NumberLists.{puts_off}
use Rattle.steps.proofs.start_types.start_numbers.Goals as goal
use Rattle.steps.proofs.start_types.start_numbers.Goals.{then-has, else-has}

pub loop-p-init : goal.loop-p-init
loop-p-init c =
    let zeros = c.empty-set.ensures in (
      puts_start _ _ _ _ (ap (λ (w : List ℕ). member w 0) zeros ∙ member_zeros 8 0),
      ap length zeros ∙ length-replicate {A = ℕ} 8 0,
    )

pub loop-p-preserved : goal.loop-p-preserved
loop-p-preserved c =
    let p = c.loop-p.p in
    let long = c.loop-p.invariant.1 in
    let key : ℕ → ℕ = λ q. get_or c.args.numbers.of (get_or c.args.v.labels q 0) 0 in
    elim c.if-has.branch [
      | then-has w ↦
          let here : w.from.result ≡ key p = w.from.ensures ∙ ap (λ (l : ℕ). get_or c.args.numbers.of l 0) w.from-label.ensures in
          let small : w.from.result < 256 = search rules in
          let put = put_in true _ _ w.from.result refl w.with-set.ensures small long in
          rw w.set-is (puts_step _ key nothing p _ _ true _ c.loop-p.invariant.0 put.0 (sym w.if-has.true ∙ c.has.ensures) here, put.1)
      | else-has w ↦ rw w.set-is (puts_off _ key nothing p _ c.loop-p.invariant.0 (sym c.has.ensures ∙ w.if-has.false), long)
    ]

pub returns : goal.returns
returns c =
    let key : ℕ → ℕ = λ q. get_or c.args.numbers.of (get_or c.args.v.labels q 0) 0 in
    let e : c.loop-p.p ≡ c.args.v.rules = omega arith in (
      eight_set _ start_types_at _ _ (omega arith) c.loop-p.invariant.1 c.store.ensures
          ∙ c.loop-p.invariant.0
          ∙ ap (puts (member c.load-starts.result.words 0) key nothing) e
          ∙ ap (λ (w : List ℕ). puts (member w 0) key nothing c.args.v.rules) c.load-starts.ensures,
      stored_kept _ start_types_at 8 _ _ (omega arith) c.loop-p.invariant.1 c.store.ensures,
    )
