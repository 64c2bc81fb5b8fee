-- `labelled_pairs` meets its contract.
use Prim.Native.Nat.{ℕ, ◌<◌}
use native.Mathlib.Omega.{arith}
use mathlib.Core.Bool.{Bool, true, false, ◌&&◌}
use mathlib.Core.List.{List}
use mathlib.Core.Path.{◌≡◌, refl, sym, ◌∙◌, ap}
use lib.Dec.{eqb}
use lib.ListN.{get_or}
use Rattle.std.proofs.lemmas.Bool.Decides.{nat_tests}
use Rattle.grammar.specs.Lists.{is_in}
use Rattle.sets.specs.Sets.{member, nothing}
use Rattle.sets.proofs.SetLaws.{member_zeros}
use Rattle.union.specs.Rounds.{puts}
use Rattle.union.proofs.PutsLaws.{puts_start, puts_step, put_in}
use Rattle.forms.proofs.NumberLists.{puts_kept, puts_off}
use Rattle.forms.proofs.LabelLaws.{labelled_is}
use Rattle.forms.proofs.label_sets.labelled_pairs.Goals as goal
use Rattle.forms.proofs.label_sets.labelled_pairs.Goals.{then-has+then-own-label, else-has, else-has-via-then-has+else-own-label, else-has-via-else-has}

pub loop-p-init : goal.loop-p-init
loop-p-init c = (puts_start _ _ _ _ (ap (λ (w : List ℕ). member w 0) c.empty-set.ensures ∙ member_zeros 8 0), rw c.empty-set.ensures refl)

pub loop-p-preserved : goal.loop-p-preserved
loop-p-preserved c =
    let p = c.loop-p.p in
    let on : ℕ → Bool = λ j. member c.args.pairs.words 0 j && eqb (get_or c.args.v.labels j 0) c.args.label in
    let small : p < 256 = omega arith in
    let long = c.loop-p.invariant.1 in
    elim c.if-has.branch [
      | then-has+then-own-label w ↦
          let e : on p ≡ true = grind (arith, nat_tests) in
          let put = put_in true _ _ p refl w.with-set.ensures small long in
          rw w.set-is (puts_step on (λ j. j) nothing p _ _ true p c.loop-p.invariant.0 put.0 (sym e) refl, put.1)
      | else-has w ↦
          let e : on p ≡ false =
          elim w.else-has.branch [
            | else-has-via-then-has+else-own-label f ↦ grind (arith, nat_tests)
            | else-has-via-else-has f ↦ grind (arith, nat_tests)
          ] in
          rw w.set-is
          (puts_off on (λ j. j) nothing p _ c.loop-p.invariant.0 e, long)
    ]

pub returns : goal.returns
returns c =
    let on : ℕ → Bool = λ j. member c.args.pairs.words 0 j && eqb (get_or c.args.v.labels j 0) c.args.label in
    let e : c.loop-p.p ≡ c.args.v.rules = omega arith in (
      λ old add u x.
          c.loop-p.invariant.0
          ∙ ap (puts on (λ j. j) nothing) e
          ∙ puts_kept on c.args.v.rules
          ∙ ap (λ (l : List ℕ). λ (p : ℕ). is_in p l) (labelled_is x (member c.args.pairs.words 0) c.args.label),
      c.loop-p.invariant.1,
    )
