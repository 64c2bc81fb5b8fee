-- `text_pairs` meets its contract. The loop's invariant: of the rules before `i`, the pairs of those that mark them are in the set.
use Prim.Native.Nat.{ℕ, ◌<◌}
use native.Mathlib.Omega.{arith}
use mathlib.Core.Bool.{true}
use mathlib.Core.List.{List}
use mathlib.Core.Path.{◌≡◌, refl, sym, ◌∙◌, ap}
use lib.ListN.{length, get_or, length-replicate}
use borrow.Author.Rules.{rules}
use Rattle.sets.specs.Sets.{member, nothing}
use Rattle.sets.proofs.SetLaws.{member_zeros}
use Rattle.union.specs.View.{first_in}
use Rattle.union.specs.Rounds.{puts}
use Rattle.union.specs.PairNumbers.{rule_numbered, fruitful_of, is_marking}
use Rattle.union.proofs.PutsLaws.{puts_start, puts_step, put_in}
use Rattle.forms.proofs.NumberLists.{puts_off}
use Rattle.results.proofs.TextLaws.{text_pairs}
use Rattle.results.proofs.text_pairs.text_pairs.Goals as goal
use Rattle.results.proofs.text_pairs.text_pairs.Goals.{then-rule_marks, else-rule_marks}

pub loop-i-init : goal.loop-i-init
loop-i-init c = (
  λ u x typed. puts_start _ _ _ _ (ap (λ (w : List ℕ). member w 0) c.empty-set.ensures ∙ member_zeros 8 0),
  ap length c.empty-set.ensures ∙ length-replicate {A = ℕ} 8 0,
)

pub loop-i-preserved : goal.loop-i-preserved
loop-i-preserved c =
    let i = c.loop-i.i in
    let long = c.loop-i.invariant.1 in
    let key : ℕ → ℕ = λ j. get_or c.args.v.firsts j 0 in
    let small : key i < 256 = search rules in
    elim c.if-rule_marks.branch [
      | then-rule_marks w ↦
          let put = put_in true _ _ w.from.result refl w.with-set.ensures (rw w.from.ensures small) long in
          rw w.set-is (
            λ u x typed.
                puts_step _ key nothing i _ _ true _ (c.loop-i.invariant.0 u x typed) put.0
                (sym w.if-rule_marks.true ∙ c.rule_marks.ensures u x typed) w.from.ensures,
            put.1,
          )
      | else-rule_marks w ↦
          rw w.set-is (
            λ u x typed.
                puts_off _ key nothing i _ (c.loop-i.invariant.0 u x typed)
                (sym (c.rule_marks.ensures u x typed) ∙ w.if-rule_marks.false),
            long,
          )
    ]

pub returns : goal.returns
returns c =
    let v = c.args.v in
    let e : c.loop-i.i ≡ v.rules = omega arith in (
      λ u x lists.
          c.loop-i.invariant.0 u x (c.types_listed-types.ensures.0 (fruitful_of u) lists)
          ∙ ap (puts (λ j. is_marking u (rule_numbered u j)) (first_in v) nothing) e
          ∙ text_pairs x,
      c.loop-i.invariant.1,
    )
