-- What a call that writes leaves, by its outcome: wrote_as ; wrote_short, one that was lent too few words
use Prim.Native.Nat.{ℕ, ◌<◌}
use mathlib.Core.List.{List}
use mathlib.Core.Path.{◌≡◌, sym, ◌∙◌, ap}
use lib.ListN.{length}
use Rattle.grammar.specs.Limits.{Limits}
use Rattle.std.specs.Prelude.{Result, Err}
use Rattle.grammar.specs.declared.Refusal.{Refusal}
use Rattle.grammar.specs.Answers.{Numbers, written_numbers, numbers_of, written}
use Rattle.grammar.specs.Calls.{work_after, out_after, after, wrote}
use Rattle.grammar.specs.declared.Refusal.TheVariants.{WorkTooShort}
use Rattle.theory.proofs.Theorems.AnswerNumbers.{written_numbers_lem}
use Rattle.basis.proofs.WorkLaws.{work_kept}

module _ (lim : Limits) (o : Result (List ℕ) Refusal) (out work : List ℕ) where
  pub wrote_as : (answer : Result ℕ Refusal) (left work_left : List ℕ) → answer ≡ written o → left ≡ out_after o out → work_left ≡ work_after lim work
      → after (written_numbers answer) left work_left ≡ wrote lim o out work
  unfolding wrote
  wrote_as answer left work_left a l w =
      ap (λ (n : Numbers). after n left work_left) (ap written_numbers a ∙ written_numbers_lem o)
      ∙ ap (λ (x : List ℕ). after (numbers_of length o) x work_left) l
      ∙ ap (λ (x : List ℕ). after (numbers_of length o) (out_after o out) x) w

  pub wrote_short : o ≡ Err WorkTooShort → length work < lim.words
      → after (written_numbers (Err WorkTooShort)) out work ≡ wrote lim o out work
  unfolding written out_after
  wrote_short e h =
      wrote_as (Err WorkTooShort) out work (sym (ap written e)) (sym (ap (λ (x : Result (List ℕ) Refusal). out_after x out) e)) (work_kept lim work h)
