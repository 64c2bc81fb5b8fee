-- The public calls that write, case by case: too few working words, or what was made in the draft handed over.
use Prim.Native.Nat.{ℕ, ◌≤◌, ◌<◌}
use mathlib.Core.Bool.{not}
use mathlib.Core.List.{List}
use mathlib.Core.Path.{◌≡◌, refl, sym, ◌∙◌, ap}
use lib.ListN.{length}
use Rattle.grammar.specs.Limits.{Limits}
use Rattle.grammar.specs.LimitSets.{limits_of}
use Rattle.grammar.specs.declared.SizeLimits.{SizeLimits}
use Rattle.grammar.specs.Names.{Classes, loads}
use Rattle.grammar.specs.Tree.{Tree}
use Rattle.grammar.specs.Table.{Table}
use Rattle.grammar.specs.Kinds.{Kind}
use Rattle.std.specs.Prelude.{Result, Ok, Err}
use Rattle.grammar.specs.Outcome.{◌>>=◌, ◌>>◌, turn_back}
use Rattle.grammar.specs.declared.Refusal.{Refusal}
use Rattle.grammar.specs.Answers.{written_numbers, written}
use Rattle.grammar.specs.ReadTable.{read_table}
use Rattle.grammar.specs.Documents.{read_document}
use Rattle.grammar.specs.Widen.{widen, sample_table}
use Rattle.grammar.specs.Calls.{
  work_after,
  out_after,
  written_to,
  after,
  wrote,
  table_reads,
  document_reads,
  document_sample,
  read_addition,
  widened,
}
use Rattle.grammar.specs.Promises.{Sampling, Widening}
use Rattle.grammar.specs.declared.Format.{Format}
use Rattle.grammar.specs.declared.Source.{Source}
use Rattle.grammar.specs.declared.Refusal.TheVariants.{WorkTooShort, BadClasses}
use Rattle.theory.proofs.Bytes.NumberedTable.{sized_agree}
use Rattle.theory.proofs.Theorems.CallPromises.{lent_short, lent_enough, loaded, loaded_then, sampling, widening}
use Rattle.reader.proofs.AnswerLaws.{both_then_last}
use Rattle.writer.proofs.WroteLaws.{wrote_as, wrote_short}
use Rattle.drafting.specs.Drafting.{sample_of, sampled_from, widened_by, widened_from, HandedOver}

module _ (l : SizeLimits) where
  abbrev lim : Limits
  lim = limits_of l

  module _ (o : Result (List ℕ) Refusal) (out work : List ℕ) where
    -- what was made in a draft is handed over
    left_handed : (table : Result Table Refusal) → o ≡ (table >>= written_to out) → (answer : Result ℕ Refusal) (left work_left : List ℕ)
        → HandedOver table out left answer → work_left ≡ work_after lim work
        → after (written_numbers answer) left work_left ≡ wrote lim o out work
    left_handed table e answer left work_left d w =
        wrote_as lim o out work answer left work_left (d.0 ∙ sym (ap written e)) (d.1 ∙ sym (ap (λ (x : Result (List ℕ) Refusal). out_after x out) e)) w

  -- steps in a row, and the last of them apart
  then_last : {A B C : Type 0} (x : Result A Refusal) (f : A → Result B Refusal) (k : B → Result C Refusal) → (x >>= λ a. (f a >>= k)) ≡ ((x >>= f) >>= k)
  then_last (Err r) f k = refl
  then_last (Ok a) f k = refl

  -- the classes are tried before any step, and the last step is apart
  tried_then_last : {A B : Type 0} (classes : Classes) (x : Result A Refusal) (steps : A → Result B Refusal) (o : Result Table Refusal) (k : Table → Result B Refusal)
      → (x >>= steps) ≡ (o >>= k) → (loaded classes x >>= steps) ≡ (loaded classes o >>= k)
  tried_then_last {A} {B} classes x steps o k e =
      loaded_then classes x steps
      ∙ ap (λ (y : Result B Refusal). turn_back (not (loads classes)) BadClasses >> y) e
      ∙ sym (loaded_then classes o k)

  -- the sample
  module _ (classes : Classes) (format : Format) (document out work : List ℕ) where
    abbrev sample_steps : Tree → Result (List ℕ) Refusal
    sample_steps d = sample_table lim d >>= λ g. written_to out g

    pub sample_unanswered : length work < lim.words
        → Sampling lim classes format document out work (after (written_numbers (Err WorkTooShort)) out work)
    unfolding document_sample document_reads
    sample_unanswered h =
        sampling lim classes (sized_agree l.rules l.nodes l.levels l.words) format document out work _
        (wrote_short lim _ out work
        (ap (λ (o : Result Tree Refusal). o >>= sample_steps) (lent_short lim work (loaded classes (read_document lim classes format document)) h))
        h)

    sample_enough : lim.words ≤ length work
        → document_sample lim classes format document out work ≡ (sampled_from lim classes format document >>= written_to out)
    unfolding document_sample document_reads sampled_from sample_of
    sample_enough h =
        ap (λ (o : Result Tree Refusal). o >>= sample_steps) (lent_enough lim work (loaded classes (read_document lim classes format document)) h)
        ∙ tried_then_last classes (read_document lim classes format document) sample_steps (sample_of lim classes format document) (written_to out)
        (then_last (read_document lim classes format document) (λ d. sample_table lim d) (written_to out))

    pub sample_answered : lim.words ≤ length work → (answer : Result ℕ Refusal) (left work_left : List ℕ)
        → HandedOver (sampled_from lim classes format document) out left answer → work_left ≡ work_after lim work
        → Sampling lim classes format document out work (after (written_numbers answer) left work_left)
    sample_answered h answer left work_left d w =
        sampling lim classes (sized_agree l.rules l.nodes l.levels l.words) format document out work _
        (left_handed _ out work (sampled_from lim classes format document) (sample_enough h) answer left work_left d w)

  -- a widening
  module _ (classes : Classes) (kind : Kind) (source : Source) (old addition : List ℕ) (out work : List ℕ) where
    abbrev widening_steps : Table → Result (List ℕ) Refusal
    widening_steps g = read_addition lim classes source addition >>= λ a. (widen lim kind g a >>= λ r. written_to out r)

    pub widening_unanswered : length work < lim.words
        → Widening lim classes kind source old addition out work (after (written_numbers (Err WorkTooShort)) out work)
    unfolding widened table_reads
    widening_unanswered h =
        widening lim classes (sized_agree l.rules l.nodes l.levels l.words) kind source old addition out work _
        (wrote_short lim _ out work
        (ap (λ (o : Result Table Refusal). o >>= widening_steps) (lent_short lim work (loaded classes (read_table lim classes old)) h))
        h)

    widening_enough : lim.words ≤ length work
        → widened lim classes kind source old addition out work ≡ (widened_from lim classes source kind old addition >>= written_to out)
    unfolding widened table_reads widened_from widened_by
    widening_enough h =
        ap (λ (o : Result Table Refusal). o >>= widening_steps) (lent_enough lim work (loaded classes (read_table lim classes old)) h)
        ∙ tried_then_last classes (read_table lim classes old) widening_steps
        (read_table lim classes old >>= λ g. widened_by lim classes source kind g addition) (written_to out)
        (both_then_last (read_table lim classes old) (read_addition lim classes source addition) (λ g a. widen lim kind g a) (written_to out))

    pub widening_answered : lim.words ≤ length work → (answer : Result ℕ Refusal) (left work_left : List ℕ)
        → HandedOver (widened_from lim classes source kind old addition) out left answer → work_left ≡ work_after lim work
        → Widening lim classes kind source old addition out work (after (written_numbers answer) left work_left)
    widening_answered h answer left work_left d w =
        widening lim classes (sized_agree l.rules l.nodes l.levels l.words) kind source old addition out work _
        (left_handed _ out work (widened_from lim classes source kind old addition) (widening_enough h) answer left work_left d w)
