-- The public call that reads a document, case by case.
use Prim.Native.Nat.{ℕ, ◌≤◌, ◌<◌}
use mathlib.Core.Bool.{false}
use mathlib.Core.List.{List, []}
use mathlib.Core.Path.{◌≡◌, refl, sym, ◌∙◌, ap}
use lib.ListN.{length}
use Rattle.grammar.specs.Limits.{Limits}
use Rattle.grammar.specs.Names.{Classes, loads, Loads}
use Rattle.grammar.specs.Tree.{Tree}
use Rattle.std.specs.Prelude.{Result, Err}
use Rattle.grammar.specs.declared.Refusal.{Refusal}
use Rattle.grammar.specs.Answers.{reading_numbers, numbers_of, reading}
use Rattle.grammar.specs.Documents.{read_document}
use Rattle.grammar.specs.declared.Format.{Format}
use Rattle.grammar.specs.Calls.{work_after, after, document_reads}
use Rattle.grammar.specs.Promises.{DocumentReading}
use Rattle.grammar.specs.declared.Refusal.TheVariants.{WorkTooShort, BadClasses}
use Rattle.theory.proofs.Theorems.AnswerNumbers.{reading_numbers_lem}
use Rattle.theory.proofs.Theorems.CallPromises.{lent_short, lent_enough, loaded, loaded_is, unloaded_is}
use Rattle.reader.proofs.CallLaws.{left_as, left_short}
use Rattle.documents.specs.declared.documents.DocumentIndex.{DocumentIndex}
use Rattle.documents.specs.DocumentNodes.{DocumentReads}
use Rattle.documents.proofs.DocumentAnswers.{document_answer}

module _ (lim : Limits) (classes : Classes) (format : Format) (document work : List ℕ) where
  pub document_unanswered : length work < lim.words
      → DocumentReading lim classes format document work (after (reading_numbers (Err WorkTooShort)) [] work)
  unfolding document_reads reading_numbers
  document_unanswered h =
      record { settled = left_short lim (λ d. 1) _ work h (lent_short lim work (loaded classes (read_document lim classes format document)) h) }

  module _ (h : lim.words ≤ length work) (left : List ℕ) (w : left ≡ work_after lim work) where
    document_told : (o : Result Tree Refusal) → loaded classes (read_document lim classes format document) ≡ o → (answer : Result (Unit {0}) Refusal) → answer ≡ reading o
        → DocumentReading lim classes format document work (after (reading_numbers answer) [] left)
    unfolding document_reads
    document_told o e answer a =
        record {
          settled =
              left_as lim (λ d. 1) _ work (reading_numbers answer) left
              (ap reading_numbers a
              ∙ reading_numbers_lem o
              ∙ ap (numbers_of (λ d. 1)) (sym (lent_enough lim work (loaded classes (read_document lim classes format document)) h ∙ e)))
              w;
        }

    pub document_unloaded : loads classes ≡ false
        → DocumentReading lim classes format document work (after (reading_numbers (Err BadClasses)) [] left)
    unfolding reading
    document_unloaded e = document_told (Err BadClasses) (unloaded_is classes _ e) (Err BadClasses) refl

    pub document_answered : Loads classes → (ix : DocumentIndex) (answer : Result (Unit {0}) Refusal)
        → DocumentReads lim classes format document ix answer
        → DocumentReading lim classes format document work (after (reading_numbers answer) [] left)
    document_answered load ix answer d =
        document_told (read_document lim classes format document) (loaded_is classes _ load) answer
        (sym (document_answer lim classes format document ix answer d))
