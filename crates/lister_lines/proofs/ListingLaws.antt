-- What the lister prints, by what the widening call gives, where the call is lent enough and the classes load: a refusal is the lister's
-- own, and bytes read as the table that the lister prints.
--   standard_size, standard_read : the limits that it reads with
--   listing_refused, listing_written : by the call's outcome ; list_refused, list_inside, list_written : by its answer and the output
use Prim.Native.Nat.{ℕ, ◌-◌, ◌≤◌}
use native.Mathlib.Omega.{arith}
use mathlib.Core.List.{List, ◌++◌}
use mathlib.Core.Path.{◌≡◌, refl, sym, ◌∙◌, ap}
use lib.ListN.{length, take, drop, length-append}
use lib.Seq.{take-append_seam}
use lib.Dec.{ltb}
use borrow.Author.Tests.{le-ltb}
use Rattle.grammar.specs.Limits.{Limits, standard, input_limit, LimitsAgree}
use Rattle.grammar.specs.LimitSets.{size_limits, limits_of}
use Rattle.grammar.specs.Names.{Classes, Loads}
use Rattle.grammar.specs.Tree.{Tree}
use Rattle.grammar.specs.Table.{Table}
use Rattle.grammar.specs.Kinds.{local}
use Rattle.grammar.specs.Least.{by_document}
use Rattle.std.specs.Prelude.{Result, Ok, Err}
use Rattle.grammar.specs.Outcome.{◌>>=◌}
use Rattle.grammar.specs.ReadTable.{read_table}
use Rattle.grammar.specs.Documents.{read_document}
use Rattle.grammar.specs.WriteTable.{table_bytes}
use Rattle.grammar.specs.WithinLimits.{TableWithin}
use Rattle.grammar.specs.Widen.{widen}
use Rattle.grammar.specs.Calls.{table_reads, out_after, written_to, read_addition, widened, After, after, wrote}
use Rattle.grammar.specs.Answers.{Numbers, written_numbers, numbers_of}
use Rattle.grammar.specs.declared.Format.TheVariants.{DocumentFile}
use Rattle.grammar.specs.declared.Size.TheVariants.{Standard}
use Rattle.grammar.specs.declared.SizeLimits.{SizeLimits}
use Rattle.grammar.specs.declared.Source.TheVariants.{Document as a_document}
use Rattle.grammar.specs.Listing.{refusal_line, outcome_text, listing}
use Rattle.grammar.specs.declared.Refusal.{Refusal}
use Rattle.grammar.specs.declared.Refusal.TheVariants.{OutputTooShort}
use Rattle.theory.proofs.Bytes.OutcomeLaws.{no_fault, was_given, given_eq}
use Rattle.theory.proofs.Bytes.NumberedTable.{sized_agree}
use Rattle.theory.proofs.Bytes.ReadWithin.{read_within}
use Rattle.theory.proofs.Bytes.TreeRead.{tree_within}
use Rattle.theory.proofs.Theorems.ResultWithin.{document_result_within, document_result_read_back}
use Rattle.theory.proofs.Theorems.AnswerNumbers.{was_written, was_unwritten}
use Rattle.theory.proofs.Theorems.CallPromises.{lent-loaded}
use Rattle.reader.proofs.AnswerLaws.{never_given}
use Rattle.writer.specs.Writing.{Put}
use Rattle.lister_lines.proofs.PrintSteps.{put_as}

standard_agree : LimitsAgree standard
unfolding standard
standard_agree = sized_agree 64 1024 64 16384

-- the limits of the standard size are those of the lister
pub standard_size : size_limits Standard ≡ standard
unfolding size_limits
standard_size = refl

pub standard_read : (l : SizeLimits) → limits_of l ≡ size_limits Standard → (classes : Classes) (s : List ℕ)
    → read_table (limits_of l) classes s ≡ read_table standard classes s
standard_read l same classes s = ap (λ (lim : Limits). read_table lim classes s) (same ∙ standard_size)

pub refused_eq : {A : Type 0} {q r : Refusal} → ◌≡◌ {A = Result A Refusal} (Err q) (Err r) → q ≡ r
refused_eq e = cc

module _ (classes : Classes) (load : Loads classes) (old document out work : List ℕ) (words : 16384 ≤ length work)
    (room : input_limit ≤ length out) where
  abbrev result : Result Table Refusal
  result =
      read_table standard classes old
      >>= λ g. read_document standard classes DocumentFile document >>= λ d. widen standard local g (by_document d)

  abbrev called : Result (List ℕ) Refusal
  called = widened standard classes local (a_document DocumentFile) old document out work

  enough : standard.words ≤ length work
  unfolding standard
  enough = words

  called_is : called ≡ (result >>= written_to out)
  unfolding widened table_reads read_addition
  called_is =
      ap
      (λ (o : Result Table Refusal).
      o
      >>= λ g. ((read_document standard classes DocumentFile document >>= λ d. Ok (by_document d))
      >>= λ a. (widen standard local g a >>= λ r. written_to out r)))
      (lent-loaded standard classes work (read_table standard classes old) enough load)
      ∙ through (read_table standard classes old) (read_document standard classes DocumentFile document)
    where
      through : (x : Result Table Refusal) (y : Result Tree Refusal)
          → (x >>= λ g. ((y >>= λ d. Ok (by_document d)) >>= λ a. (widen standard local g a >>= λ r. written_to out r)))
          ≡ ((x >>= λ g. (y >>= λ d. widen standard local g (by_document d))) >>= written_to out)
      through (Err r) y = refl
      through (Ok g) (Err r) = refl
      through (Ok g) (Ok d) = refl

  module _ (g : Table) (e : result ≡ Ok g) where
    -- what was read and widened
    steps : (h : Table) × (d : Tree) × (read_table standard classes old ≡ Ok h)
        × (read_document standard classes DocumentFile document ≡ Ok d) × (widen standard local h (by_document d) ≡ Ok g)
    steps =
        let (h, p, q) =
        was_given (read_table standard classes old)
        (λ h. read_document standard classes DocumentFile document >>= λ d. widen standard local h (by_document d)) g e in
        let (d, r, w) = was_given (read_document standard classes DocumentFile document) (λ d. widen standard local h (by_document d)) g q in
        (h, d, p, r, w)

    result_within : TableWithin standard classes g
    result_within =
        let (h, d, p, r, w) = steps in
        document_result_within standard classes standard_agree d (tree_within standard classes DocumentFile document d r) local h
        (read_within standard classes old h p) g w

    result_read_back : read_table standard classes (table_bytes g) ≡ Ok g
    result_read_back =
        let (h, d, p, r, w) = steps in
        document_result_read_back standard classes standard_agree d (tree_within standard classes DocumentFile document d r) local h
        (read_within standard classes old h p) g w

    called_given : called ≡ Ok (table_bytes g)
    unfolding written_to standard
    called_given =
        let size = result_within.size in
        called_is
        ∙ ap (λ (o : Result Table Refusal). o >>= written_to out) e
        ∙ no_fault (ltb (length out) (length (table_bytes g))) OutputTooShort (Ok (table_bytes g))
        (le-ltb (length out) (length (table_bytes g)) (omega arith))

  listing_is : listing standard classes old document ≡ outcome_text result
  unfolding listing
  listing_is = refl

  pub listing_refused : (r : Refusal) → called ≡ Err r → listing standard classes old document ≡ outcome_text (Err r)
  listing_refused r e = go result refl
    where
      go : (o : Result Table Refusal) → result ≡ o → listing standard classes old document ≡ outcome_text (Err r)
      go (Ok g) p = absurd (never_given called r (table_bytes g) e (called_given g p))
      go (Err q) p =
          let same = refused_eq (sym (called_is ∙ ap (λ (o : Result Table Refusal). o >>= written_to out) p) ∙ e) in
          listing_is ∙ ap outcome_text p ∙ ap (λ (s : Refusal). outcome_text (Err s)) same

  pub listing_written : (bytes : List ℕ) → called ≡ Ok bytes
      → listing standard classes old document ≡ outcome_text (read_table standard classes bytes)
  listing_written bytes e = go result refl
    where
      go : (o : Result Table Refusal) → result ≡ o → listing standard classes old document ≡ outcome_text (read_table standard classes bytes)
      go (Err q) p = absurd (never_given called q bytes (called_is ∙ ap (λ (o : Result Table Refusal). o >>= written_to out) p) e)
      go (Ok g) p =
          let same = given_eq (sym (called_given g p) ∙ e) in
          listing_is
          ∙ ap outcome_text (p ∙ sym (result_read_back g p))
          ∙ ap (λ (b : List ℕ). outcome_text (read_table standard classes b)) same

  -- by what the call leaves
  module _ (answer : Result ℕ Refusal) (left work_left : List ℕ) (kept : after (written_numbers answer) left work_left ≡ wrote standard called out work) where
    so : written_numbers answer ≡ numbers_of length called
    unfolding wrote
    so = ap (λ (a : After Numbers). a.answer) kept

    out_left : left ≡ out_after called out
    unfolding wrote
    out_left = ap (λ (a : After Numbers). a.out) kept

    pub list_refused : {text more : List ℕ} {end : ℕ} (r : Refusal) → answer ≡ Err r → Put text 0 (refusal_line r) more end
        → Put text 0 (listing standard classes old document) more end
    unfolding outcome_text
    list_refused r e p = put_as (sym (listing_refused r (was_unwritten called r (ap written_numbers (sym e) ∙ so)))) p

    module _ (n : ℕ) (e : answer ≡ Ok n) where
      abbrev bytes : List ℕ
      bytes = (was_written called n (ap written_numbers (sym e) ∙ so)).0

      called_bytes : called ≡ Ok bytes
      called_bytes = (was_written called n (ap written_numbers (sym e) ∙ so)).1

      size : n ≡ length bytes
      size = (was_written called n (ap written_numbers (sym e) ∙ so)).2

      left_is : left ≡ bytes ++ drop (length bytes) out
      unfolding out_after
      left_is = out_left ∙ ap (λ (o : Result (List ℕ) Refusal). out_after o out) called_bytes

      pub list_inside : n ≤ length left
      list_inside =
          let l = ap length left_is ∙ length-append bytes (drop (length bytes) out) in
          let s = size in
          omega arith

      front_is : take (n - 0) (drop 0 left) ≡ bytes
      front_is =
          let z : n - 0 ≡ length bytes = omega (arith, size) in
          ap (λ (k : ℕ). take k left) z ∙ ap (take (length bytes)) left_is ∙ take-append_seam bytes (drop (length bytes) out)

      pub list_written : {text more : List ℕ} {end : ℕ}
          → Put text 0 (outcome_text (read_table standard classes (take (n - 0) (drop 0 left)))) more end
          → Put text 0 (listing standard classes old document) more end
      list_written p =
          put_as
          (ap (λ (b : List ℕ). outcome_text (read_table standard classes b)) front_is ∙ sym (listing_written bytes called_bytes))
          p
