-- What the printer prints, by what the call gives, where the call is lent enough and the classes load:
--   print_refused, print_written : by its answer and the output
use Prim.Native.Nat.{ℕ, ◌+◌, ◌≤◌}
use native.Mathlib.Omega.{arith}
use mathlib.Core.List.{List, ◌++◌}
use mathlib.Core.Path.{◌≡◌, refl, sym, ◌∙◌, ap, subst}
use lib.ListN.{length, drop}
use lib.Dec.{ltb}
use borrow.Author.Tests.{le-ltb}
use Rattle.grammar.specs.Limits.{Limits, standard}
use Rattle.grammar.specs.Names.{Classes, Loads}
use Rattle.grammar.specs.Table.{Table}
use Rattle.std.specs.Prelude.{Result, Ok, Err}
use Rattle.grammar.specs.Outcome.{◌>>=◌}
use Rattle.grammar.specs.ReadTable.{read_table}
use Rattle.grammar.specs.WithinLimits.{TableWithin}
use Rattle.grammar.specs.Listing.{refusal_line}
use Rattle.grammar.specs.Pages.{page_layout, pages, pages_text, printing}
use Rattle.grammar.specs.Answers.{Numbers, written_numbers, numbers_of}
use Rattle.grammar.specs.Calls.{out_after, room_for, table_reads, table_pages, After, after, wrote}
use Rattle.grammar.specs.declared.Refusal.{Refusal}
use Rattle.grammar.specs.declared.Refusal.TheVariants.{OutputTooShort}
use Rattle.grammar.specs.declared.Size.TheVariants.{Standard}
use Rattle.theory.proofs.Bytes.OutcomeLaws.{no_fault, given_eq}
use Rattle.theory.proofs.Bytes.ReadWithin.{read_within}
use Rattle.theory.proofs.Theorems.AnswerNumbers.{was_written, was_unwritten}
use Rattle.theory.proofs.Theorems.CallPromises.{lent-loaded}
use Rattle.reader.proofs.AnswerLaws.{never_given}
use Rattle.writer.specs.Writing.{Put}
use Rattle.lister_lines.proofs.ListingLaws.{standard_size, refused_eq}
use Rattle.pages.proofs.MostPages.{pages_most}
use Rattle.lister_lines.proofs.PrintSteps.{put_as}

module _ (classes : Classes) (load : Loads classes) (table out work : List ℕ) (words : 16384 ≤ length work) (room : 170820 ≤ length out) where
  abbrev read : Result Table Refusal
  read = read_table standard classes table

  abbrev called : Result (List ℕ) Refusal
  called = table_pages standard classes table out work

  abbrev printed : Table → Result (List ℕ) Refusal
  printed g = room_for out (pages page_layout g)

  enough : standard.words ≤ length work
  unfolding standard
  enough = words

  called_is : called ≡ (read >>= printed)
  unfolding table_pages table_reads
  called_is = ap (λ (o : Result Table Refusal). o >>= printed) (lent-loaded standard classes work read enough load)

  fits : (g : Table) → read ≡ Ok g → length (pages page_layout g) ≤ length out
  fits g e =
      let within = read_within standard classes table g e in
      let most = pages_most Standard g (subst (λ (lim : Limits). TableWithin lim classes g) (sym standard_size) within) in
      omega arith

  called_given : (g : Table) → read ≡ Ok g → called ≡ Ok (pages page_layout g)
  unfolding room_for
  called_given g e =
      called_is
      ∙ ap (λ (o : Result Table Refusal). o >>= printed) e
      ∙ no_fault (ltb (length out) (length (pages page_layout g))) OutputTooShort (Ok (pages page_layout g))
      (le-ltb (length out) (length (pages page_layout g)) (fits g e))

  printing_refused : (r : Refusal) → called ≡ Err r → printing standard classes table ≡ refusal_line r
  unfolding printing pages_text
  printing_refused r e = go read refl
    where
      go : (o : Result Table Refusal) → read ≡ o → pages_text read ≡ refusal_line r
      go (Ok g) p = absurd (never_given called r (pages page_layout g) e (called_given g p))
      go (Err q) p =
          ap pages_text p ∙ ap refusal_line (refused_eq (sym (called_is ∙ ap (λ (o : Result Table Refusal). o >>= printed) p) ∙ e))

  printing_written : (bytes : List ℕ) → called ≡ Ok bytes → (printing standard classes table ≡ bytes) × (length bytes ≤ length out)
  unfolding printing pages_text
  printing_written bytes e = go read refl
    where
      go : (o : Result Table Refusal) → read ≡ o → (pages_text read ≡ bytes) × (length bytes ≤ length out)
      go (Err q) p = absurd (never_given called q bytes (called_is ∙ ap (λ (o : Result Table Refusal). o >>= printed) p) e)
      go (Ok g) p =
          let same = given_eq (sym (called_given g p) ∙ e) in
          (ap pages_text p ∙ same, subst (λ (b : List ℕ). length b ≤ length out) same (fits g p))

  -- by what the call leaves
  module _ (answer : Result ℕ Refusal) (left work_left : List ℕ) (kept : after (written_numbers answer) left work_left ≡ wrote standard called out work) where
    so : written_numbers answer ≡ numbers_of length called
    unfolding wrote
    so = ap (λ (a : After Numbers). a.answer) kept

    out_left : left ≡ out_after called out
    unfolding wrote
    out_left = ap (λ (a : After Numbers). a.out) kept

    pub print_refused : {more : List ℕ} {end : ℕ} (r : Refusal) → answer ≡ Err r → Put left 0 (refusal_line r) more end
        → Put out 0 (printing standard classes table) more end
    unfolding out_after
    print_refused {more} {end} r e p =
        let turned_back = was_unwritten called r (ap written_numbers (sym e) ∙ so) in
        let same : left ≡ out = out_left ∙ ap (λ (o : Result (List ℕ) Refusal). out_after o out) turned_back in
        put_as (sym (printing_refused r turned_back)) (subst (λ (l : List ℕ). Put l 0 (refusal_line r) more end) same p)

    pub print_written : (n : ℕ) → answer ≡ Ok n → Put out 0 (printing standard classes table) left n
    unfolding out_after
    print_written n e =
        let (bytes, called_bytes, size) = was_written called n (ap written_numbers (sym e) ∙ so) in
        let (same, short) = printing_written bytes called_bytes in
        put_as (sym same)
        (record {
          is = out_left ∙ ap (λ (o : Result (List ℕ) Refusal). out_after o out) called_bytes ∙ ap (λ (k : ℕ). bytes ++ drop k out) (sym size);
          next_is = omega arith;
          room = omega arith;
        })
