-- A table in a draft, and handed over; classes that do not load, inputs that are refused or read.
use Rattle.reader.specs.declared.index.TableIndex.{TableIndex}
use Prim.Native.Nat.{ℕ, ◌≤◌, ◌<◌}
use native.Mathlib.Omega.{arith}
use mathlib.Core.Bool.{false}
use mathlib.Core.List.{List, ◌++◌}
use mathlib.Core.Path.{◌≡◌, refl, sym, ◌∙◌, ap, subst}
use lib.ListN.{length, take, drop, length-append}
use lib.Seq.{take-append_seam}
use lib.Dec.{ltb}
use borrow.Author.Tests.{lt-ltb, le-ltb}
use Rattle.grammar.specs.Limits.{Limits}
use Rattle.grammar.specs.LimitSets.{limits_of}
use Rattle.grammar.specs.declared.SizeLimits.{SizeLimits}
use Rattle.grammar.specs.Names.{Classes, loads, Loads}
use Rattle.grammar.specs.Table.{Table}
use Rattle.grammar.specs.Tree.{Tree}
use Rattle.grammar.specs.Kinds.{Kind}
use Rattle.grammar.specs.Least.{by_table, by_document}
use Rattle.std.specs.Prelude.{Result, Ok, Err}
use Rattle.grammar.specs.Outcome.{◌>>=◌}
use Rattle.grammar.specs.Answers.{written}
use Rattle.grammar.specs.ReadTable.{read_table}
use Rattle.grammar.specs.Documents.{read_document}
use Rattle.grammar.specs.ReadDocument.{tree_of}
use Rattle.grammar.specs.WriteTable.{table_bytes}
use Rattle.grammar.specs.Sample.{sample}
use Rattle.grammar.specs.Widen.{widen, widen_by_table, sample_table}
use Rattle.grammar.specs.Calls.{out_after, written_to, read_addition}
use Rattle.grammar.specs.declared.Format.{Format}
use Rattle.grammar.specs.declared.Source.{Source}
use Rattle.grammar.specs.declared.Source.TheVariants.{Table as a_table, Document as a_document}
use Rattle.grammar.specs.declared.Refusal.{Refusal}
use Rattle.grammar.specs.declared.TooLarge.{TooLarge}
use Rattle.grammar.specs.declared.Refusal.TheVariants.{ResultTooLarge, OutputTooShort, BadClasses}
use Rattle.theory.proofs.Bytes.OutcomeLaws.{given_then, no_fault, was_given, given_eq}
use Rattle.theory.proofs.Bytes.NumberedTable.{sized_agree}
use Rattle.theory.proofs.Bytes.TreeRead.{tree_within}
use Rattle.theory.proofs.Theorems.ResultWithin.{sample_read_back}
use Rattle.theory.proofs.Theorems.CallPromises.{loaded_is, unloaded_is}
use Rattle.reader.specs.TableIndex.{Reads}
use Rattle.reader.specs.Held.{Held}
use Rattle.reader.proofs.AnswerLaws.{fault, never_given, written_length, written_refused}
use Rattle.reader.proofs.TableFoundLaws.{TableFound, table_found, table_refused}
use Rattle.documents.specs.DocumentNodes.{DocumentReads, nodes_in}
use Rattle.documents.specs.declared.documents.DocumentIndex.{DocumentIndex}
use Rattle.documents.proofs.DocumentAnswers.{document_tree, nodes_read, document_unread}
use Rattle.sampling.specs.SampleTable.{SampleDrafted, HoldsNodes}
use Rattle.steps.specs.Widened.{Widens}
use Rattle.drafting.specs.Drafting.{sample_of, sampled_from, widened_by, widened_from, InDraft, FitsDraft, HandedOver}

-- the bytes of an outcome, and its answer, before the output is looked at
abbrev bytes_of : Result Table Refusal → Result (List ℕ) Refusal
bytes_of o = o >>= λ g. Ok (table_bytes g)

abbrev answer_of : Result Table Refusal → Result ℕ Refusal
answer_of o = written (bytes_of o)

bytes_refused : (o : Result Table Refusal) (q : Refusal) → bytes_of o ≡ Err q → o ≡ Err q
bytes_refused (Err r) q e = cc
bytes_refused (Ok g) q e = let z : ◌≡◌ {A = ℕ} 0 1 = cc in absurd (omega arith)

-- a table in a draft, or why there is none
module _ (o : Result Table Refusal) (draft : List ℕ) where
  pub unmade : (q : Refusal) → o ≡ Err q → InDraft o draft (Err q)
  unfolding written
  unmade q e =
      record {
        made_is = sym (ap answer_of e);
        bytes = λ g p. absurd (never_given o q g e p);
        room = λ g p. absurd (never_given o q g e p);
      }

  pub made : (g : Table) (n : ℕ) (rest : List ℕ) → o ≡ Ok g → n ≡ length (table_bytes g) → draft ≡ table_bytes g ++ rest
      → InDraft o draft (Ok n)
  unfolding written
  made g n rest e size d =
      record {
        made_is = ap (λ (k : ℕ). Ok k) size ∙ sym (ap answer_of e);
        bytes = λ h p. subst (λ (k : Table). take (length (table_bytes k)) draft ≡ table_bytes k) (given_eq (sym e ∙ p)) front;
        room = λ h p. subst (λ (k : Table). length (table_bytes k) ≤ length draft) (given_eq (sym e ∙ p)) long;
      }
    where
      front : take (length (table_bytes g)) draft ≡ table_bytes g
      front = ap (take (length (table_bytes g))) d ∙ take-append_seam (table_bytes g) rest

      long : length (table_bytes g) ≤ length draft
      long = let l = ap length d ∙ length-append (table_bytes g) rest in omega arith

  -- and back
  module _ (answer : Result ℕ Refusal) (i : InDraft o draft answer) where
    pub was_made : (n : ℕ) → answer ≡ Ok n → (g : Table) × (o ≡ Ok g) × (n ≡ length (table_bytes g))
    was_made n e =
        let (bytes, p, size) = written_length (bytes_of o) n (sym i.made_is ∙ e) in
        let (g, q, same) = was_given o (λ g. Ok (table_bytes g)) bytes p in
        (g, q, size ∙ ap length (sym (given_eq same)))

    pub was_unmade : (q : Refusal) → answer ≡ Err q → o ≡ Err q
    was_unmade q e = bytes_refused o q (written_refused (bytes_of o) q (sym i.made_is ∙ e))

    pub made_fits : (n : ℕ) → answer ≡ Ok n → n ≤ length draft
    made_fits n e =
        let (g, p, size) = was_made n e in
        let r = i.room g p in
        omega arith

  pub fits : (answer : Result ℕ Refusal) → InDraft o draft answer → FitsDraft draft answer
  fits (Ok n) i = made_fits (Ok n) i n refl
  fits (Err q) i = tt

pub fits_to : (draft : List ℕ) (answer : Result ℕ Refusal) → FitsDraft draft answer → (n : ℕ) → answer ≡ Ok n → n ≤ length draft
fits_to draft answer f n e = subst (FitsDraft draft) e f

-- handing it over
module _ (o : Result Table Refusal) (draft out : List ℕ) (answer : Result ℕ Refusal) (i : InDraft o draft answer) where
  pub hands_refusal : (q : Refusal) → answer ≡ Err q → HandedOver o out out (Err q)
  unfolding written out_after
  hands_refusal q e =
      let p = was_unmade o draft answer i q e in (
        sym (ap (λ (x : Result Table Refusal). written (x >>= written_to out)) p),
        sym (ap (λ (x : Result Table Refusal). out_after (x >>= written_to out) out) p),
      )

  pub no_room : (n : ℕ) → answer ≡ Ok n → length out < n → HandedOver o out out (Err OutputTooShort)
  unfolding written out_after written_to
  no_room n e h =
      let (g, p, size) = was_made o draft answer i n e in
      let short : length out < length (table_bytes g) = omega arith in
      let f : (o >>= written_to out) ≡ Err OutputTooShort = given_then o g (written_to out) p
      ∙ fault (ltb (length out) (length (table_bytes g))) OutputTooShort (Ok (table_bytes g)) (lt-ltb (length out) (length (table_bytes g)) short) in
      (sym (ap written f), sym (ap (λ (x : Result (List ℕ) Refusal). out_after x out) f))

  pub handed : (n : ℕ) → answer ≡ Ok n → n ≤ length out → (left : List ℕ) → left ≡ take n draft ++ drop n out
      → HandedOver o out left (Ok n)
  unfolding written out_after written_to
  handed n e h left w =
      let (g, p, size) = was_made o draft answer i n e in
      let long : length (table_bytes g) ≤ length out = omega arith in
      let f : (o >>= written_to out) ≡ Ok (table_bytes g) = given_then o g (written_to out) p
      ∙ no_fault (ltb (length out) (length (table_bytes g))) OutputTooShort (Ok (table_bytes g)) (le-ltb (length out) (length (table_bytes g)) long) in (
        ap (λ (k : ℕ). Ok k) size ∙ sym (ap written f),
        w
            ∙ ap (λ (k : ℕ). take k draft ++ drop k out) size
            ∙ ap (λ (l : List ℕ). l ++ drop (length (table_bytes g)) out) (i.bytes g p)
            ∙ sym (ap (λ (x : Result (List ℕ) Refusal). out_after x out) f),
      )

module _ (l : SizeLimits) (classes : Classes) where
  abbrev lim : Limits
  lim = limits_of l

  -- under classes that do not load
  module _ (e : loads classes ≡ false) (draft : List ℕ) where
    pub sampled_unloaded : (format : Format) (document : List ℕ) → InDraft (sampled_from lim classes format document) draft (Err BadClasses)
    unfolding sampled_from
    sampled_unloaded format document =
        unmade (sampled_from lim classes format document) draft BadClasses (unloaded_is classes (sample_of lim classes format document) e)

    pub widened_unloaded : (source : Source) (kind : Kind) (old addition : List ℕ)
        → InDraft (widened_from lim classes source kind old addition) draft (Err BadClasses)
    unfolding widened_from
    widened_unloaded source kind old addition =
        unmade (widened_from lim classes source kind old addition) draft BadClasses
        (unloaded_is classes (read_table lim classes old >>= λ g. widened_by lim classes source kind g addition) e)

  -- by a table, and by a document's sample
  by_table_lem : (kind : Kind) (g : Table) (addition : List ℕ)
      → widened_by lim classes a_table kind g addition ≡ (read_table lim classes addition >>= λ a. widen_by_table lim kind g a)
  unfolding widened_by read_addition widen
  by_table_lem kind g addition = go (read_table lim classes addition)
    where
      go : (o : Result Table Refusal) → ((o >>= λ a. Ok (by_table a)) >>= widen lim kind g) ≡ (o >>= λ a. widen_by_table lim kind g a)
      go (Err r) = refl
      go (Ok a) = refl

  by_document_lem : (format : Format) (kind : Kind) (g : Table) (document : List ℕ)
      → widened_by lim classes (a_document format) kind g document ≡ (sample_of lim classes format document >>= λ a. widen_by_table lim kind g a)
  unfolding widened_by read_addition widen sample_of
  by_document_lem format kind g document = go (read_document lim classes format document)
    where
      go : (o : Result Tree Refusal) → ((o >>= λ d. Ok (by_document d)) >>= widen lim kind g)
          ≡ ((o >>= λ d. sample_table lim d) >>= λ a. widen_by_table lim kind g a)
      go (Err r) = refl
      go (Ok d) = refl

  -- the sample of a document
  module _ (format : Format) (document : List ℕ) (f : DocumentIndex) (said : Result (Unit {0}) Refusal) (reads : DocumentReads lim classes format document f said) where
    pub document_refuses : (draft : List ℕ) (q : Refusal) → said ≡ Err q
        → InDraft (sample_of lim classes format document) draft (Err q)
    unfolding sample_of
    document_refuses draft q e =
        unmade (sample_of lim classes format document) draft q
        (ap (λ (o : Result Tree Refusal). o >>= λ d. sample_table lim d) (document_unread lim classes format document f said reads q e))

    module _ (e : said ≡ Ok tt) where
      pub nodes_indexed : HoldsNodes lim document f
      nodes_indexed = record { classes = classes; format = format; reads = nodes_read lim classes format document f said reads e; indexed = reads.indexed }

      module _ (before draft : List ℕ) (m : Result ℕ TooLarge)
          (s : (d : Tree) → tree_of (nodes_in document f) ≡ Ok d → SampleDrafted lim d before draft m) where
        abbrev tree_read : (t : Tree) × (tree_of (nodes_in document f) ≡ Ok t) × (read_document lim classes format document ≡ Ok t)
        tree_read = document_tree lim classes format document (nodes_in document f) (nodes_read lim classes format document f said reads e)

        sample_is : sample_of lim classes format document ≡ sample_table lim tree_read.0
        unfolding sample_of
        sample_is = given_then (read_document lim classes format document) tree_read.0 (λ d. sample_table lim d) tree_read.2

        sample_drafted : (x : Result ℕ TooLarge) → m ≡ x → SampleDrafted lim tree_read.0 before draft x
        sample_drafted x p = subst (SampleDrafted lim tree_read.0 before draft) p (s tree_read.0 tree_read.1)

        pub sample_too_large : m ≡ Err (record {}) → InDraft (sample_of lim classes format document) draft (Err ResultTooLarge)
        sample_too_large p = unmade (sample_of lim classes format document) draft ResultTooLarge (sample_is ∙ sample_drafted (Err (record {})) p)

        pub sample_made : (n : ℕ) → m ≡ Ok n → InDraft (sample_of lim classes format document) draft (Ok n)
        sample_made n p =
            let d = sample_drafted (Ok n) p in
            made (sample_of lim classes format document) draft (sample tree_read.0) n (drop n before) (sample_is ∙ d.0) d.2 d.1

  -- its bytes read as the sample
  sample_reads_back : (format : Format) (document : List ℕ) (a : Table) → sample_of lim classes format document ≡ Ok a
      → read_table lim classes (table_bytes a) ≡ Ok a
  unfolding sample_of
  sample_reads_back format document a e =
      let (d, p, q) = was_given (read_document lim classes format document) (λ d. sample_table lim d) a e in
      sample_read_back lim classes (sized_agree l.rules l.nodes l.levels l.words) d (tree_within lim classes format document d p) a q

  -- widening by the sample of a document, whose bytes stand at the front of a draft
  module _ (kind : Kind) (g : Table) (format : Format) (document drafted : List ℕ) (answer : Result ℕ Refusal)
      (i : InDraft (sample_of lim classes format document) drafted answer) (draft : List ℕ) where
    pub sample_refuses : (q : Refusal) → answer ≡ Err q → InDraft (widened_by lim classes (a_document format) kind g document) draft (Err q)
    sample_refuses q e =
        unmade (widened_by lim classes (a_document format) kind g document) draft q
        (by_document_lem format kind g document
        ∙ ap (λ (o : Result Table Refusal). o >>= λ a. widen_by_table lim kind g a)
        (was_unmade (sample_of lim classes format document) drafted answer i q e))

    pub by_sample : (n : ℕ) → answer ≡ Ok n → (m : ℕ) → m ≡ n → (said : Result ℕ Refusal)
        → InDraft (widened_by lim classes a_table kind g (take m drafted)) draft said
        → InDraft (widened_by lim classes (a_document format) kind g document) draft said
    by_sample n e m same said d =
        let (a, p, size) = was_made (sample_of lim classes format document) drafted answer i n e in
        let back : read_table lim classes (take m drafted) ≡ Ok a =
        ap (read_table lim classes) (ap (λ (k : ℕ). take k drafted) (same ∙ size) ∙ i.bytes a p)
        ∙ sample_reads_back format document a p in
        subst (λ (x : Result Table Refusal). InDraft x draft said)
        (by_table_lem kind g (take m drafted)
        ∙ given_then (read_table lim classes (take m drafted)) a (λ a. widen_by_table lim kind g a) back
        ∙ sym (by_document_lem format kind g document ∙ given_then (sample_of lim classes format document) a (λ a. widen_by_table lim kind g a) p))
        d

  -- under classes that load
  module _ (load : Loads classes) where
    pub sampled_loaded : (format : Format) (document draft : List ℕ) (answer : Result ℕ Refusal) → InDraft (sample_of lim classes format document) draft answer
        → InDraft (sampled_from lim classes format document) draft answer
    unfolding sampled_from
    sampled_loaded format document draft answer d =
        subst (λ (x : Result Table Refusal). InDraft x draft answer) (sym (loaded_is classes (sample_of lim classes format document) load)) d

    -- reading a table and going on with it
    module _ (table : List ℕ) (r : Result (Unit {0}) Refusal) (index : TableIndex) (so : Reads table (read_table lim classes table) r index)
        (next : Table → Result Table Refusal) where
      table_refuses : (q : Refusal) → r ≡ Err q → (read_table lim classes table >>= next) ≡ Err q
      table_refuses q e = ap (λ (o : Result Table Refusal). o >>= next) (table_refused lim classes table r index so q e)

      table_goes_on : (e : r ≡ Ok tt)
          → (read_table lim classes table >>= next) ≡ next (table_found lim classes table r index so load e).some.table
      table_goes_on e =
          let f = table_found lim classes table r index so load e in
          given_then (read_table lim classes table) f.some.table next f.read

    -- the old table
    module _ (source : Source) (kind : Kind) (old addition : List ℕ) (r : Result (Unit {0}) Refusal) (index : TableIndex)
        (so : Reads old (read_table lim classes old) r index)
        (draft : List ℕ) where
      abbrev whole : Result Table Refusal
      whole = widened_from lim classes source kind old addition

      abbrev next : Table → Result Table Refusal
      next g = widened_by lim classes source kind g addition

      from_old : whole ≡ (read_table lim classes old >>= next)
      unfolding widened_from
      from_old = loaded_is classes (read_table lim classes old >>= next) load

      pub old_refuses : (q : Refusal) → r ≡ Err q → InDraft whole draft (Err q)
      old_refuses q e = unmade whole draft q (from_old ∙ table_refuses old r index so next q e)

      -- and then an addition of this sort
      pub old_goes_on : r ≡ Ok tt → (sort : Source) → source ≡ sort → (answer : Result ℕ Refusal)
          → ((g : Table) → Held lim old index g → InDraft (widened_by lim classes sort kind g addition) draft answer)
          → InDraft whole draft answer
      old_goes_on e sort is answer h =
          let f = table_found lim classes old r index so load e in
          let g = f.some.table in
          subst (λ (x : Result Table Refusal). InDraft x draft answer)
          (ap (λ (s : Source). widened_by lim classes s kind g addition) (sym is) ∙ sym (from_old ∙ table_goes_on old r index so next e))
          (h g f.some.held)

    -- reading the addition, and widening by it
    module _ (kind : Kind) (g : Table) (addition : List ℕ) (r : Result (Unit {0}) Refusal) (index : TableIndex)
        (so : Reads addition (read_table lim classes addition) r index)
        (draft : List ℕ) where
      pub addition_refuses : (q : Refusal) → r ≡ Err q → InDraft (widened_by lim classes a_table kind g addition) draft (Err q)
      addition_refuses q e =
          unmade (widened_by lim classes a_table kind g addition) draft q
          (by_table_lem kind g addition ∙ table_refuses addition r index so (λ a. widen_by_table lim kind g a) q e)

      module _ (e : r ≡ Ok tt) (before : List ℕ) (m : Result ℕ Refusal)
          (w : (h : Table) → Held lim addition index h → Widens lim kind g h before draft m) where
        abbrev found : TableFound lim classes addition index
        found = table_found lim classes addition r index so load e

        so_widens : Widens lim kind g found.some.table before draft m
        so_widens = w found.some.table found.some.held

        added : widened_by lim classes a_table kind g addition ≡ widen_by_table lim kind g found.some.table
        added = by_table_lem kind g addition ∙ table_goes_on addition r index so (λ a. widen_by_table lim kind g a) e

        widens_of : (a : Result ℕ Refusal) → Widens lim kind g found.some.table before draft a
            → InDraft (widened_by lim classes a_table kind g addition) draft a
        unfolding Widens
        widens_of (Ok n) d =
            made (widened_by lim classes a_table kind g addition) draft d.result n (drop n before) (added ∙ d.widened) d.size d.bytes
        widens_of (Err q) d = unmade (widened_by lim classes a_table kind g addition) draft q (added ∙ d)

        pub widens_so : InDraft (widened_by lim classes a_table kind g addition) draft m
        widens_so = widens_of m so_widens
