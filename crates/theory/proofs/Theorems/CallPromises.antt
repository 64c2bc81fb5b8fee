-- What a call leaves keeps its promises (grammar's Promises), for any limits and classes: `settled` gives the rest, by the theorems on
-- membership, kinds, pages and widening.
--     membership, kind_test, paging, sampling, widening
use Prim.Native.Nat.{ℕ, ◌≤◌, ◌<◌}
use native.Mathlib.Omega.{arith}
use mathlib.Core.Bool.{Bool, true, false, not, true≢false}
use mathlib.Core.List.{List, ◌++◌}
use mathlib.Core.Logic.{◌↔◌, ◌⊎◌}
use mathlib.Core.Path.{◌≡◌, refl, sym, ◌∙◌, ap, subst}
use lib.Dec.{ltb}
use lib.ListN.{length, take, drop}
use lib.Seq.{take-append_seam}
use borrow.Author.Tests.{lt-ltb, le-ltb, not-false}
use Rattle.grammar.specs.Limits.{Limits, LimitsAgree}
use Rattle.grammar.specs.Names.{Classes, loads, Loads}
use Rattle.grammar.specs.Tree.{Tree}
use Rattle.grammar.specs.Table.{Table}
use Rattle.grammar.specs.Derivation.{LetsIn}
use Rattle.grammar.specs.Kinds.{Kind, local, single_type, OfKind}
use Rattle.grammar.specs.Least.{Addition, Added}
use Rattle.std.specs.Prelude.{Result, Ok, Err}
use Rattle.grammar.specs.Outcome.{◌>>=◌, ◌>>◌, turn_back}
use Rattle.grammar.specs.declared.Refusal.{Refusal}
use Rattle.grammar.specs.ReadTable.{read_table}
use Rattle.grammar.specs.Documents.{read_document}
use Rattle.grammar.specs.WriteTable.{table_bytes}
use Rattle.grammar.specs.Membership.{lets_in}
use Rattle.grammar.specs.KindTests.{is_of_kind}
use Rattle.grammar.specs.Widen.{widen, sample_table}
use Rattle.grammar.specs.Pages.{page_layout, pages}
use Rattle.grammar.specs.ReadPages.{texts_shown}
use Rattle.grammar.specs.Claim.{WritesLeast}
use Rattle.grammar.specs.Answers.{Numbers, refused_by, numbers_of, bit}
use Rattle.grammar.specs.Calls.{
  work_too_short,
  out_after,
  room_for,
  written_to,
  After,
  answered,
  wrote,
  table_reads,
  document_reads,
  table_lets_in,
  table_is_of_kind,
  table_pages,
  document_sample,
  read_addition,
  widened,
}
use Rattle.grammar.specs.Promises.{Decides, Membership, KindTest, Paging, Sampling, Widening}
use Rattle.grammar.specs.declared.Format.{Format}
use Rattle.grammar.specs.declared.Source.{Source}
use Rattle.grammar.specs.declared.Refusal.TheVariants.{WorkTooShort, BadClasses, NoDocument, OutputTooShort}
use Rattle.theory.proofs.Bytes.OutcomeLaws.{given_then, no_fault, was_given, had_no_fault, given_eq}
use Rattle.theory.proofs.Theorems.AnswerNumbers.{numbers_given, numbers_refused}
use Rattle.theory.proofs.Matching.Membership.{lets_in_lem}
use Rattle.theory.proofs.Tables.KindTests.{is_local_lem, is_single_type_lem}
use Rattle.theory.proofs.Bytes.ReadWithin.{read_within}
use Rattle.theory.proofs.Bytes.TreeRead.{tree_within}
use Rattle.theory.proofs.Sample.SampleDocument.{sample_lets_in}
use Rattle.theory.proofs.Theorems.ResultWithin.{sample_read_back}
use Rattle.theory.proofs.Theorems.WidenLeast.{sampled}
use Rattle.theory.proofs.Theorems.PageTheorem.{pages_come_back}
use Rattle.theory.proofs.Theorems.WideningTheorem.{widening_theorem, thirteen}

-- a test that decides a fact
decided : {Fact : Type 0} (b : Bool) → (b ≡ true) ↔ Fact → (answer : Numbers) → answer ≡ record { refusal = 0; value = bit b } → Decides answer Fact
unfolding bit
decided true f answer e =
    record {
      yes = (λ y. f.0 refl, λ x. e);
      no = (
        λ n. let z : ◌≡◌ {A = ℕ} 1 0 = ap (λ (m : Numbers). m.value) (sym e ∙ n) in absurd (omega arith),
        λ x. absurd (x (f.0 refl)),
      );
    }
decided false f answer e =
    record {
      yes = (
        λ y. let z : ◌≡◌ {A = ℕ} 0 1 = ap (λ (m : Numbers). m.value) (sym e ∙ y) in absurd (omega arith),
        λ x. absurd (true≢false (sym (f.1 x))),
      );
      no = (λ n x. true≢false (sym (f.1 x)), λ x. e);
    }

of_kind : (kind : Kind) (g : Table) → (is_of_kind kind g ≡ true) ↔ OfKind kind g
unfolding is_of_kind
of_kind local g = is_local_lem g
of_kind single_type g = is_single_type_lem g

-- the columns of a page have room
page_widths : (1 ≤ page_layout.type) × (1 ≤ page_layout.name) × (1 ≤ page_layout.content)
unfolding page_layout
page_widths = (omega arith, omega arith, omega arith)

-- reading with the working memory lent
module _ (lim : Limits) (work : List ℕ) {A : Type 0} (o : Result A Refusal) where
  abbrev pub lent : Result A Refusal
  lent = turn_back (work_too_short lim work) WorkTooShort >> o

  pub lent_short : length work < lim.words → lent ≡ Err WorkTooShort
  unfolding work_too_short
  lent_short h = ap (λ (b : Bool). turn_back b WorkTooShort >> o) (lt-ltb (length work) lim.words h)

  pub lent_enough : lim.words ≤ length work → lent ≡ o
  unfolding work_too_short
  lent_enough h = no_fault (work_too_short lim work) WorkTooShort o (le-ltb (length work) lim.words h)

-- reading under the classes lent
module _ (classes : Classes) {A : Type 0} (o : Result A Refusal) where
  abbrev pub loaded : Result A Refusal
  loaded = turn_back (not (loads classes)) BadClasses >> o

  pub loaded_is : Loads classes → loaded ≡ o
  loaded_is l = no_fault (not (loads classes)) BadClasses o (ap not l)

  pub unloaded_is : loads classes ≡ false → loaded ≡ Err BadClasses
  unloaded_is e = ap (λ (b : Bool). turn_back (not b) BadClasses >> o) e

  -- what follows follows under the classes
  pub loaded_then : {B : Type 0} (next : A → Result B Refusal) → (loaded >>= next) ≡ (turn_back (not (loads classes)) BadClasses >> (o >>= next))
  loaded_then next = go (loads classes)
    where
      go : (b : Bool) → ((turn_back (not b) BadClasses >> o) >>= next) ≡ (turn_back (not b) BadClasses >> (o >>= next))
      go true = refl
      go false = refl

-- and with both
module _ (lim : Limits) (classes : Classes) (work : List ℕ) {A : Type 0} (o : Result A Refusal) where
  pub lent-loaded : lim.words ≤ length work → Loads classes → lent lim work (loaded classes o) ≡ o
  lent-loaded h l = lent_enough lim work (loaded classes o) h ∙ loaded_is classes o l

  -- what was given in the end was read, under classes that load
  lent_read : {B : Type 0} (next : A → Result B Refusal) (b : B) → (lent lim work (loaded classes o) >>= next) ≡ Ok b
      → Loads classes × ((a : A) × (o ≡ Ok a) × (next a ≡ Ok b))
  lent_read next b e =
      let (x, q, n) = was_given (lent lim work (loaded classes o)) next b e in
      let under = (had_no_fault (work_too_short lim work) WorkTooShort (loaded classes o) x q).1 in
      let (no_fault_found, read) = had_no_fault (not (loads classes)) BadClasses o x under in
      (not-false (loads classes) no_fault_found, (x, read, n))

  lent_given : {B : Type 0} (next : A → Result B Refusal) (b : B) → (lent lim work (loaded classes o) >>= next) ≡ Ok b
      → Loads classes × ((a : A) → o ≡ Ok a → next a ≡ Ok b)
  lent_given next b e =
      let (l, (x, read, n)) = lent_read next b e in
      (l, λ a p. subst (λ (y : A). next y ≡ Ok b) (given_eq (sym read ∙ p)) n)

-- what is written had room, as a table's bytes have, and stands at the front of the output
room_bytes : (out bytes written : List ℕ) → room_for out bytes ≡ Ok written → bytes ≡ written
unfolding room_for
room_bytes out bytes written e =
    given_eq (had_no_fault (ltb (length out) (length bytes)) OutputTooShort (Ok bytes) written e).1

written_bytes : (out : List ℕ) (g : Table) (bytes : List ℕ) → written_to out g ≡ Ok bytes → table_bytes g ≡ bytes
unfolding written_to
written_bytes out g bytes e = room_bytes out (table_bytes g) bytes e

module _ (lim : Limits) (o : Result (List ℕ) Refusal) (out work : List ℕ) (left : After Numbers) (settled : left ≡ wrote lim o out work) where
  wrote_numbers : left.answer ≡ numbers_of length o
  unfolding wrote
  wrote_numbers = ap (λ (a : After Numbers). a.answer) settled

  -- the bytes of a call that gave no refusal
  wrote_bytes : left.answer.refusal ≡ 0 → (o ≡ Ok (take left.answer.value left.out))
  unfolding wrote numbers_of out_after
  wrote_bytes z =
      let (bytes, e) = numbers_given length o (ap (λ (n : Numbers). n.refusal) (sym wrote_numbers) ∙ z) in
      let value : left.answer.value ≡ length bytes =
      ap (λ (n : Numbers). n.value) (wrote_numbers ∙ ap (numbers_of length) e) in
      let front : left.out ≡ bytes ++ drop (length bytes) out =
      ap (λ (a : After Numbers). a.out) settled ∙ ap (λ (x : Result (List ℕ) Refusal). out_after x out) e in
      e
      ∙ ap (λ (l : List ℕ). Ok l)
      (sym (ap (λ (n : ℕ). take n left.out) value ∙ ap (take (length bytes)) front ∙ take-append_seam bytes (drop (length bytes) out)))

module _ (lim : Limits) (classes : Classes) where
  -- membership, kind and pages
  pub membership : (table : List ℕ) (format : Format) (document work : List ℕ) (left : After Numbers)
      → left ≡ answered lim bit (table_lets_in lim classes table format document work) work → Membership lim classes table format document work left
  unfolding answered table_lets_in table_reads numbers_of
  membership table format document work left s =
      record {
        settled = s;
        decides = λ g d p q h l.
            decided (lets_in g d) (lets_in_lem g d) left.answer
            (ap (λ (a : After Numbers). a.answer) s
            ∙ ap (λ (o : Result Table Refusal). numbers_of bit (o >>= λ g. (read_document lim classes format document >>= λ d. Ok (lets_in g d))))
            (lent-loaded lim classes work (read_table lim classes table) h l ∙ p)
            ∙ ap (λ (o : Result Tree Refusal). numbers_of bit (o >>= λ d. Ok (lets_in g d))) q);
      }

  pub kind_test : (kind : Kind) (table work : List ℕ) (left : After Numbers)
      → left ≡ answered lim bit (table_is_of_kind lim classes kind table work) work → KindTest lim classes kind table work left
  unfolding answered table_is_of_kind table_reads numbers_of
  kind_test kind table work left s =
      record {
        settled = s;
        decides = λ g p h l.
            decided (is_of_kind kind g) (of_kind kind g) left.answer
            (ap (λ (a : After Numbers). a.answer) s
            ∙ ap (λ (o : Result Table Refusal). numbers_of bit (o >>= λ g. Ok (is_of_kind kind g)))
            (lent-loaded lim classes work (read_table lim classes table) h l ∙ p));
      }

  pub paging : (table out work : List ℕ) (left : After Numbers) → left ≡ wrote lim (table_pages lim classes table out work) out work
      → Paging lim classes table out work left
  unfolding table_pages table_reads
  paging table out work left s =
      record {
        settled = s;
        comes_back = λ z g p.
            let bytes = take left.answer.value left.out in
            let (l, printed) =
            lent_given lim classes work (read_table lim classes table) (λ g. room_for out (pages page_layout g)) bytes
            (wrote_bytes lim (table_pages lim classes table out work) out work left s z) in
            ap (texts_shown page_layout) (sym (room_bytes out (pages page_layout g) bytes (printed g p)))
            ∙ pages_come_back page_layout page_widths.0 page_widths.1 page_widths.2 l g (read_within lim classes table g p);
      }

  -- a widening of its inputs' bytes, once working memory and classes are lent
  abbrev pub from_bytes : Kind → Source → List ℕ → List ℕ → List ℕ → Result (List ℕ) Refusal
  from_bytes kind source old addition out =
      read_table lim classes old
      >>= λ g. (read_addition lim classes source addition >>= λ a. (widen lim kind g a >>= λ r. written_to out r))

  pub widened_lent : (kind : Kind) (source : Source) (old addition out work : List ℕ) → lim.words ≤ length work → Loads classes
      → widened lim classes kind source old addition out work ≡ from_bytes kind source old addition out
  unfolding widened table_reads
  widened_lent kind source old addition out work h l =
      ap
      (λ (o : Result Table Refusal). o >>= λ g. (read_addition lim classes source addition >>= λ a. (widen lim kind g a >>= λ r. written_to out r)))
      (lent-loaded lim classes work (read_table lim classes old) h l)

  -- a widening that gave a table read both of its inputs
  pub widening_read : (kind : Kind) (source : Source) (old addition out work : List ℕ) (left : After Numbers)
      → Widening lim classes kind source old addition out work left → left.answer.refusal ≡ 0
      → ((g : Table) × (read_table lim classes old ≡ Ok g)) × ((a : Addition) × (read_addition lim classes source addition ≡ Ok a))
  unfolding widened table_reads
  widening_read kind source old addition out work left w z =
      let bytes = take left.answer.value left.out in
      let (l, (g, p, n)) =
      lent_read lim classes work (read_table lim classes old)
      (λ g. (read_addition lim classes source addition >>= λ a. (widen lim kind g a >>= λ r. written_to out r))) bytes
      (wrote_bytes lim (widened lim classes kind source old addition out work) out work left w.settled z) in
      let (a, q, m) = was_given (read_addition lim classes source addition) (λ a. (widen lim kind g a >>= λ r. written_to out r)) bytes n in
      ((g, p), (a, q))

  -- and so did making a sample
  pub sampling_read : (format : Format) (document out work : List ℕ) (left : After Numbers)
      → Sampling lim classes format document out work left → left.answer.refusal ≡ 0
      → (d : Tree) × (read_document lim classes format document ≡ Ok d)
  unfolding document_sample document_reads
  sampling_read format document out work left w z =
      let (l, (d, p, n)) =
      lent_read lim classes work (read_document lim classes format document) (λ d. (sample_table lim d >>= λ g. written_to out g))
      (take left.answer.value left.out)
      (wrote_bytes lim (document_sample lim classes format document out work) out work left w.settled z) in
      (d, p)

  module _ (agree : LimitsAgree lim) where
    pub sampling : (format : Format) (document out work : List ℕ) (left : After Numbers)
        → left ≡ wrote lim (document_sample lim classes format document out work) out work → Sampling lim classes format document out work left
    unfolding document_sample document_reads
    sampling format document out work left s =
        record {
          settled = s;
          reads = λ z d p.
              let bytes = take left.answer.value left.out in
              let f =
              (lent_given lim classes work (read_document lim classes format document) (λ d. (sample_table lim d >>= λ g. written_to out g)) bytes
              (wrote_bytes lim (document_sample lim classes format document out work) out work left s z)).1 d p in
              let (g, q, w) = was_given (sample_table lim d) (λ g. written_to out g) bytes f in
              ap (read_table lim classes) (sym (written_bytes out g bytes w))
              ∙ sample_read_back lim classes agree d (tree_within lim classes format document d p) g q
              ∙ ap (λ (x : Table). Ok x) (sampled lim d g q);
          lets_in = λ d p. sample_lets_in d;
        }

    module _ (kind : Kind) (source : Source) (old addition out work : List ℕ) where
      abbrev outcome : Result (List ℕ) Refusal
      outcome = widened lim classes kind source old addition out work

      module _ (g : Table) (a : Addition) (p : read_table lim classes old ≡ Ok g) (q : read_addition lim classes source addition ≡ Ok a) where
        -- what a widening writes is least
        writes_least : (bytes : List ℕ) → outcome ≡ Ok bytes → WritesLeast lim classes kind g a bytes
        unfolding widened table_reads
        writes_least bytes e =
            let f =
            (lent_given lim classes work (read_table lim classes old)
            (λ g. (read_addition lim classes source addition >>= λ a. (widen lim kind g a >>= λ r. written_to out r))) bytes e).1 g p in
            let (r, n, w) =
            was_given (widen lim kind g a) (λ r. written_to out r) bytes
            (sym (given_then (read_addition lim classes source addition) a (λ a. (widen lim kind g a >>= λ r. written_to out r)) q) ∙ f) in
            subst (WritesLeast lim classes kind g a) (written_bytes out r bytes w)
            (widening_theorem lim classes agree kind source old addition g a r p q n)

        -- with enough working memory the outcome is that of widening
        widens : lim.words ≤ length work → Loads classes → outcome ≡ (widen lim kind g a >>= written_to out)
        widens h l =
            widened_lent kind source old addition out work h l
            ∙ given_then (read_table lim classes old) g
            (λ g. (read_addition lim classes source addition >>= λ a. (widen lim kind g a >>= λ r. written_to out r)))
            p
            ∙ ap (λ (o : Result Addition Refusal). o >>= λ a. (widen lim kind g a >>= λ r. written_to out r)) q

        -- 13 comes from widening alone
        writing_thirteen : (r : Table) → written_to out r ≡ Err NoDocument → ⊥
        unfolding written_to
        writing_thirteen r e = go (ltb (length out) (length (table_bytes r))) e
          where
            go : (b : Bool) → (turn_back b OutputTooShort >> Ok (table_bytes r)) ≡ Err NoDocument → ⊥
            go true e = let z : ◌≡◌ {A = ℕ} 0 1 = cc in omega arith
            go false e = let z : ◌≡◌ {A = ℕ} 0 1 = cc in omega arith

        was_thirteen : (o : Result Table Refusal) → (o >>= written_to out) ≡ Err NoDocument → o ≡ Err NoDocument
        was_thirteen (Err r) e = cc
        was_thirteen (Ok r) e = absurd (writing_thirteen r e)

        module _ (left : After Numbers) (s : left ≡ wrote lim outcome out work) (h : lim.words ≤ length work)
            (l : Loads classes) where
          so_thirteen : (left.answer ≡ refused_by NoDocument) ↔ ((d : Tree) → LetsIn g d ⊎ Added a d → ⊥)
          unfolding numbers_of
          so_thirteen = (
            λ e.
                (thirteen lim classes agree kind source old addition g a p q
                ).0
                (was_thirteen (widen lim kind g a)
                (sym (widens h l) ∙ numbers_refused length outcome NoDocument (sym (wrote_numbers lim outcome out work left s) ∙ e))),
            λ none.
                wrote_numbers lim outcome out work left s
                ∙ ap (numbers_of length)
                (widens h l
                ∙ ap (λ (o : Result Table Refusal). o >>= written_to out) ((thirteen lim classes agree kind source old addition g a p q).1 none)),
          )

      pub widening : (left : After Numbers) → left ≡ wrote lim outcome out work → Widening lim classes kind source old addition out work left
      widening left s =
          record {
            settled = s;
            least = λ z g a p q. writes_least g a p q _ (wrote_bytes lim outcome out work left s z);
            no_document = λ g a p q h l. so_thirteen g a p q left s h l;
          }
