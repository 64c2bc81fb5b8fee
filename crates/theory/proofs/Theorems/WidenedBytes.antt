-- Least tables by their bytes, and one widening by the bytes that its call wrote.
--     table_adds, document_adds, empty_adds_none    the documents that an input adds
--     reads_inclusive, reads_alike    over more documents the least table lets in more, over the same the same
--     reads_over, reads_further       the documents put in another way; a least table and more
--     widens_least, widens_keep       demand 3: what a widening wrote is least over what it read; it lets in an added document itself
--     already_wide                    a table of the kind that lets in the addition already lets in just what its widening does
--     widens_given                    what the definition of a call gives, some call gave
use Prim.Native.Nat.{ℕ}
use mathlib.Core.List.Memᴰ
use mathlib.Core.List.{List}
use mathlib.Core.Logic.Iff
use mathlib.Core.Logic.{◌↔◌, ◌⊎◌, inl, inr, ⊎_elim, ⊎_map}
use mathlib.Core.Path.{◌≡◌, refl, sym, ◌∙◌, ap, subst}
use lib.Dec.{ltb}
use lib.ListN.{length, drop}
use lib.Seq.{take-append_seam}
use Rattle.grammar.specs.Limits.{Limits, LimitsAgree}
use Rattle.grammar.specs.Names.{Classes}
use Rattle.grammar.specs.Tree.{Tree}
use Rattle.grammar.specs.Table.{Table, empty_table}
use Rattle.grammar.specs.Derivation.{LetsIn}
use Rattle.grammar.specs.Kinds.{Kind, OfKind}
use Rattle.grammar.specs.Least.{Addition, by_table, by_document, Added, AddedItself}
use Rattle.std.specs.Prelude.{Result, Ok}
use Rattle.grammar.specs.Outcome.{Gives}
use Rattle.grammar.specs.declared.Refusal.{Refusal}
use Rattle.grammar.specs.ReadTable.{read_table}
use Rattle.grammar.specs.Documents.{read_document}
use Rattle.grammar.specs.Sample.{sample as sample_of}
use Rattle.grammar.specs.Claim.{WritesLeast}
use Rattle.grammar.specs.Answers.{numbers_of}
use Rattle.grammar.specs.Calls.{out_after, wrote, read_addition, widened}
use Rattle.grammar.specs.Stages.{
  Input,
  table_input,
  empty_input,
  document_input,
  LetInBy,
  SameDocuments,
  LetsInAllOf,
  read_input,
  AddedBy,
  DocumentOf,
  Widens,
  Samples,
  ReadsLeast,
}
use Rattle.grammar.specs.declared.Format.{Format}
use Rattle.grammar.specs.declared.Refusal.TheVariants.{InputTooLong}
use Rattle.theory.proofs.Bytes.OutcomeLaws.{given_eq, had_no_fault, gives_this, gives_then}
use Rattle.theory.proofs.Bytes.ReadWithin.{read_within}
use Rattle.theory.proofs.Tables.TableConditions.{within_names}
use Rattle.theory.proofs.Theorems.LeastLaws.{least_inclusive, least_same, least_own, least_further}
use Rattle.theory.proofs.Theorems.CallPromises.{widening, widening_read, sampling_read}

pub either : {A B C D : Type 0} → A ↔ C → B ↔ D → (A ⊎ B) ↔ (C ⊎ D)
either h k = (⊎_map h.0 k.0, ⊎_map h.1 k.1)

module _ (lim : Limits) (classes : Classes) where
  -- a table adds what it lets in, a document what the table lets in that is written as its sample, E nothing
  pub table_adds : (table : List ℕ) (d : Tree) → AddedBy lim classes (table_input table) d ↔ LetInBy lim classes table d
  unfolding read_addition
  table_adds table d = gives_then (read_table lim classes table) by_table (λ a. Added a d)

  pub document_adds : {format : Format} {document sample : List ℕ} → Samples lim classes format document sample → (d : Tree)
      → AddedBy lim classes (document_input format document) d ↔ LetInBy lim classes sample d
  unfolding read_addition
  document_adds {format} {document} {sample} s d =
      let (t, p) = sampling_read lim classes format document s.out s.work s.left s.call s.gave.not_refused in
      let reads = ap (read_table lim classes) (sym s.gave.wrote) ∙ s.call.reads s.gave.not_refused t p in
      Iff.trans (gives_then (read_document lim classes format document) by_document (λ a. Added a d))
      (Iff.trans (gives_this (λ t. LetsIn (sample_of t) d) p) (Iff.symm (gives_this (λ g. LetsIn g d) reads)))

  pub empty_adds_none : (d : Tree) → AddedBy lim classes empty_input d → ⊥
  unfolding read_table
  empty_adds_none d a =
      let l = (table_adds empty_input.bytes d).0 a in
      let e = (had_no_fault (ltb lim.input 3) InputTooLong (Ok empty_table) l.thing l.was_given).1 in
      Memᴰ.not-nil (subst (λ (g : Table). LetsIn g d) (sym (given_eq e)) l.is).of_table

module _ (lim : Limits) (classes : Classes) (kind : Kind) where
  -- over more documents the least table lets in more, over the same the same
  pub reads_inclusive : (table table' : List ℕ) {Documents Documents' : Tree → Type 0} → ReadsLeast lim classes kind Documents table
      → ReadsLeast lim classes kind Documents' table' → ((d : Tree) → Documents d → Documents' d) → LetsInAllOf lim classes table' table
  reads_inclusive table table' r r' more d l =
      let names = within_names lim classes r'.thing (read_within lim classes table' r'.thing r'.was_given) in
      (gives_this (λ g. LetsIn g d) r'.was_given
      ).1
      (least_inclusive r.is r'.is names more d ((gives_this (λ g. LetsIn g d) r.was_given).0 l))

  pub reads_alike : (table table' : List ℕ) {Documents Documents' : Tree → Type 0} → ReadsLeast lim classes kind Documents table
      → ReadsLeast lim classes kind Documents' table' → ((d : Tree) → Documents d ↔ Documents' d) → SameDocuments lim classes table table'
  reads_alike table table' r r' same d =
      (reads_inclusive table table' r r' (λ e. (same e).0) d, reads_inclusive table' table r' r (λ e. (same e).1) d)

  pub reads_over : (table : List ℕ) {Documents Documents' : Tree → Type 0} → ReadsLeast lim classes kind Documents table
      → ((d : Tree) → Documents d ↔ Documents' d) → ReadsLeast lim classes kind Documents' table
  reads_over table r same = record { thing = r.thing; was_given = r.was_given; is = least_same r.is same }

  -- what is least over the documents of a least table and more
  pub reads_further : (table table' : List ℕ) {Documents More : Tree → Type 0} → ReadsLeast lim classes kind Documents table
      → ReadsLeast lim classes kind (λ d. LetInBy lim classes table d ⊎ More d) table'
      → ReadsLeast lim classes kind (λ d. Documents d ⊎ More d) table'
  reads_further table table' r r' =
      let over_read = least_same r'.is (λ d. either (gives_this (λ g. LetsIn g d) r.was_given) Iff.rfl) in
      record { thing = r'.thing; was_given = r'.was_given; is = least_further r.is over_read }

  -- Demand 3 of the call: a widening that gave a table read both inputs, and wrote the least widening of what it read.
  record Demanded (old : List ℕ) (input : Input) (result : List ℕ) : Type 0 where
    table : Table
    addition : Addition
    table_read : read_table lim classes old ≡ Ok table
    addition_read : read_input lim classes input ≡ Ok addition
    claim : WritesLeast lim classes kind table addition result

  module _ {old result : List ℕ} {input : Input} (w : Widens lim classes kind old input result) where
    demanded : Demanded old input result
    demanded =
        let ((g, p), (a, q)) =
        widening_read lim classes kind input.source old input.bytes w.out w.work w.left w.call w.gave.not_refused in
        record {
          table = g;
          addition = a;
          table_read = p;
          addition_read = q;
          claim = subst (WritesLeast lim classes kind g a) w.gave.wrote (w.call.least w.gave.not_refused g a p q);
        }

    pub widens_least : ReadsLeast lim classes kind (λ d. LetInBy lim classes old d ⊎ AddedBy lim classes input d) result
    widens_least =
        let r = demanded in
        record {
          thing = r.claim.thing;
          was_given = r.claim.was_given;
          is =
              least_same r.claim.is.least
              (λ d.
              either (Iff.symm (gives_this (λ g. LetsIn g d) r.table_read)) (Iff.symm (gives_this (λ a. Added a d) r.addition_read)));
        }

    pub widens_keep : (d : Tree) → LetInBy lim classes old d ⊎ DocumentOf lim classes input d → LetInBy lim classes result d
    widens_keep d (inl l) =
        let r = widens_least in
        record { thing = r.thing; was_given = r.was_given; is = r.is.keeps d (inl l) }
    widens_keep d (inr l) =
        let r = demanded in
        record {
          thing = r.claim.thing;
          was_given = r.claim.was_given;
          is = r.claim.is.keeps_document d ((gives_this (λ a. AddedItself a d) r.addition_read).0 l);
        }

  -- a table of the kind that lets in the addition already lets in just what its widening lets in
  pub already_wide : {old result : List ℕ} {input : Input} → Widens lim classes kind old input result
      → Gives (read_table lim classes old) (OfKind kind) → ((d : Tree) → AddedBy lim classes input d → LetInBy lim classes old d)
      → SameDocuments lim classes old result
  already_wide {old} {result} w of_kind lets_in_lem =
      let own : ReadsLeast lim classes kind (LetInBy lim classes old) old =
      record {
        thing = of_kind.thing;
        was_given = of_kind.was_given;
        is = least_same (least_own of_kind.is) (λ d. Iff.symm (gives_this (λ g. LetsIn g d) of_kind.was_given));
      } in
      reads_alike old result own (widens_least w) (λ d. (inl, ⊎_elim (λ l. l) (lets_in_lem d)))

  -- what the definition of a call gives, some call gave
  pub widens_given : LimitsAgree lim → (old : List ℕ) (input : Input) (out work result : List ℕ)
      → widened lim classes kind input.source old input.bytes out work ≡ Ok result → Widens lim classes kind old input result
  unfolding wrote numbers_of out_after
  widens_given agree old input out work result e =
      record {
        out = out;
        work = work;
        left = wrote lim (Ok result) out work;
        call =
            widening lim classes agree kind input.source old input.bytes out work (wrote lim (Ok result) out work)
            (ap (λ (o : Result (List ℕ) Refusal). wrote lim o out work) (sym e));
        gave = record { not_refused = refl; wrote = take-append_seam result (drop (length result) out) };
      }
