-- The theorem of least widening. Whenever the definition of widening gives a table, for either kind and for either sort of addition
-- that reads, reading its written bytes gives a table that is the least widening (`widening_theorem`). 13 is given just where
-- neither the old table nor the addition has a document (`thirteen`), so never with a document added.
use Prim.Native.Nat.{ℕ}
use mathlib.Core.List.{List}
use mathlib.Core.Logic.{◌↔◌, ◌⊎◌, inr}
use mathlib.Core.Path.{◌≡◌, refl, sym, ◌∙◌, subst}
use Rattle.grammar.specs.Limits.{Limits, LimitsAgree}
use Rattle.grammar.specs.Names.{Classes}
use Rattle.grammar.specs.Tree.{Tree}
use Rattle.grammar.specs.Table.{Table}
use Rattle.grammar.specs.Derivation.{LetsIn}
use Rattle.grammar.specs.Kinds.{Kind}
use Rattle.grammar.specs.Least.{Addition, by_table, by_document, Added}
use Rattle.std.specs.Prelude.{Result, Ok, Err}
use Rattle.grammar.specs.Outcome.{◌>>=◌}
use Rattle.grammar.specs.declared.Refusal.{Refusal}
use Rattle.grammar.specs.ReadTable.{read_table}
use Rattle.grammar.specs.Documents.{read_document}
use Rattle.grammar.specs.Sample.{sample}
use Rattle.grammar.specs.WriteTable.{table_bytes}
use Rattle.grammar.specs.Widen.{widen, widen_by_table, sample_table}
use Rattle.grammar.specs.Claim.{WritesLeast}
use Rattle.grammar.specs.Calls.{read_addition}
use Rattle.grammar.specs.declared.Format.{Format}
use Rattle.grammar.specs.declared.Source.{Source}
use Rattle.grammar.specs.declared.Source.TheVariants.{Table as a_table, Document as a_document}
use Rattle.grammar.specs.declared.Refusal.TheVariants.{NoDocument}
use Rattle.theory.proofs.Bytes.OutcomeLaws.{was_given, given_eq}
use Rattle.theory.proofs.Bytes.ReadWithin.{read_within}
use Rattle.theory.proofs.Bytes.TreeRead.{tree_within}
use Rattle.theory.proofs.Bytes.SampleWithin.{sample_within}
use Rattle.theory.proofs.Sample.SampleDocument.{sample_lets_in}
use Rattle.theory.proofs.Theorems.ResultWithin.{result_read_back, document_result_read_back}
use Rattle.theory.proofs.Theorems.WidenLeast.{widened_by_table, widened_by_document, sampled, sampled_thirteen, no_document}

module _ (lim : Limits) (classes : Classes) (agree : LimitsAgree lim) (kind : Kind) (old_bytes added_bytes : List ℕ) (old : Table)
    (p : read_table lim classes old_bytes ≡ Ok old) where
  by_table_lem : (addition result : Table) → read_table lim classes added_bytes ≡ Ok addition
      → widen lim kind old (by_table addition) ≡ Ok result → WritesLeast lim classes kind old (by_table addition) (table_bytes result)
  unfolding widen
  by_table_lem addition result q e =
      let old_within = read_within lim classes old_bytes old p in
      let addition_within = read_within lim classes added_bytes addition q in
      record {
        thing = result;
        was_given = result_read_back lim classes agree kind old addition old_within addition_within result e;
        is = widened_by_table lim classes kind old addition old_within addition_within result e;
      }

  by_document_lem : (format : Format) (d : Tree) (result : Table) → read_document lim classes format added_bytes ≡ Ok d
      → widen lim kind old (by_document d) ≡ Ok result → WritesLeast lim classes kind old (by_document d) (table_bytes result)
  unfolding widen
  by_document_lem format d result q e =
      let old_within = read_within lim classes old_bytes old p in
      let within = tree_within lim classes format added_bytes d q in
      record {
        thing = result;
        was_given = document_result_read_back lim classes agree d within kind old old_within result e;
        is = widened_by_document lim classes kind old d old_within (sample_within lim classes agree d within) result e;
      }

  thirteen_by_table : (addition : Table) → read_table lim classes added_bytes ≡ Ok addition
      → (widen lim kind old (by_table addition) ≡ Err NoDocument) ↔ ((d : Tree) → LetsIn old d ⊎ LetsIn addition d → ⊥)
  unfolding widen
  thirteen_by_table addition q =
      no_document lim classes kind old addition (read_within lim classes old_bytes old p) (read_within lim classes added_bytes addition q)

  never_by_document : (format : Format) (d : Tree) → read_document lim classes format added_bytes ≡ Ok d
      → widen lim kind old (by_document d) ≡ Err NoDocument → ⊥
  unfolding widen
  never_by_document format d q e = go (sample_table lim d) refl e
    where
      go : (o : Result Table Refusal) → sample_table lim d ≡ o → (o >>= λ g. widen_by_table lim kind old g) ≡ Err NoDocument → ⊥
      go (Err r) s f = sampled_thirteen lim d (s ∙ f)
      go (Ok g) s f =
          (no_document lim classes kind old g (read_within lim classes old_bytes old p)
          (sample_within lim classes agree d (tree_within lim classes format added_bytes d q) g s)
          ).0
          f
          d
          (inr (subst (λ (h : Table). LetsIn h d) (sym (sampled lim d g s)) (sample_lets_in d)))

  thirteen_by_document : (format : Format) (document : Tree) → read_document lim classes format added_bytes ≡ Ok document
      → (widen lim kind old (by_document document) ≡ Err NoDocument) ↔ ((d : Tree) → LetsIn old d ⊎ LetsIn (sample document) d → ⊥)
  thirteen_by_document format document q =
      (λ e. absurd (never_by_document format document q e), λ none. absurd (none document (inr (sample_lets_in document))))

-- a fact of every addition that reads, from one of tables and one of documents
of_addition : (lim : Limits) (classes : Classes) (source : Source) (bytes : List ℕ) (addition : Addition) (Fact : Addition → Type 0)
    → ((g : Table) → read_table lim classes bytes ≡ Ok g → Fact (by_table g))
    → ((format : Format) (d : Tree) → read_document lim classes format bytes ≡ Ok d → Fact (by_document d))
    → read_addition lim classes source bytes ≡ Ok addition → Fact addition
unfolding read_addition
of_addition lim classes a_table bytes addition Fact table document q =
    let (g, r, e) = was_given (read_table lim classes bytes) (λ g. Ok (by_table g)) addition q in
    subst Fact (given_eq e) (table g r)
of_addition lim classes (a_document format) bytes addition Fact table document q =
    let (d, r, e) = was_given (read_document lim classes format bytes) (λ d. Ok (by_document d)) addition q in
    subst Fact (given_eq e) (document format d r)

pub widening_theorem : (lim : Limits) (classes : Classes) → LimitsAgree lim → (kind : Kind) (source : Source) (old_bytes added_bytes : List ℕ)
    (old : Table) (addition : Addition) (result : Table) → read_table lim classes old_bytes ≡ Ok old
    → read_addition lim classes source added_bytes ≡ Ok addition → widen lim kind old addition ≡ Ok result
    → WritesLeast lim classes kind old addition (table_bytes result)
widening_theorem lim classes agree kind source old_bytes added_bytes old addition result p q =
    of_addition lim classes source added_bytes addition
    (λ a. widen lim kind old a ≡ Ok result → WritesLeast lim classes kind old a (table_bytes result))
    (λ g r. by_table_lem lim classes agree kind old_bytes added_bytes old p g result r)
    (λ format d r. by_document_lem lim classes agree kind old_bytes added_bytes old p format d result r)
    q

pub thirteen : (lim : Limits) (classes : Classes) → LimitsAgree lim → (kind : Kind) (source : Source) (old_bytes added_bytes : List ℕ)
    (old : Table) (addition : Addition) → read_table lim classes old_bytes ≡ Ok old
    → read_addition lim classes source added_bytes ≡ Ok addition
    → (widen lim kind old addition ≡ Err NoDocument) ↔ ((d : Tree) → LetsIn old d ⊎ Added addition d → ⊥)
thirteen lim classes agree kind source old_bytes added_bytes old addition p q =
    of_addition lim classes source added_bytes addition
    (λ a. (widen lim kind old a ≡ Err NoDocument) ↔ ((d : Tree) → LetsIn old d ⊎ Added a d → ⊥))
    (λ g r. thirteen_by_table lim classes agree kind old_bytes added_bytes old p g r)
    (λ format d r. thirteen_by_document lim classes agree kind old_bytes added_bytes old p format d r)
    q
