-- What widening gives is the least widening, by a table and by a document, to either kind:
--     widened_by_table       widen_by_table lim kind old addition ≡ given result → LeastWidening kind old (by_table addition) result
--     widened_by_document    widen lim kind old (by_document d) ≡ given result → LeastWidening kind old (by_document d) result
-- for tables that a file can hold. 13 is given just where neither lets in a document: `no_document`.
use Prim.Native.Nat.{ℕ, ◌≤◌}
use native.Mathlib.Omega.{arith}
use mathlib.Core.Bool.{Bool, true, false, false≢true}
use mathlib.Core.List.{List, [], ◌∷◌}
use mathlib.Core.Logic.{◌↔◌, ◌⊎◌, inr}
use mathlib.Core.Path.{◌≡◌, refl, sym, subst}
use lib.ListN.{length}
use Rattle.grammar.specs.Limits.{Limits}
use Rattle.grammar.specs.Names.{Classes}
use Rattle.grammar.specs.Tree.{Tree}
use Rattle.grammar.specs.Table.{Table}
use Rattle.grammar.specs.Derivation.{LetsIn}
use Rattle.grammar.specs.Kinds.{Kind}
use Rattle.grammar.specs.Least.{by_table, by_document, LeastWidening}
use Rattle.std.specs.Prelude.{Ok, Err}
use Rattle.grammar.specs.Outcome.{◌>>◌, turn_back}
use Rattle.grammar.specs.declared.Refusal.TheVariants.{NoDocument, ResultTooLarge}
use Rattle.grammar.specs.WithinLimits.{TableWithin}
use Rattle.grammar.specs.ReadTable.{is_empty}
use Rattle.grammar.specs.Size.{too_large}
use Rattle.grammar.specs.Widen.{form, of_size, reduced_union, widen_by_table, sample_table, widen}
use Rattle.grammar.specs.Sample.{sample}
use Rattle.theory.proofs.Bytes.OutcomeLaws.{given_eq, was_given, had_no_fault}
use Rattle.theory.proofs.Steps.ReducedUnion.{reduced_union_lem, union_keeps, union_least, union_nothing}
use Rattle.theory.proofs.Steps.FinishedForm.{LeastForm, finished, finished_least}
use Rattle.theory.proofs.Steps.LeastForms.{least_form}
use Rattle.theory.proofs.Tables.SameTree.{same_let_in}
use Rattle.theory.proofs.Sample.SampleDocument.{sample_lets_in}
use Rattle.theory.proofs.Bytes.NumberedTable.{TableSmall, table_small, finished_rules}

-- the table before its size is looked at
abbrev pub unsized : Limits → Kind → Table → Table → Table
unsized lim kind old addition = finished (form lim kind (reduced_union lim old addition))

-- a widening that gave a table made this one, which is not too large, of a form that has no more types than there may be
pub record Widened (lim : Limits) (kind : Kind) (old addition result : Table) : Type 0 where
  pub made : result ≡ unsized lim kind old addition
  pub small : TableSmall lim (unsized lim kind old addition)
  pub few : length (form lim kind (reduced_union lim old addition)).rules ≤ lim.types

pub widened : (lim : Limits) (kind : Kind) (old addition result : Table) → widen_by_table lim kind old addition ≡ Ok result
    → Widened lim kind old addition result
unfolding widen_by_table of_size
widened lim kind old addition result e =
    let a = had_no_fault (is_empty (reduced_union lim old addition).starts) NoDocument (of_size lim (unsized lim kind old addition)) result e in
    let b = had_no_fault (too_large lim (unsized lim kind old addition)) ResultTooLarge (Ok (unsized lim kind old addition)) result a.1 in
    let small = table_small lim (unsized lim kind old addition) b.0 in
    let rules = finished_rules (form lim kind (reduced_union lim old addition)) in
    record { made = sym (given_eq b.1); small = small; few = subst (λ (n : ℕ). n ≤ lim.types) rules small.few }

-- a table of any size is given or refused by 14
not_thirteen : (lim : Limits) (g : Table) → of_size lim g ≡ Err NoDocument → ⊥
unfolding of_size
not_thirteen lim g e = go (too_large lim g) e
  where
    go : (b : Bool) → (turn_back b ResultTooLarge >> Ok g) ≡ Err NoDocument → ⊥
    go true e = let z : ◌≡◌ {A = ℕ} 0 1 = cc in omega arith
    go false e = let z : ◌≡◌ {A = ℕ} 0 1 = cc in omega arith

module _ (lim : Limits) (classes : Classes) (kind : Kind) (old addition : Table) (old_within : TableWithin lim classes old)
    (addition_within : TableWithin lim classes addition) where
  abbrev reduced : Table
  reduced = reduced_union lim old addition

  -- the result is the least form of the reduced union
  pub result_least : (result : Table) → widen_by_table lim kind old addition ≡ Ok result → LeastForm kind reduced result
  result_least result e =
      let w = widened lim kind old addition result e in
      let f = least_form lim kind reduced (reduced_union_lem lim classes old addition old_within addition_within) w.few in
      subst (λ (g : Table). LeastForm kind reduced g) (sym w.made) (finished_least kind reduced (form lim kind reduced) f)

  pub widened_by_table : (result : Table) → widen_by_table lim kind old addition ≡ Ok result
      → LeastWidening kind old (by_table addition) result
  widened_by_table result e =
      let f = (result_least result e).least in
      record {
        least =
            record {
              of_kind = f.of_kind;
              keeps = λ d l. f.keeps d (union_keeps lim classes old addition old_within addition_within d l);
              least =
                  λ rival r.
                  let keeps = union_least lim classes old addition old_within addition_within kind rival r in
                  f.least rival (record { names = r.names; of_kind = r.of_kind; keeps = keeps });
            };
        keeps_document = λ d n. absurd n;
      }

  -- 13 is given just where neither table lets in a document
  pub no_document : (widen_by_table lim kind old addition ≡ Err NoDocument) ↔ ((d : Tree) → LetsIn old d ⊎ LetsIn addition d → ⊥)
  unfolding widen_by_table
  no_document = (
    λ e d l. (union_nothing lim classes old addition old_within addition_within).0 (no_starts reduced.starts (is_empty reduced.starts) refl e) d l,
    λ h. rw ((union_nothing lim classes old addition old_within addition_within).1 h) refl,
  )
    where
      no_starts : (ks : List ℕ) (b : Bool) → is_empty ks ≡ b → (turn_back b NoDocument >> of_size lim (unsized lim kind old addition)) ≡ Err NoDocument → ks ≡ []
      no_starts [] b q e = refl
      no_starts (k ∷ ks) true q e = absurd (false≢true q)
      no_starts (k ∷ ks) false q e = absurd (not_thirteen lim (unsized lim kind old addition) e)

-- the table of a document is its sample
pub sampled : (lim : Limits) (d : Tree) (g : Table) → sample_table lim d ≡ Ok g → g ≡ sample d
unfolding sample_table of_size
sampled lim d g e = sym (given_eq (had_no_fault (too_large lim (sample d)) ResultTooLarge (Ok (sample d)) g e).1)

pub sampled_thirteen : (lim : Limits) (d : Tree) → sample_table lim d ≡ Err NoDocument → ⊥
unfolding sample_table
sampled_thirteen lim d e = not_thirteen lim (sample d) e

-- A document is added through its sample, which lets it in.
module _ (lim : Limits) (classes : Classes) (kind : Kind) (old : Table) (d : Tree) (old_within : TableWithin lim classes old)
    (sample_within : (g : Table) → sample_table lim d ≡ Ok g → TableWithin lim classes g) where
  pub widened_by_document : (result : Table) → widen lim kind old (by_document d) ≡ Ok result
      → LeastWidening kind old (by_document d) result
  unfolding widen
  widened_by_document result e =
      let a = was_given (sample_table lim d) (λ g. widen_by_table lim kind old g) result e in
      let within = sample_within a.0 a.1 in
      let w =
      subst (λ (g : Table). LeastWidening kind old (by_table g) result) (sampled lim d a.0 a.1)
      (widened_by_table lim classes kind old a.0 old_within within result a.2) in
      record { least = w.least; keeps_document = λ e same. w.least.keeps e (inr (same_let_in (sample_lets_in d) same)) }
