-- What follows from being least alone, for any tables and any documents:
--     least_inclusive    over more documents the least table lets in more
--     least_same         being least depends on the documents alone
--     least_own          a table of the kind is least over its own documents
--     least_further      least over a least table's documents and more is least over all of them
use mathlib.Core.Logic.{◌↔◌, ◌⊎◌, inl, inr, ⊎_elim}
use Rattle.grammar.specs.Tree.{Tree}
use Rattle.grammar.specs.Table.{Table, DistinctNames}
use Rattle.grammar.specs.Derivation.{LetsIn}
use Rattle.grammar.specs.Kinds.{Kind, OfKind}
use Rattle.grammar.specs.Least.{LetsInAll, Least}

module _ {kind : Kind} {Documents Documents' : Tree → Type 0} where
  pub least_inclusive : {result result' : Table} → Least kind Documents result → Least kind Documents' result' → DistinctNames result'
      → ((d : Tree) → Documents d → Documents' d) → LetsInAll result' (LetsIn result)
  least_inclusive {result' = result'} w w' names more =
      w.least result' (record { names = names; of_kind = w'.of_kind; keeps = λ d h. w'.keeps d (more d h) })

  pub least_same : {result : Table} → Least kind Documents result → ((d : Tree) → Documents d ↔ Documents' d) → Least kind Documents' result
  least_same w same =
      record {
        of_kind = w.of_kind;
        keeps = λ d h. w.keeps d ((same d).1 h);
        least =
            λ rival r.
            w.least rival (record { names = r.names; of_kind = r.of_kind; keeps = λ d h. r.keeps d ((same d).0 h) });
      }

pub least_own : {kind : Kind} {g : Table} → OfKind kind g → Least kind (LetsIn g) g
least_own of_kind = record { of_kind = of_kind; keeps = λ d l. l; least = λ rival r. r.keeps }

-- Whatever lets in the documents of the first and more is a rival of the first, hence lets in all of it, hence is a rival of the second.
pub least_further : {kind : Kind} {Documents More : Tree → Type 0} {result result' : Table} → Least kind Documents result
    → Least kind (λ d. LetsIn result d ⊎ More d) result' → Least kind (λ d. Documents d ⊎ More d) result'
least_further w w' =
    record {
      of_kind = w'.of_kind;
      keeps = λ d. ⊎_elim (λ h. w'.keeps d (inl (w.keeps d h))) (λ h. w'.keeps d (inr h));
      least =
          λ rival r.
          let keeps_result =
          w.least rival (record { names = r.names; of_kind = r.of_kind; keeps = λ d h. r.keeps d (inl h) }) in
          w'.least rival
          (record { names = r.names; of_kind = r.of_kind; keeps = λ d. ⊎_elim (keeps_result d) (λ h. r.keeps d (inr h)) });
    }
