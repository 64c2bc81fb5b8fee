-- The form that widening makes of a reduced table is least of its kind:
--     least_form : ReducedTable g → the form has at most as many types as there may be → LeastForm kind g (form lim kind g)
-- and the number of its rules tells whether the worklist of the single-type sets ended.
use Prim.Native.Nat.{ℕ, ◌≤◌}
use mathlib.Core.Path.{subst}
use lib.ListN.{length}
use Rattle.grammar.specs.Limits.{Limits}
use Rattle.grammar.specs.Table.{Table}
use Rattle.grammar.specs.Kinds.{Kind, local, single_type}
use Rattle.grammar.specs.Widen.{form}
use Rattle.theory.proofs.Tables.ReducedTable.{ReducedTable}
use Rattle.theory.proofs.Steps.FinishedForm.{LeastForm}
use Rattle.theory.proofs.Steps.LocalMerge.{local_form_local, local_form_labelled, local_form_keeps, local_form_least}
use Rattle.theory.proofs.Steps.SingleTypeMerge.{
  single_type_form_length,
  single_type_form_labelled,
  single_type_form_kind,
  single_type_form_keeps,
  single_type_form_least,
}

pub least_form : (lim : Limits) (kind : Kind) (g : Table) → ReducedTable g → length (form lim kind g).rules ≤ lim.types
    → LeastForm kind g (form lim kind g)
unfolding form
least_form lim local g reduced few =
    record {
      labelled = local_form_labelled g;
      least =
          record {
            of_kind = local_form_local g;
            keeps = local_form_keeps g reduced;
            least = λ rival r. local_form_least g reduced rival r.names r.of_kind r.keeps;
          };
    }
least_form lim single_type g reduced few =
    let enough = subst (λ (n : ℕ). n ≤ lim.types) (single_type_form_length lim g) few in
    record {
      labelled = single_type_form_labelled lim g reduced;
      least =
          record {
            of_kind = single_type_form_kind lim g reduced enough;
            keeps = single_type_form_keeps lim g reduced enough;
            least = λ rival r. single_type_form_least lim g reduced enough rival r.names r.of_kind r.keeps;
          };
    }
