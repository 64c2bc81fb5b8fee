-- What the laws of the forms by sets ask of a union, under limits that the code has room for; and that the union of two tables that a
-- file can hold under them meets it:
--   union_fit : NoneAbove lim large → TableWithin lim g → TableWithin lim h → UnionFit lim (unite large g h)
use Prim.Native.Nat.{◌≤◌}
use native.Mathlib.Omega.{arith}
use mathlib.Core.List.{map, Memᴰ}
use mathlib.Core.Logic.{⊎_elim}
use mathlib.Core.Path.{subst}
use lib.ListN.{length, length-append, length-map}
use Rattle.grammar.specs.Limits.{Limits, NoneAbove, large}
use Rattle.grammar.specs.Names.{Name}
use Rattle.grammar.specs.Table.{Table}
use Rattle.grammar.specs.WithinLimits.{NameWithin, TableWithin}
use Rattle.grammar.specs.Unite.{added, unite}
use Rattle.grammar.specs.Normalise.{normalise}
use Rattle.grammar.specs.Reduce.{reduce}
use Rattle.grammar.specs.Widen.{reduced_union}
use Rattle.theory.specs.Conditions.{Labelled, all_letters}
use Rattle.theory.proofs.Tables.TableConditions.{within_labelled, within_below}
use Rattle.theory.proofs.Tables.RoomierLimits.{table_roomier}
use Rattle.theory.proofs.Steps.UniteDocuments.{unite_labelled}
use Rattle.theory.proofs.Tables.ReducedTable.{ReducedTable}
use Rattle.theory.proofs.Steps.ReducedUnion.{reduced_union_lem}
use Rattle.theory.proofs.Steps.ShiftedTypes.{same_reduced_union}
use Rattle.theory.proofs.Bytes.CountedTables.{RulesCounted, within_counted, union_counted, union_name}

pub record UnionFit (lim : Limits) (u : Table) : Type 0 where
  pub room : NoneAbove lim large
  pub labelled : Labelled u
  pub few : length u.rules ≤ 256
  pub reduced : ReducedTable (reduce (normalise u))
  pub counted : RulesCounted lim (reduce (normalise u)).rules
  pub named : (n : Name) → Memᴰ n (reduce (normalise u)).labels → NameWithin lim all_letters n

module _ (lim : Limits) (room : NoneAbove lim large) (g h : Table) (old : TableWithin lim all_letters g)
    (addition : TableWithin lim all_letters h) where
  few_rules : length (unite large g h).rules ≤ 256
  unfolding unite large
  few_rules =
      let a = (table_roomier room old).rules in
      let b = (table_roomier room addition).rules in
      let n = length-append g.rules (map (added large g h) h.rules) in
      let m = length-map h.rules (added large g h) in
      omega arith

  counted_rules : RulesCounted lim (reduced_union large g h).rules
  counted_rules =
      subst (λ (t : Table). RulesCounted lim t.rules)
      (same_reduced_union lim large g h room.types (within_below lim all_letters g old))
      (union_counted lim g h (within_counted lim all_letters g old) (within_counted lim all_letters h addition))

  pub union_fit : UnionFit lim (unite large g h)
  unfolding reduced_union
  union_fit =
      record {
        room = room;
        labelled =
            unite_labelled large g h (within_labelled lim all_letters g old)
            (within_labelled lim all_letters h addition);
        few = few_rules;
        reduced = reduced_union_lem large all_letters g h (table_roomier room old) (table_roomier room addition);
        counted = counted_rules;
        named = λ n m. ⊎_elim (old.names n) (addition.names n) (union_name large g h n m);
      }
