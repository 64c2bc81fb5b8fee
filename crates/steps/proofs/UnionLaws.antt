-- From the tables that were read to their reduced union:
--   seen_viewed, listed_both   what the steps ask
--   none_started               where no start pair is fruitful, no document is derived
--   reduced                    where there is one, what is known for the result
use Rattle.reader.specs.declared.index.TableIndex.{TableIndex}
use Prim.Native.Nat.{ℕ}
use native.Mathlib.Omega.{arith}
use mathlib.Core.Bool.{Bool, true, false}
use mathlib.Core.List.{List}
use mathlib.Core.Path.{◌≡◌, sym, ◌∙◌, ap}
use Rattle.grammar.specs.Limits.{large}
use Rattle.grammar.specs.LimitSets.{limits_of}
use Rattle.grammar.specs.declared.SizeLimits.{SizeLimits}
use Rattle.grammar.specs.Table.{Table}
use Rattle.std.specs.Prelude.{Err}
use Rattle.grammar.specs.Unite.{unite}
use Rattle.grammar.specs.Widen.{widen_by_table}
use Rattle.grammar.specs.declared.Refusal.TheVariants.{NoDocument}
use Rattle.sets.specs.Sets.{member, words_at, set_of_eight_at, Empties, KeptAround}
use Rattle.sets.proofs.SetLaws.{eight_before}
use Rattle.reader.specs.Held.{Held}
use Rattle.union.specs.declared.lists.TypeLists.{TypeLists}
use Rattle.union.specs.declared.united.Union.{Union}
use Rattle.union.specs.View.{Viewed, UnionSeen}
use Rattle.union.specs.PairNumbers.{fruitful_of, is_start, is_left}
use Rattle.union.specs.TypeLists.{ListsOf}
use Rattle.union.specs.Places.{starts_at, left_at}
use Rattle.reducing.specs.PairsListed.{BothListed}
use Rattle.results.specs.declared.plan.Kind.{Kind}
use Rattle.results.specs.PlanKind.{kind_of}
use Rattle.steps.specs.Widened.{UnionReduced}
use Rattle.steps.proofs.WidenLaws.{none_derived}

pub seen_viewed : {old add : List ℕ} {g h : Table} {union : Union} → UnionSeen old add g h union → Viewed old add union.rules
seen_viewed {old} {add} {g} {h} s = record { table = unite large g h; views = s.rules }

pub listed_both : {of : ℕ → List ℕ} {lists : TypeLists} → ListsOf of lists → BothListed lists
listed_both l = record { old = l.old_listed; added = l.added_listed }

module _ (l : SizeLimits) {old add : List ℕ} {index addition : TableIndex} {g h : Table} (p : Held (limits_of l) old index g)
    (q : Held (limits_of l) add addition h) where
  pub none_started : (kind : Kind) (words : List ℕ) {starts : List ℕ} {empty : Bool} → set_of_eight_at words starts_at ≡ is_start (unite large g h)
      → starts ≡ words_at words starts_at 8 → Empties starts empty → empty ≡ true → widen_by_table (limits_of l) (kind_of kind) g h ≡ Err NoDocument
  none_started kind words are loaded told e =
      none_derived l g h p.within q.within (kind_of kind) (sym (ap (λ (w : List ℕ). member w 0) loaded ∙ are) ∙ told.none e)

  pub reduced : {union : Union} {lists : TypeLists} {before after starts : List ℕ} {empty : Bool} → UnionSeen old add g h union
      → ListsOf (fruitful_of (unite large g h)) lists
      → set_of_eight_at before starts_at ≡ is_start (unite large g h) → set_of_eight_at after left_at ≡ is_left (unite large g h) → KeptAround left_at 8 before after
      → starts ≡ words_at before starts_at 8 → Empties starts empty → empty ≡ false → UnionReduced (limits_of l) old add index union lists after g h
  reduced seen lists are left kept loaded told e =
      let (k, below, has) = told.one e in
      record {
        old_held = p;
        second_within = q.within;
        seen = seen;
        lists_are = lists;
        starts_are = eight_before kept starts_at (omega arith) ∙ are;
        left_are = left;
        some_start = (k, sym (ap (λ (test : ℕ → Bool). test k) (ap (λ (w : List ℕ). member w 0) loaded ∙ are)) ∙ has);
      }
