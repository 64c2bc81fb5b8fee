-- The reduced union of two tables that a file can hold: a reduced table that lets in all that one of the two lets in, and no more than a
-- table of either kind that does so.
--     reduced_union_lem       ReducedTable (reduced_union lim old addition)
--     union_keeps         LetsIn old d ⊎ LetsIn addition d → LetsIn (reduced_union lim old addition) d
--     union_least         a table of a kind that lets in both tables' documents lets in those of the reduced union
--     union_nothing       it has no start just where neither lets in a document
use mathlib.Core.List.{[]}
use mathlib.Core.Logic.{◌↔◌, ◌⊎◌}
use mathlib.Core.Path.{◌≡◌}
use Rattle.grammar.specs.Limits.{Limits}
use Rattle.grammar.specs.Names.{Classes}
use Rattle.grammar.specs.Tree.{Tree}
use Rattle.grammar.specs.Table.{Table, DistinctNames}
use Rattle.grammar.specs.Derivation.{LetsIn}
use Rattle.grammar.specs.Kinds.{Kind, local, single_type, OfKind, SingleType}
use Rattle.grammar.specs.Least.{LetsInAll, Rival}
use Rattle.grammar.specs.WithinLimits.{TableWithin}
use Rattle.grammar.specs.Unite.{unite}
use Rattle.grammar.specs.Normalise.{normalise}
use Rattle.grammar.specs.Widen.{reduced_union}
use Rattle.theory.specs.Conditions.{Labelled}
use Rattle.theory.proofs.Tables.TableConditions.{within_below, within_labelled, within_names, derived_rule}
use Rattle.theory.proofs.Steps.UniteDocuments.{unite_documents, unite_labelled, unite_names}
use Rattle.theory.proofs.Steps.NormaliseDocuments.{normalise_keeps, normalise_types, normalise_names, normalise_labelled}
use Rattle.theory.proofs.Steps.ReduceDocuments.{
  reduce-labels,
  reduce_documents,
  reduce_fruitful,
  reduce_starts,
  reduce_reached,
  reduce_ruled,
  reduce_standing,
  reduce_nothing,
  reduce_labelled,
  reduce_one_rule,
}
use Rattle.theory.proofs.Tables.ReducedTable.{ReducedTable}
use Rattle.theory.proofs.Tables.KindLaws.{local_single_type}
use Rattle.theory.proofs.Steps.JoinLeast.{join_least, join_some}

module _ (lim : Limits) (classes : Classes) (old addition : Table) (old_within : TableWithin lim classes old)
    (addition_within : TableWithin lim classes addition) where
  abbrev united : Table
  united = unite lim old addition

  abbrev normal : Table
  normal = normalise united

  united_labelled : Labelled united
  united_labelled = unite_labelled lim old addition (within_labelled lim classes old old_within) (within_labelled lim classes addition addition_within)

  normal_labelled : Labelled normal
  normal_labelled = normalise_labelled united united_labelled

  normal_names : DistinctNames normal
  normal_names =
      normalise_names united
      (unite_names lim old addition (within_names lim classes old old_within) (within_names lim classes addition addition_within))

  pub reduced_union_lem : ReducedTable (reduced_union lim old addition)
  unfolding reduced_union
  reduced_union_lem =
      record {
        one_rule_each = reduce_one_rule normal (normalise_types united);
        labelled = reduce_labelled normal normal_labelled;
        names = λ i j m n p q e. normal_names i j m n (rw (← reduce-labels normal) p) (rw (← reduce-labels normal) q) e;
        start_rules = λ k m. derived_rule (reduce_starts normal normal_labelled k m).1;
        content_rules = reduce_ruled normal normal_labelled;
        content_words = reduce_standing normal normal_labelled;
        derives_some = reduce_fruitful normal normal_labelled;
        reaches = reduce_reached normal normal_labelled;
      }

  united_documents : (d : Tree) → LetsIn united d ↔ (LetsIn old d ⊎ LetsIn addition d)
  united_documents =
      unite_documents lim old addition (within_below lim classes old old_within) (within_labelled lim classes old old_within)
      (within_labelled lim classes addition addition_within)

  normal_keeps : (d : Tree) → LetsIn old d ⊎ LetsIn addition d → LetsIn normal d
  normal_keeps d l = normalise_keeps united d ((united_documents d).1 l)

  pub union_keeps : (d : Tree) → LetsIn old d ⊎ LetsIn addition d → LetsIn (reduced_union lim old addition) d
  unfolding reduced_union
  union_keeps d l = (reduce_documents normal normal_labelled d).1 (normal_keeps d l)

  -- a local table is single-type
  pub union_least : (kind : Kind) (rival : Table) → Rival kind (λ d. LetsIn old d ⊎ LetsIn addition d) rival
      → LetsInAll rival (LetsIn (reduced_union lim old addition))
  unfolding reduced_union
  union_least kind rival r =
      join_least united united_labelled rival r.names (single kind r.of_kind) (λ d l. r.keeps d ((united_documents d).0 l))
    where
      single : (kind : Kind) → OfKind kind rival → SingleType rival
      single local o = local_single_type rival o
      single single_type o = o

  pub union_nothing : ((reduced_union lim old addition).starts ≡ []) ↔ ((d : Tree) → (LetsIn old d ⊎ LetsIn addition d) → ⊥)
  unfolding reduced_union
  union_nothing = (
    λ e d l. (reduce_nothing normal normal_labelled).0 e d (normal_keeps d l),
    λ h.
        (reduce_nothing normal normal_labelled).1
        (λ d l. let (t, m) = join_some united united_labelled d l in h t ((united_documents t).0 m)),
  )
