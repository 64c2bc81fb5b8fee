-- The pairs met in the contents of a union's rules, pair by pair, as a program meets them.
use Rattle.std.specs.Prelude.{ℕ, ◌≤◌, List, ◌≡◌}
use Rattle.std.proofs.Math.Option.{some as just}
use Rattle.grammar.specs.Lists.{joined_of}
use Rattle.grammar.specs.Content.{Content}
use Rattle.grammar.specs.Table.{Table}
use Rattle.theory.specs.Alternatives.{pairs_met}
use Rattle.union.specs.declared.united.United.{United}
use Rattle.union.specs.declared.lists.TypeLists.{TypeLists}
use Rattle.union.specs.View.{Views, Viewed}
use Rattle.union.specs.declared.lists.Lists.{Lists}
use Rattle.reader.specs.ExprAt.{◌up_to◌, expr_at}
use Rattle.union.specs.PairNumbers.{fruitful_of, contents_of_pair}
use Rattle.union.specs.TypeLists.{ListsOf}
use Rattle.union.specs.Walks.{list_of_type, Once, Adds}
use Rattle.union.specs.Rounds.{content_of_rule}
use Rattle.reducing.specs.PairsListed.{BothListed}
use Rattle.reducing.specs.declared.meeting.Met.{Met}

-- the pairs met in the content of a rule, and in the contents of a pair
unfoldable pub met_in_rule : Table → ℕ → List ℕ
unfolding pairs_met content_of_rule
met_in_rule u i = pairs_met (fruitful_of u) (content_of_rule u i)

unfoldable pub met_in_pair : Table → ℕ → List ℕ
unfolding joined_of pairs_met contents_of_pair
met_in_pair u p = joined_of (pairs_met (fruitful_of u)) (contents_of_pair u p)

-- the pairs met in a content are added, by the lists of its table's types
pub record ContentMet (s : List ℕ) (lists : Lists) (numbers list : List ℕ) (count : ℕ) : Type 0 where
  pub adds : (c : Content) (next : ℕ) → expr_at s 0 ≡ just (c up_to next)
      → Adds numbers (pairs_met (list_of_type lists.from lists.numbers) c) list count
  pub once : Once 256 list count

-- what a step asks: a view, its lists, and numbers each once
pub record MeetAsks (old add : List ℕ) (v : United) (lists : TypeLists) (list : List ℕ) (count : ℕ) : Type 0 where
  pub viewed : Viewed old add v
  pub listed : BothListed lists
  pub once : Once 256 list count

-- what it finds: pairs are added
pub record Meets (old add : List ℕ) (v : United) (lists : TypeLists) (more : Table → List ℕ) (numbers list : List ℕ)
    (count : ℕ) : Type 0 where
  pub adds : (u : Table) → Views old add v u → ListsOf (fruitful_of u) lists → Adds numbers (more u) list count
  pub once : Once 256 list count

-- the pairs met, each once and below 256
pub record MetHeld (r : Met) : Type 0 where
  pub once : Once 256 r.numbers r.count
  pub few : r.count ≤ 256
