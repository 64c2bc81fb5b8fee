-- What the content of a set is merged from.
use Prim.Native.Nat.{ℕ, ◌<◌}
use mathlib.Core.Bool.{Bool}
use mathlib.Core.List.{List}
use mathlib.Core.Path.{◌≡◌, subst}
use lib.ListN.{length}
use Rattle.grammar.specs.Normalise.{pairs_of, normalise}
use Rattle.grammar.specs.Reduce.{fruitful}
use Rattle.theory.specs.Alternatives.{some_left, results_of}
use Rattle.sets.specs.Sets.{member}
use Rattle.sets.specs.declared.set.Set.{Set}
use Rattle.union.specs.declared.lists.TypeLists.{TypeLists}
use Rattle.union.specs.TypeLists.{ListsOf}
use Rattle.contents.specs.Joining.{Joining}
use Rattle.forms.specs.SetForms.{set_number}
use Rattle.forms.specs.Worklist.{NumbersOf}
use Rattle.results.specs.declared.plan.Plan.{Plan}
use Rattle.results.specs.Results.{RulesFrom}

module _ {old add : List ℕ} {plan : Plan} {words : List ℕ} (q : RulesFrom old add plan words) where
  -- the numbers of all labels
  pub all_labels : (f : ℕ → ℕ) (list : List ℕ) → NumbersOf f plan.labels list → NumbersOf f (length q.in_words.table.labels) list
  all_labels f list h = subst (λ (n : ℕ). NumbersOf f n list) q.labels_are h

  -- the sets of the pairs of a type, where these pairs form the sets
  abbrev pub results_in : (ℕ → Bool) → ℕ → List ℕ
  results_in within =
      results_of (pairs_of q.in_words.table) (fruitful (normalise q.in_words.table)) (set_number q.in_words.table q.in_words.sets within)

  abbrev pub merged : (within : ℕ → Bool) (types : Set 8) (results : TypeLists) → ListsOf (results_in within) results
      → ((of : ℕ → List ℕ) → ListsOf of results → (k : ℕ) → k < 256 → member types.words 0 k ≡ some_left of k)
      → Joining old add plan.union (record { types = types; lists = results })
  merged within types results x t =
      record {
        table = q.in_words.table;
        views = q.in_words.views;
        shallow = q.shallow;
        of = results_in within;
        lists = x;
        typed = t (results_in within) x;
      }
