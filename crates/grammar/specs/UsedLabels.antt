-- The result's labels are those used, in label order.
use Rattle.std.specs.Prelude.{ℕ, List, [], map, length, get_or, eqb}
use Rattle.grammar.specs.Lists.{any_pass, keep, place, numbers_below}
use Rattle.grammar.specs.Table.{Rule, Table}

unfoldable pub used_labels : Table → List ℕ
unfolding keep any_pass numbers_below
used_labels g = keep (λ l. any_pass (λ (r : Rule). eqb r.label l) g.rules) (numbers_below (length g.labels))

unfoldable pub with_used_labels : Table → Table
unfolding used_labels place
with_used_labels g =
    let used : List ℕ = used_labels g in
    record {
      labels = map (λ l. get_or g.labels l []) used;
      starts = g.starts;
      rules =
          map
          (λ (r : Rule). record { type = r.type; label = place eqb r.label used; content = r.content; text = r.text })
          g.rules;
    }
