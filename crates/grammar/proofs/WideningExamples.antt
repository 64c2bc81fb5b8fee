-- Two tenants, widened to both kinds: a zone beside each name, and staff groups nested in groups; and a table with two start labels.
use mathlib.Core.List.{[], ◌∷◌, map}
use mathlib.Core.Path.{◌≡◌, refl}
use Rattle.grammar.specs.Ascii.{ascii}
use Rattle.grammar.specs.Limits.{standard}
use Rattle.grammar.specs.Content.{empty, type, sequence, choice, any_number, one_or_more, optional, []ᶜ, ◌∷ᶜ◌}
use Rattle.grammar.specs.Tree.{Tree}
use Rattle.grammar.specs.Table.{Table, empty_table}
use Rattle.grammar.specs.Kinds.{local, single_type}
use Rattle.grammar.specs.Least.{by_table, by_document}
use Rattle.std.specs.Prelude.{Ok}
use Rattle.grammar.specs.Widen.{widen}
use Rattle.grammar.proofs.Builders.{rule, starting_at0, tree}

-- list(card+), card(name)
card_table : Table
unfolding starting_at0
card_table =
    starting_at0 ("list" ∷ "card" ∷ "name" ∷ []) (rule 0 0 (one_or_more (type 1)) ∷ rule 1 1 (type 2) ∷ rule 2 2 empty ∷ [])

-- list(card(name, zone))
zone_list : Tree
unfolding tree
zone_list = tree "list" (tree "card" (tree "name" [] ∷ tree "zone" [] ∷ []) ∷ [])

-- a zone beside the name from now on: either kind gives the same
zone_table : Table
unfolding starting_at0
zone_table =
    starting_at0 ("list" ∷ "card" ∷ "name" ∷ "zone" ∷ [])
    (rule 0 0 (choice (one_or_more (type 1) ∷ᶜ type 1 ∷ᶜ []ᶜ))
    ∷ rule 1 1 (choice (type 2 ∷ᶜ sequence (type 2 ∷ᶜ type 3 ∷ᶜ []ᶜ) ∷ᶜ []ᶜ))
    ∷ rule 2 2 empty
    ∷ rule 3 3 empty
    ∷ [])

zones_local : widen standard local card_table (by_document zone_list) ≡ Ok zone_table
unfolding widen standard card_table zone_list zone_table
zones_local = refl

zones_single_type : widen standard single_type card_table (by_document zone_list) ≡ Ok zone_table
unfolding widen standard card_table zone_list zone_table
zones_single_type = refl

-- group(card*): a group of cards
group_table : Table
unfolding starting_at0
group_table = starting_at0 ("group" ∷ "card" ∷ []) (rule 0 0 (any_number (type 1)) ∷ rule 1 1 empty ∷ [])

-- group(card, group(card))
nested_list : Tree
unfolding tree
nested_list = tree "group" (tree "card" [] ∷ tree "group" (tree "card" [] ∷ []) ∷ [])

-- local: one type for group, so groups may nest to any depth
nested_local : Table
unfolding starting_at0
nested_local =
    starting_at0 ("group" ∷ "card" ∷ [])
    (rule 0 0 (choice (any_number (type 1) ∷ᶜ sequence (type 1 ∷ᶜ type 0 ∷ᶜ []ᶜ) ∷ᶜ type 1 ∷ᶜ []ᶜ)) ∷ rule 1 1 empty ∷ [])

groups_local : widen standard local group_table (by_document nested_list) ≡ Ok nested_local
unfolding widen standard group_table nested_list nested_local
groups_local = refl

-- single-type: the inner group is a type of its own, and nests no further
nested_single : Table
unfolding starting_at0
nested_single =
    starting_at0 ("group" ∷ "card" ∷ [])
    (rule 0 0 (choice (any_number (type 1) ∷ᶜ sequence (type 1 ∷ᶜ type 2 ∷ᶜ []ᶜ) ∷ᶜ []ᶜ))
    ∷ rule 1 1 empty
    ∷ rule 2 0 (type 3)
    ∷ rule 3 1 empty
    ∷ [])

groups_single_type : widen standard single_type group_table (by_document nested_list) ≡ Ok nested_single
unfolding widen standard group_table nested_list nested_single
groups_single_type = refl

-- two starts of different labels, the later label first: a start set for each label, in label order
two_starts : Table
unfolding ascii
two_starts =
    record {
      labels = map ascii ("door" ∷ "lift" ∷ []);
      starts = 1 ∷ 0 ∷ [];
      rules = rule 1 1 (optional (type 0)) ∷ rule 0 0 empty ∷ [];
    }

two_starts_widened : Table
unfolding ascii
two_starts_widened =
    record {
      labels = map ascii ("door" ∷ "lift" ∷ []);
      starts = 0 ∷ 1 ∷ [];
      rules = rule 0 0 empty ∷ rule 1 1 (optional (type 0)) ∷ [];
    }

two_starts_local : widen standard local two_starts (by_table empty_table) ≡ Ok two_starts_widened
unfolding widen standard two_starts two_starts_widened
two_starts_local = refl

two_starts_single_type : widen standard single_type two_starts (by_table empty_table) ≡ Ok two_starts_widened
unfolding widen standard two_starts two_starts_widened
two_starts_single_type = refl
