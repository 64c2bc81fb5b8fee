-- Single-type: a result type is a set of types of one label.
use Rattle.std.specs.Prelude.{ℕ, zero, suc, Bool, ◌&&◌, not, List, ◌++◌, map, length, get_or, eqb}
use Rattle.std.proofs.Math.Option.{none as nothing, some as just}
use Rattle.std.proofs.Math.ListN.{get_elem?}
use Rattle.grammar.specs.Lists.{any_pass, keep, distinct, place, joined_of, is_in, same_numbers, numbers_below}
use Rattle.grammar.specs.Limits.{Limits}
use Rattle.grammar.specs.Content.{Content, types_in, type, choice_of, replace}
use Rattle.grammar.specs.Table.{Rule, Table}
use Rattle.grammar.specs.ReadTable.{is_empty}
use Rattle.grammar.specs.LocalForm.{label_of}

-- types in rule order
abbrev pub TypeSet : Type 0
TypeSet = List ℕ

-- those of some types that have this label, as a set
unfoldable pub of_label : Table → List ℕ → ℕ → TypeSet
unfolding keep is_in
of_label g types l = map (λ (r : Rule). r.type) (keep (λ (r : Rule). eqb r.label l && is_in r.type types) g.rules)

-- Start sets, one a label, come first in label order.
unfoldable pub start_sets : Table → List TypeSet
unfolding keep of_label numbers_below
start_sets g = keep (λ s. not (is_empty s)) (map (of_label g g.starts) (numbers_below (length g.labels)))

-- the rules of a set's members, in rule order
unfoldable pub members : Table → TypeSet → List Rule
unfolding keep is_in
members g s = keep (λ (r : Rule). is_in r.type s) g.rules

-- the types within the choice of the members' contents, as met, left to right
unfoldable pub types_met : Table → TypeSet → List ℕ
unfolding joined_of members types_in
types_met g s = joined_of (λ (r : Rule). types_in r.content) (members g s)

-- Within that, types of one label form one set: the sets, as met.
unfoldable pub sets_met : Table → TypeSet → List TypeSet
unfolding of_label types_met distinct label_of
sets_met g s = map (of_label g (types_met g s)) (distinct eqb (map (label_of g) (types_met g s)))

-- New sets are numbered as met, lowest set first: the sets from number `next` on are still to be looked into, at most `n` of them.
unfoldable pub more_sets : Table → ℕ → ℕ → List TypeSet → List TypeSet
unfolding keep any_pass same_numbers sets_met
more_sets g zero next sets = sets
more_sets g (suc n) next sets =
    elim (get_elem? sets next) [
      | nothing ↦ sets
      | just s ↦ more_sets g n (suc next) (sets ++ keep (λ t. not (any_pass (same_numbers t) sets)) (sets_met g s))
    ]

-- All sets. As many are looked into as there may be types, so these are all, or more than that.
unfoldable pub all_sets : Limits → Table → List TypeSet
unfolding more_sets start_sets
all_sets lim g = more_sets g lim.types zero (start_sets g)

-- A set's content is the choice of its members' contents in rule order, types replaced by the number of their set.
unfoldable pub content_of_set : Table → List TypeSet → TypeSet → Content
unfolding choice_of replace place same_numbers of_label types_met label_of members
content_of_set g sets s =
    let met : List ℕ = types_met g s in
    choice_of
    (map
    (λ (r : Rule). replace r.content (λ k. type (place same_numbers (of_label g met (label_of g k)) sets)))
    (members g s))

-- One member's rule for text makes the set's rule one for text; after Reduce no content is none.
unfoldable pub text_of_set : Table → TypeSet → Bool
unfolding any_pass members
text_of_set g s = any_pass (λ (r : Rule). r.text) (members g s)

unfoldable pub rule_of_set : Table → List TypeSet → TypeSet → Rule
unfolding place same_numbers label_of content_of_set text_of_set
rule_of_set g sets s =
    record {
      type = place same_numbers s sets;
      label = label_of g (get_or s 0 0);
      content = content_of_set g sets s;
      text = text_of_set g s;
    }

unfoldable pub single_type_form : Limits → Table → Table
unfolding all_sets start_sets rule_of_set numbers_below
single_type_form lim g =
    let sets : List TypeSet = all_sets lim g in
    record { labels = g.labels; starts = numbers_below (length (start_sets g)); rules = map (rule_of_set g sets) sets }
