-- Deciding the kinds. (crates/theory proves that these are Local and SingleType.)
use Rattle.std.specs.Prelude.{ℕ, Bool, true, false, ◌&&◌, not, List, eqb}
use Rattle.grammar.specs.Lists.{any_pass, all_pass, all_distinct}
use Rattle.grammar.specs.Content.{types_in}
use Rattle.grammar.specs.Table.{Rule, Table}
use Rattle.grammar.specs.Kinds.{Kind, local, single_type}

unfoldable pub same_label : Rule → Rule → Bool
same_label r s = eqb r.label s.label

unfoldable pub same_pair : Rule → Rule → Bool
same_pair r s = eqb r.type s.type && eqb r.label s.label

unfoldable pub is_local : Table → Bool
unfolding all_distinct same_label
is_local g = all_distinct same_label g.rules

-- two types have rules with one label
unfoldable pub compete : Table → ℕ → ℕ → Bool
unfolding any_pass same_label
compete g k l = any_pass (λ (r : Rule). eqb r.type k && any_pass (λ (s : Rule). eqb s.type l && same_label r s) g.rules) g.rules

-- among these types no two different ones compete
unfoldable pub none_compete : Table → List ℕ → Bool
unfolding all_pass compete
none_compete g types = all_pass (λ k. all_pass (λ l. elim (eqb k l) [ true ↦ true | false ↦ not (compete g k l) ]) types) types

unfoldable pub is_single_type : Table → Bool
unfolding all_distinct same_pair all_pass none_compete types_in
is_single_type g =
    all_distinct same_pair g.rules && none_compete g g.starts && all_pass (λ (r : Rule). none_compete g (types_in r.content)) g.rules

unfoldable pub is_of_kind : Kind → Table → Bool
unfolding is_local is_single_type
is_of_kind local g = is_local g
is_of_kind single_type g = is_single_type g
