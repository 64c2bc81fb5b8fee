-- Names by where they stand in the bytes of a table.
use Rattle.std.specs.Prelude.{ℕ, ◌+◌, Bool, true, false, not, List, ◌++◌, set}
use Rattle.grammar.specs.Lists.{any_pass, keep}
use Rattle.grammar.specs.Names.{Name, same_name}
use Rattle.reader.specs.NamePlaces.{NamesAt}
use Rattle.union.specs.declared.labels.Names.{Names}

-- these names stand in the bytes where the array says
abbrev pub NamesHeld : (s : List ℕ) → Names → List Name → Type 0
NamesHeld s names list = NamesAt s names.places names.count list

-- one name more, or none
unfoldable pub names_if : Bool → Names → (from to : ℕ) → Names
names_if true names from to =
    record { places = set (set names.places names.count from) (128 + names.count) to; count = names.count + 1 }
names_if false names from to = names

-- the names that are not among the old, and the names of the union
unfoldable pub new_names : (old added : List Name) → List Name
unfolding keep any_pass same_name
new_names old added = keep (λ n. not (any_pass (same_name n) old)) added

abbrev pub united_names : (old added : List Name) → List Name
united_names old added = old ++ new_names old added
