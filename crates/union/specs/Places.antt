-- Where the sets of a widening stand in the lent words from step to step, as `places` has it.
use Rattle.std.specs.Prelude.{ℕ}

-- the sets that are the types of the result stand in the words before this one
abbrev pub sets_end : ℕ
sets_end = 2048

-- the fruitful pairs, those of the start types, and the pairs that reducing leaves
abbrev pub known_at : ℕ
known_at = 2048

abbrev pub starts_at : ℕ
starts_at = 2056

abbrev pub left_at : ℕ
left_at = 2064

-- the start types of the result, and the labels that it uses
abbrev pub start_types_at : ℕ
start_types_at = 2072

abbrev pub used_at : ℕ
used_at = 2080
