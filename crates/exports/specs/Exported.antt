-- The answer of an exported call is one number: the refusal's number times 2^32, and the value. The promises are those of the calls
-- themselves (grammar's Promises), of the two parts of that number.
use Rattle.std.specs.Prelude.{ℕ, ◌+◌, ◌*◌, ◌-◌, ◌/◌, ◌%◌, ◌≤◌, Result, Ok, Err}
use Rattle.grammar.specs.Limits.{name_limit}
use Rattle.grammar.specs.Answers.{Numbers, refused_by}
use Rattle.grammar.specs.declared.Refusal.{Refusal}

abbrev pub told : Numbers → ℕ
told n = n.refusal * 4294967296 + n.value

unfoldable pub parted : ℕ → Numbers
parted answer = record { refusal = answer / 4294967296; value = answer % 4294967296 }

-- where a name was found: its offset times 65,536, and its length
unfoldable pub place_numbers : Result (ℕ × ℕ) Refusal → Numbers
unfolding refused_by
place_numbers (Ok (from, to)) = record { refusal = 0; value = from * 65536 + (to - from) }
place_numbers (Err r) = refused_by r

-- a name is short and begins early
pub record ShortName (from to : ℕ) : Type 0 where
  pub early : from ≤ 8451
  pub order : from ≤ to
  pub short : to - from ≤ name_limit
