-- Bytes written into a draft, one after the other.
use Rattle.std.specs.Prelude.{ℕ, ◌+◌, ◌≤◌, ◌<◌, List, ◌++◌, ◌≡◌, length, take, drop, Err, Ok, Result}
use Rattle.grammar.specs.Limits.{input_limit}
use Rattle.grammar.specs.declared.TooLarge.{TooLarge}

-- these bytes stand at a place, up to the next one, and all else is kept
pub record Put (before : List ℕ) (at : ℕ) (bytes after : List ℕ) (next : ℕ) : Type 0 where
  pub is : after ≡ take at before ++ bytes ++ drop next before
  pub next_is : next ≡ at + length bytes
  pub room : next ≤ length before

-- and this within the bytes of a file; or the bytes are too many
abbrev pub Puts : List ℕ → ℕ → List ℕ → List ℕ → Result ℕ TooLarge → Type 0
Puts before at bytes after (Ok n) = Put before at bytes after n × (n ≤ input_limit)
Puts before at bytes after (Err over) = input_limit < at + length bytes
