-- The checksum of bytes or words: 17, then for each in order 31 times the sum so far and the item, modulo 2 to the 32nd.
use Rattle.std.specs.Prelude.{ℕ, ◌+◌, ◌*◌, ◌%◌, List, [], ◌∷◌}

abbrev pub next : ℕ → ℕ → ℕ
next sum item = (sum * 31 + item) % 4294967296

unfoldable pub sum_from : ℕ → List ℕ → ℕ
sum_from sum [] = sum
sum_from sum (item ∷ items) = sum_from (next sum item) items

unfoldable pub checksum : List ℕ → ℕ
unfolding sum_from
checksum = sum_from 17
