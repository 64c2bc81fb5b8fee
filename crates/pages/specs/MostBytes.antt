-- The most bytes that the pages of a table take, by the size that the call is asked for: 19, 39 and 42 pages.
use Rattle.std.specs.Prelude.{ℕ}
use Rattle.grammar.specs.declared.Size.{Size}
use Rattle.grammar.specs.declared.Size.TheVariants.{Small, Standard, Large}

abbrev pub most_bytes : Size → ℕ
most_bytes Small = 83220
most_bytes Standard = 170820
most_bytes Large = 183960
