-- The numbers that a list stands for: their remainders by 128, so that any list gives numbers below 128.
use Rattle.std.specs.Prelude.{ℕ, ◌%◌, List, map}

unfoldable pub remainders : List ℕ → List ℕ
remainders numbers = map (λ n. n % 128) numbers
