-- What completing a content answers.
use Rattle.std.specs.Prelude.{ℕ, ◌≤◌, true, false, List, ◌≡◌, length, take, Err, Ok, Result}
use Rattle.grammar.specs.Limits.{large, content_limit}
use Rattle.grammar.specs.Content.{Content}
use Rattle.grammar.specs.ReadContent.{content_bytes}
use Rattle.grammar.specs.Size.{content_too_large}
use Rattle.grammar.specs.declared.TooLarge.{TooLarge}

-- the content's bytes stand at the front of the draft, and it is of a size that a table may hold
pub record Stored (draft : List ℕ) (c : Content) (end : ℕ) : Type 0 where
  pub bytes : take end draft ≡ content_bytes c
  pub fits : content_too_large large c ≡ false
  pub small : end ≤ content_limit
  pub inside : end ≤ length draft

unfoldable pub Made : List ℕ → Content → Result ℕ TooLarge → Type 0
Made draft c (Err over) = content_too_large large c ≡ true
Made draft c (Ok end) = Stored draft c end
