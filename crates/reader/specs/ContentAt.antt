-- A proper content, as it stands in the bytes of a table that was read.
use Rattle.std.specs.Prelude.{ℕ, ◌≤◌, true, List, ◌≡◌, length}
use Rattle.std.proofs.Math.Option.{some as just}
use Rattle.grammar.specs.Limits.{Limits}
use Rattle.grammar.specs.Content.{Content, Contents}
use Rattle.grammar.specs.ReadContent.{is_proper, are_proper}
use Rattle.reader.specs.ExprAt.{◌up_to◌, expr_at, exprs_at}

pub record ContentAt (lim : Limits) (s : List ℕ) (at : ℕ) : Type 0 where
  pub content : Content
  pub next : ℕ
  pub stands : expr_at s at ≡ just (content up_to next)
  pub proper : is_proper lim content ≡ true

-- so many, one after the other
pub record ContentsAt (lim : Limits) (s : List ℕ) (at n : ℕ) : Type 0 where
  pub contents : Contents
  pub next : ℕ
  pub inside : at ≤ length s
  pub stand : exprs_at s at n ≡ just (contents up_to next)
  pub proper : are_proper lim contents ≡ true
