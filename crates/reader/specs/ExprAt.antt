-- The expression that stands at a place of some bytes, and the place after it: every walk over the bytes of contents is stated
-- with these.
use Rattle.std.specs.Prelude.{ℕ, zero, suc, ◌-◌, List, length, drop}
use Rattle.std.proofs.Math.Option.{Option, none as nothing, some as just}
use Rattle.grammar.specs.Content.{Content, Contents, []ᶜ, ◌∷ᶜ◌}
use Rattle.grammar.specs.ReadContent.{Parsed, expression_of}

infix 30 ◌up_to◌
-- what stands at a place, and the place after it
pub record Placed (A : Type 0) : Type 0 where
  pub content : A
  pub next : ℕ

abbrev pub ◌up_to◌ : {A : Type 0} → A → ℕ → Placed A
a up_to n = record { content = a; next = n }

abbrev pub placed : {A B : Type 0} → (A → B) → Option (Placed A) → Option (Placed B)
placed f nothing = nothing
placed f (just e) = just (f e.content up_to e.next)

-- what was found at the front of a part that runs to the end
abbrev pub in_front : {A : Type 0} → ℕ → Parsed A → Option (Placed A)
in_front end nothing = nothing
in_front end (just p) = just (p.0 up_to (end - length p.1))

unfoldable pub expr_at : List ℕ → ℕ → Option (Placed Content)
expr_at s at = in_front (length s) (expression_of (drop at s))

-- so many expressions, one after the other
unfoldable pub exprs_at : List ℕ → ℕ → ℕ → Option (Placed Contents)
unfolding expr_at
exprs_at s at zero = just ([]ᶜ up_to at)
exprs_at s at (suc n) =
    elim (expr_at s at) [ nothing ↦ nothing | just e ↦ placed (λ cs. e.content ∷ᶜ cs) (exprs_at s e.next n) ]
