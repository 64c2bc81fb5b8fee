-- What making a content said, and a rule's bytes in a draft.
use Prim.Native.Nat.{ℕ, suc, ◌-◌, ◌≤◌}
use native.Mathlib.Omega.{arith}
use mathlib.Core.Bool.{Bool, true, false}
use mathlib.Core.List.{List, [], ◌∷◌}
use mathlib.Core.Option.{some as just}
use mathlib.Core.Path.{◌≡◌, ◌∙◌, ap, subst}
use lib.ListN.{set, take}
use Rattle.std.specs.Prelude.{Err, Ok, Result}
use Rattle.grammar.specs.Limits.{large}
use Rattle.grammar.specs.Content.{Content}
use Rattle.grammar.specs.Table.{Rule}
use Rattle.grammar.specs.WriteTable.{rule_bytes}
use Rattle.grammar.specs.Size.{content_too_large}
use Rattle.grammar.specs.declared.TooLarge.{TooLarge}
use Rattle.reader.specs.ExprAt.{◌up_to◌, expr_at}
use Rattle.reader.proofs.ExprLaws.{expr_forward, expr_bytes}
use Rattle.writer.specs.Tables.{RulePuts}
use Rattle.sequences.specs.SampleContents.{rule_end, ContentMade}

pub made_stop : (d : List ℕ) (c : Content) (r : Result ℕ TooLarge) {stop : ℕ} → ContentMade d c r → r ≡ Ok stop
    → (expr_at d 2 ≡ just (c up_to stop)) × (stop ≤ rule_end) × (content_too_large large c ≡ false)
made_stop d c r g e = subst (λ (x : Result ℕ TooLarge). ContentMade d c x) e g

pub drafted_over : (d : List ℕ) (c : Content) (r : Result ℕ TooLarge) → ContentMade d c r → r ≡ Err (record {}) → content_too_large large c ≡ true
drafted_over d c r g e = subst (λ (x : Result ℕ TooLarge). ContentMade d c x) e g

pub drafted_rule : (d : List ℕ) (k l stop : ℕ) (c : Content) (text : Bool) → expr_at d 2 ≡ just (c up_to stop)
    → take (stop - 0) (set (set d 0 k) 1 l) ≡ rule_bytes (record { type = k; label = l; content = c; text = text })
unfolding rule_bytes
drafted_rule [] k l stop c text e = let h = expr_forward [] 2 c stop e in absurd (omega arith)
drafted_rule (x ∷ []) k l stop c text e = let h = expr_forward (x ∷ []) 2 c stop e in absurd (omega arith)
drafted_rule (x ∷ y ∷ rest) k l stop c text e =
    let h = expr_forward (x ∷ y ∷ rest) 2 c stop e in
    let z : stop - 0 ≡ suc (suc (stop - 2)) = omega arith in
    ap (λ (n : ℕ). take n (k ∷ l ∷ rest)) z ∙ ap (λ (b : List ℕ). k ∷ l ∷ b) (expr_bytes (x ∷ y ∷ rest) 2 c stop e)

-- a rule is written with the mark that was found
pub rule_marked : (before after : List ℕ) (at : ℕ) (r : Result ℕ TooLarge) (rule : Rule) (text : Bool) → text ≡ rule.text
    → RulePuts before at (record { type = rule.type; label = rule.label; content = rule.content; text = text }) after r
    → RulePuts before at rule after r
rule_marked before after at r rule text e p =
    subst
    (λ (b : Bool).
    RulePuts before at (record { type = rule.type; label = rule.label; content = rule.content; text = b }) after r)
    e
    p
