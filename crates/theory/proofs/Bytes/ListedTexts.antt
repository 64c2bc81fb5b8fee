-- The alphabet of the lister's texts: a type is `t` and digits, and no type, name or content has a space.
--     digits_one, digits_more, type_is     a number of one digit, of more; the text of a type
--     decimal_digits                       a number is written in digits
--     Spaceless                            no byte of a text is a space
--     type_spaceless, name_spaceless, content_spaceless
use Prim.Native.Nat.{ℕ, zero, suc, ◌+◌, ◌/◌, ◌%◌, ◌≤◌}
use native.Mathlib.Omega.{arith}
use mathlib.Core.Bool.{Bool, true, false, not}
use mathlib.Core.List.{[], ◌∷◌, ◌++◌}
use mathlib.Core.Logic.{◌⊎◌, inl, inr}
use mathlib.Core.Path.{◌≡◌, refl}
use lib.Dec.{eqb, ltb}
use borrow.Author.Tests.{eq-eqb, ltb-true}
use Rattle.grammar.specs.Ascii.{ascii}
use Rattle.grammar.specs.Lists.{all_pass, is_in}
use Rattle.grammar.specs.Names.{Name, Classes, is_name, never_in_names, Loads}
use Rattle.grammar.specs.Content.{
  Content,
  none,
  empty,
  type,
  sequence,
  choice,
  any_number,
  one_or_more,
  optional,
  Contents,
  []ᶜ,
  ◌∷ᶜ◌,
}
use Rattle.grammar.specs.Listing.{Text, digits_within, decimal, type_text, content_text, separated, continued, text_mark}
use Rattle.grammar.specs.Pages.{space}
use Rattle.theory.proofs.Lists.BoolLaws.{passes_or_fails, not_both}
use Rattle.theory.proofs.Lists.ListLaws.{Each, each_none, each_cons, each_append, each_end, all_at}
use Rattle.theory.proofs.Bytes.ClassLaws.{never_named}

pub digits_one : (n k : ℕ) → ltb k 10 ≡ true → digits_within (suc n) k ≡ (0x30 + k) ∷ []
unfolding digits_within
digits_one n k t = rw (t, digits_within)

pub digits_more : (n k : ℕ) → ltb k 10 ≡ false → digits_within (suc n) k ≡ digits_within n (k / 10) ++ ((0x30 + k % 10) ∷ [])
unfolding digits_within
digits_more n k t = rw (t, digits_within)

pub type_is : (k : ℕ) → type_text k ≡ 0x74 ∷ decimal k
unfolding type_text
type_is k = refl

-- 0 to 9
abbrev pub Digit : ℕ → Type 0
Digit b = (0x30 ≤ b) × (b ≤ 0x39)

digits_within_lem : (n k : ℕ) → Each Digit (digits_within n k)
unfolding digits_within
digits_within_lem zero k = each_none Digit
digits_within_lem (suc n) k = go (passes_or_fails (ltb k 10)) (digits_within_lem n (k / 10))
  where
    go : (ltb k 10 ≡ true) ⊎ (ltb k 10 ≡ false) → Each Digit (digits_within n (k / 10)) → Each Digit (digits_within (suc n) k)
    go (inl t) front =
        let small = ltb-true k 10 t in
        rw (digits_one n k t) (each_cons Digit (0x30 + k) [] (omega arith, omega arith) (each_none Digit))
    go (inr t) front =
        rw (digits_more n k t) (each_end Digit (digits_within n (k / 10)) (0x30 + k % 10) front (omega arith, omega arith))

pub decimal_digits : (k : ℕ) → Each Digit (decimal k)
unfolding decimal
decimal_digits k = digits_within_lem (suc k) k

-- no byte is a space
abbrev pub NoSpace : ℕ → Type 0
NoSpace b = b ≡ space → ⊥

abbrev pub Spaceless : Text → Type 0
Spaceless = Each NoSpace

-- a text given in full
plain : (t : Text) → all_pass (λ b. not (eqb b space)) t ≡ true → Spaceless t
plain t e b m q = not_both (all_at (λ b. not (eqb b space)) e m) (rw (eq-eqb b space q) refl)

pub type_spaceless : (k : ℕ) → Spaceless (type_text k)
type_spaceless k =
    rw (type_is k)
    (each_cons NoSpace 0x74 (decimal k) (λ e. omega arith) (λ b m e. let d = decimal_digits k b m in omega arith))

pub name_spaceless : (classes : Classes) → Loads classes → (n : Name) → is_name classes n ≡ true → Spaceless n
unfolding is_in never_in_names
name_spaceless classes l n e b m q = never_named classes l n e b (rw q refl) m

bracketed : (inside : Text) → Spaceless inside → Spaceless (ascii "(" ++ inside ++ ascii ")")
unfolding ascii
bracketed inside h =
    each_end NoSpace (ascii "(" ++ inside) 0x29 (each_cons NoSpace 0x28 inside (λ e. omega arith) h) (λ e. omega arith)

mutual
  unfolding content_text separated continued ascii all_pass

  pub content_spaceless : (c : Content) → Spaceless (content_text c)
  content_spaceless none = plain (ascii "!") refl
  content_spaceless empty = plain (ascii "()") refl
  content_spaceless (type k) = type_spaceless k
  content_spaceless (sequence cs) = bracketed (separated (ascii ",") cs) (separated_spaceless (ascii ",") cs (plain (ascii ",") refl))
  content_spaceless (choice cs) = bracketed (separated (ascii "|") cs) (separated_spaceless (ascii "|") cs (plain (ascii "|") refl))
  content_spaceless (any_number c) = each_end NoSpace (content_text c) 0x2A (content_spaceless c) (λ e. omega arith)
  content_spaceless (one_or_more c) = each_end NoSpace (content_text c) 0x2B (content_spaceless c) (λ e. omega arith)
  content_spaceless (optional c) = each_end NoSpace (content_text c) 0x3F (content_spaceless c) (λ e. omega arith)

  separated_spaceless : (mark : Text) (cs : Contents) → Spaceless mark → Spaceless (separated mark cs)
  separated_spaceless mark []ᶜ h = each_none NoSpace
  separated_spaceless mark (c ∷ᶜ cs) h =
      each_append NoSpace (content_text c) (continued mark cs) (content_spaceless c) (continued_spaceless mark cs h)

  continued_spaceless : (mark : Text) (cs : Contents) → Spaceless mark → Spaceless (continued mark cs)
  continued_spaceless mark []ᶜ h = each_none NoSpace
  continued_spaceless mark (c ∷ᶜ cs) h =
      each_append NoSpace (mark ++ content_text c) (continued mark cs) (each_append NoSpace mark (content_text c) h (content_spaceless c))
      (continued_spaceless mark cs h)

pub rule_content_spaceless : (c : Content) (text : Bool) → Spaceless (content_text c ++ text_mark text)
unfolding text_mark ascii all_pass
rule_content_spaceless c text = each_append NoSpace (content_text c) (text_mark text) (content_spaceless c) (mark text)
  where
    mark : (text : Bool) → Spaceless (text_mark text)
    mark true = plain (ascii "#") refl
    mark false = each_none NoSpace
