-- Contents with types replaced:
--     replace_twice    replace (replace c f) g ≡ replace c (λ k. replace (f k) g)
--     replace_on       what replaces the types that stand in the content is all that counts
--     replace_self     each type replaced by itself changes nothing
use Prim.Native.Nat.{ℕ}
use mathlib.Core.List.Memᴰ
use mathlib.Core.List.{Memᴰ}
use mathlib.Core.Path.{◌≡◌, refl, ap, ap₂}
use Rattle.grammar.specs.Content.{
  Content,
  none,
  empty,
  type,
  sequence,
  choice,
  any_number,
  one_or_more,
  optional,
  Contents,
  []ᶜ,
  ◌∷ᶜ◌,
  types_in,
  types_in_all,
  replace,
  replace_all,
}

module _ (f g : ℕ → Content) where
  mutual
    unfolding replace

    pub replace_twice : (c : Content) → replace (replace c f) g ≡ replace c (λ k. replace (f k) g)
    replace_twice none = refl
    replace_twice empty = refl
    replace_twice (type k) = refl
    replace_twice (sequence cs) = ap sequence (replace_all_twice cs)
    replace_twice (choice cs) = ap choice (replace_all_twice cs)
    replace_twice (any_number c) = ap any_number (replace_twice c)
    replace_twice (one_or_more c) = ap one_or_more (replace_twice c)
    replace_twice (optional c) = ap optional (replace_twice c)

    replace_all_twice : (cs : Contents) → replace_all (replace_all cs f) g ≡ replace_all cs (λ k. replace (f k) g)
    replace_all_twice []ᶜ = refl
    replace_all_twice (c ∷ᶜ cs) = ap₂ ◌∷ᶜ◌ (replace_twice c) (replace_all_twice cs)

  mutual
    unfolding replace types_in

    pub replace_on : (c : Content) → ((k : ℕ) → Memᴰ k (types_in c) → f k ≡ g k) → replace c f ≡ replace c g
    replace_on none h = refl
    replace_on empty h = refl
    replace_on (type k) h = h k (Memᴰ.head refl)
    replace_on (sequence cs) h = ap sequence (replace_all_on cs h)
    replace_on (choice cs) h = ap choice (replace_all_on cs h)
    replace_on (any_number c) h = ap any_number (replace_on c h)
    replace_on (one_or_more c) h = ap one_or_more (replace_on c h)
    replace_on (optional c) h = ap optional (replace_on c h)

    replace_all_on : (cs : Contents) → ((k : ℕ) → Memᴰ k (types_in_all cs) → f k ≡ g k) → replace_all cs f ≡ replace_all cs g
    replace_all_on []ᶜ h = refl
    replace_all_on (c ∷ᶜ cs) h =
        ap₂ ◌∷ᶜ◌
        (replace_on c (λ k m. h k (Memᴰ.append_left (types_in_all cs) m)))
        (replace_all_on cs (λ k m. h k (Memᴰ.append_right (types_in c) m)))

mutual
  unfolding replace

  pub replace_self : (c : Content) → replace c type ≡ c
  replace_self none = refl
  replace_self empty = refl
  replace_self (type k) = refl
  replace_self (sequence cs) = ap sequence (replace_all_self cs)
  replace_self (choice cs) = ap choice (replace_all_self cs)
  replace_self (any_number c) = ap any_number (replace_self c)
  replace_self (one_or_more c) = ap one_or_more (replace_self c)
  replace_self (optional c) = ap optional (replace_self c)

  replace_all_self : (cs : Contents) → replace_all cs type ≡ cs
  replace_all_self []ᶜ = refl
  replace_all_self (c ∷ᶜ cs) = ap₂ ◌∷ᶜ◌ (replace_self c) (replace_all_self cs)
