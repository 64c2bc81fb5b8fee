-- Contents whose types are in range, and contents with types in place of types:
--   alts_agree       lists that agree on the types in range give the same alternatives
--   nesting_renamed  other types do not change the nesting; union_shallow : the union of two tables that were read nests no deeper
use Prim.Native.Nat.{ℕ, suc, max, ◌≤◌, ◌<◌}
use mathlib.Core.Bool.{true}
use mathlib.Core.List.Memᴰ
use mathlib.Core.List.{List, [], ◌∷◌, map}
use mathlib.Core.Logic.{⊎_elim}
use mathlib.Core.Path.{◌≡◌, refl, sym, ap, ap₂, subst}
use Rattle.grammar.specs.Lists.{joined_of}
use Rattle.grammar.specs.Limits.{Limits, large}
use Rattle.grammar.specs.Names.{Classes}
use Rattle.grammar.specs.Content.{
  Content,
  none,
  empty,
  type,
  sequence,
  choice,
  any_number,
  one_or_more,
  optional,
  Contents,
  []ᶜ,
  ◌∷ᶜ◌,
  nesting,
  deepest,
  replace,
  replace_all,
}
use Rattle.grammar.specs.Table.{Rule, Table}
use Rattle.grammar.specs.ReadContent.{is_proper, are_proper}
use Rattle.grammar.specs.WithinLimits.{TableWithin}
use Rattle.grammar.specs.Unite.{shifted, added, unite}
use Rattle.theory.specs.Alternatives.{alts, alts_of_each, around, in_sequence}
use Rattle.reader.proofs.ExtentLaws.{proper_number, proper_sequence, proper_choice, proper_first}
use Rattle.contents.specs.Joining.{Shallow}

module _ (lim : Limits) (f g : ℕ → List ℕ) (agree : (k : ℕ) → k < lim.types → f k ≡ g k) where
  mutual
    unfolding alts is_proper

    pub alts_agree : (c : Content) → is_proper lim c ≡ true → alts f c ≡ alts g c
    alts_agree none p = refl
    alts_agree empty p = refl
    alts_agree (type k) p = ap (map type) (agree k (proper_number lim k p))
    alts_agree (sequence cs) p = ap in_sequence (each_agree cs (proper_sequence lim cs p).2)
    alts_agree (choice cs) p = ap (joined_of (λ xs. xs)) (each_agree cs (proper_choice lim cs p).2)
    alts_agree (any_number c) p = ap (around any_number (empty ∷ [])) (alts_agree c p)
    alts_agree (one_or_more c) p = ap (around one_or_more []) (alts_agree c p)
    alts_agree (optional c) p = ap (around optional (empty ∷ [])) (alts_agree c p)

    each_agree : (cs : Contents) → are_proper lim cs ≡ true → alts_of_each f cs ≡ alts_of_each g cs
    each_agree []ᶜ p = refl
    each_agree (c ∷ᶜ cs) p =
        let (first, others) = proper_first lim c cs p in
        ap₂ ◌∷◌ (alts_agree c first) (each_agree cs others)

module _ (f : ℕ → ℕ) where
  mutual
    unfolding nesting replace

    pub nesting_renamed : (c : Content) → nesting (replace c (λ k. type (f k))) ≡ nesting c
    nesting_renamed none = refl
    nesting_renamed empty = refl
    nesting_renamed (type k) = refl
    nesting_renamed (sequence cs) = ap suc (deepest_renamed cs)
    nesting_renamed (choice cs) = ap suc (deepest_renamed cs)
    nesting_renamed (any_number c) = ap suc (nesting_renamed c)
    nesting_renamed (one_or_more c) = ap suc (nesting_renamed c)
    nesting_renamed (optional c) = ap suc (nesting_renamed c)

    deepest_renamed : (cs : Contents) → deepest (replace_all cs (λ k. type (f k))) ≡ deepest cs
    deepest_renamed []ᶜ = refl
    deepest_renamed (c ∷ᶜ cs) = ap₂ max (nesting_renamed c) (deepest_renamed cs)

pub union_shallow : (classes : Classes) (g h : Table) → TableWithin large classes g → TableWithin large classes h
    → Shallow (unite large g h)
unfolding unite added large
union_shallow classes g h x y r m =
    ⊎_elim
    (λ n. (x.each_rule r n).content.nests)
    (λ n.
    let o = Memᴰ.of_map (added large g h) h.rules n in
    subst (λ (s : Rule). nesting s.content ≤ 32) o.2
    (subst (λ (d : ℕ). d ≤ 32) (sym (nesting_renamed (shifted large) o.0.content)) (y.each_rule o.0 o.1).content.nests))
    (Memᴰ.append_cases g.rules m)
