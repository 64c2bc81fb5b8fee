-- The types that stand in contents:
--     word_stands                      each type of a word of a content stands in the content
--     choice_types, operands_types     in the choice of some contents stand those of each, joined
--     replace_types                    in a content whose types are replaced, those of what replaces each, joined
--     choice_type, operands_type, replace_type    so one type stands in one of them
--     merge_type                       in the choice of some rules' contents with types replaced by types, those of one, renamed
use Prim.Native.Nat.{ℕ}
use mathlib.Core.List.Memᴰ
use mathlib.Core.List.{
  List,
  [],
  ◌∷◌,
  ◌++◌,
  append-nil,
  map,
  Memᴰ,
}
use mathlib.Core.Logic.{◌↔◌, ⊎_elim}
use mathlib.Core.Path.{◌≡◌, refl, sym, ◌∙◌, ap, subst}
use Rattle.grammar.specs.Lists.{joined_of}
use Rattle.grammar.specs.Table.{Rule}
use Rattle.grammar.specs.Content.{
  Content,
  none,
  empty,
  type,
  sequence,
  choice,
  any_number,
  one_or_more,
  optional,
  Contents,
  []ᶜ,
  ◌∷ᶜ◌,
  Language,
  Joined,
  RepeatedWords,
  no_more,
  one_more,
  Word,
  InTurn,
  OfOne,
  types_in,
  types_in_all,
  operands,
  choice_of,
  replace,
  replace_all,
}
use Rattle.theory.proofs.Lists.ListLaws.{AllIn, all_in_none, all_in_append, joined_from, joined_mem, joined_append}
use Rattle.theory.proofs.Contents.WordLaws.{HoldsOfOne}
use Rattle.theory.proofs.Contents.SameWords.{Within}

-- a type stands in a content
abbrev pub StandsIn : ℕ → Content → Type 0
StandsIn k c = Memᴰ k (types_in c)

-- a word of the language in which the type stands
abbrev pub WordWith : ℕ → Language → Type 0
WordWith k L = (w : List ℕ) × L w × Memᴰ k w

all_in_joined : (ks : List ℕ) {L M : Language} → Within L (AllIn ks) → Within M (AllIn ks) → Within (Joined L M) (AllIn ks)
all_in_joined ks l m w j =
    rw j.joined (all_in_append ks j.front j.back (l j.front j.front_in) (m j.back j.back_in))

all_in_repeated : (ks : List ℕ) {L : Language} → Within L (AllIn ks) → Within (RepeatedWords L) (AllIn ks)
all_in_repeated ks {L} l w r = go r
  where
    go : {w : List ℕ} → RepeatedWords L w → AllIn ks w
    go no_more = all_in_none ks
    go (one_more {u = u} {v = v} p r) = all_in_append ks u v (l u p) (go r)

mutual
  unfolding types_in types_in_all

  pub word_stands : (c : Content) (w : List ℕ) → Word c w → AllIn (types_in c) w
  word_stands none w v = absurd v
  word_stands empty w v = rw v (all_in_none [])
  word_stands (type k) w v = rw v (λ l m. m)
  word_stands (sequence cs) w v = in_turn_stands cs w v
  word_stands (choice cs) w v = of_one_stands cs w v
  word_stands (any_number c) w v = all_in_repeated (types_in c) (λ u p. word_stands c u p) w v
  word_stands (one_or_more c) w v =
      all_in_joined (types_in c) (λ u p. word_stands c u p) (all_in_repeated (types_in c) (λ u p. word_stands c u p)) w v
  word_stands (optional c) w v = ⊎_elim (λ e. rw e (all_in_none (types_in c))) (λ p. word_stands c w p) v

  in_turn_stands : (cs : Contents) (w : List ℕ) → InTurn cs w → AllIn (types_in_all cs) w
  in_turn_stands []ᶜ w v = rw v (all_in_none [])
  in_turn_stands (c ∷ᶜ cs) w v =
      all_in_joined (types_in c ++ types_in_all cs)
      (λ u p k m. Memᴰ.append_left (types_in_all cs) (word_stands c u p k m))
      (λ u p k m. Memᴰ.append_right (types_in c) (in_turn_stands cs u p k m))
      w
      v

  of_one_stands : (cs : Contents) (w : List ℕ) → OfOne cs w → AllIn (types_in_all cs) w
  of_one_stands []ᶜ w v = absurd v
  of_one_stands (c ∷ᶜ cs) w v =
      ⊎_elim
      (λ p k m. Memᴰ.append_left (types_in_all cs) (word_stands c w p k m))
      (λ q k m. Memᴰ.append_right (types_in c) (of_one_stands cs w q k m))
      v

-- of choices
pub operands_types : (cs : List Content) → types_in_all (operands cs) ≡ joined_of types_in cs
unfolding operands joined_of types_in_all
operands_types [] = refl
operands_types (c ∷ cs) = ap (λ (l : List ℕ). types_in c ++ l) (operands_types cs)

pub choice_types : (cs : List Content) → types_in (choice_of cs) ≡ joined_of types_in cs
unfolding choice_of operands joined_of types_in
choice_types [] = refl
choice_types (c ∷ []) = sym (append-nil (types_in c))
choice_types (c ∷ d ∷ ds) = operands_types (c ∷ d ∷ ds)

pub operands_type : (k : ℕ) (cs : List Content) → StandsIn k (choice (operands cs)) ↔ HoldsOfOne (StandsIn k) cs
unfolding types_in
operands_type k cs = (
  λ m. joined_from types_in cs (subst (λ (l : List ℕ). Memᴰ k l) (operands_types cs) m),
  λ h. rw (operands_types cs) (joined_mem types_in h.1 h.2),
)

pub choice_type : (k : ℕ) (cs : List Content) → StandsIn k (choice_of cs) ↔ HoldsOfOne (StandsIn k) cs
choice_type k cs = (
  λ m. joined_from types_in cs (subst (λ (l : List ℕ). Memᴰ k l) (choice_types cs) m),
  λ h. rw (choice_types cs) (joined_mem types_in h.1 h.2),
)

-- of contents with types replaced
module _ (f : ℕ → Content) where
  mutual
    unfolding replace types_in joined_of

    pub replace_types : (c : Content) → types_in (replace c f) ≡ joined_of (λ k. types_in (f k)) (types_in c)
    replace_types none = refl
    replace_types empty = refl
    replace_types (type k) = sym (append-nil (types_in (f k)))
    replace_types (sequence cs) = replace_all_types cs
    replace_types (choice cs) = replace_all_types cs
    replace_types (any_number c) = replace_types c
    replace_types (one_or_more c) = replace_types c
    replace_types (optional c) = replace_types c

    replace_all_types : (cs : Contents) → types_in_all (replace_all cs f) ≡ joined_of (λ k. types_in (f k)) (types_in_all cs)
    replace_all_types []ᶜ = refl
    replace_all_types (c ∷ᶜ cs) =
        ap (λ (zs : List ℕ). zs ++ types_in_all (replace_all cs f)) (replace_types c)
        ∙ ap (λ (zs : List ℕ). joined_of (λ k. types_in (f k)) (types_in c) ++ zs) (replace_all_types cs)
        ∙ sym (joined_append (λ k. types_in (f k)) (types_in c) (types_in_all cs))

  pub replace_type : (k : ℕ) (c : Content) → StandsIn k (replace c f) ↔ ((j : ℕ) × StandsIn j c × StandsIn k (f j))
  replace_type k c = (
    λ m. joined_from (λ j. types_in (f j)) (types_in c) (subst (λ (l : List ℕ). Memᴰ k l) (replace_types c) m),
    λ h. rw (replace_types c) (joined_mem (λ j. types_in (f j)) h.1 h.2),
  )

pub merge_type : (h : ℕ → ℕ) (rs : List Rule) (k : ℕ)
    → StandsIn k (choice_of (map (λ (r : Rule). replace r.content (λ j. type (h j))) rs))
    → (r : Rule) × Memᴰ r rs × (j : ℕ) × StandsIn j r.content × (h j ≡ k)
unfolding types_in
merge_type h rs k m =
    let (c, n, o) = (choice_type k (map renamed rs)).0 m in
    let (r, p, e) = Memᴰ.of_map renamed rs n in
    let (j, q, s) = (replace_type (λ j. type (h j)) k r.content).0 (subst (StandsIn k) (sym e) o) in
    (r, p, j, q, sym (Memᴰ.eq_of_singleton s))
  where
    renamed : Rule → Content
    renamed r = replace r.content (λ j. type (h j))
