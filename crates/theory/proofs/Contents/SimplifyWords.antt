-- Simplifying keeps the words of a content, and leaves none nowhere inside it:
--     is_none_lem           what is_none tells
--     simplify_words    Word (simplify c) w ↔ Word c w
--     prune_words       Word (prune known c) w ↔ Word c w, and every type of w is known
--     prune_some        what is pruned is not none just where the content has a word of known types
--     simplify_clean    simplify c is none, or it is clean
--     clean_word        a clean content has a word
--     clean_standing    every type that stands in a clean content stands in a word of it (all types of a word of a content stand
--                       in the content: word_stands of Standing)
--     prune_standing    every type that stands in a pruned content stands in a word of it, and is known
use Prim.Native.Nat.{ℕ}
use mathlib.Core.Bool.{Bool, true, false, not, false≢true}
use mathlib.Core.List.Memᴰ
use mathlib.Core.List.{
  List,
  [],
  ◌∷◌,
  ◌++◌,
  Memᴰ,
}
use mathlib.Core.Logic.Iff
use mathlib.Core.Logic.{◌↔◌, ◌⊎◌, inl, inr, ⊎_elim}
use mathlib.Core.Path.{◌≡◌, refl, ap, subst}
use borrow.Author.Tests.{not-true}
use Rattle.grammar.specs.Lists.{any_pass, keep, is_in}
use Rattle.grammar.specs.Reduce.{is_none, simplify, simplify_all, prune}
use Rattle.grammar.specs.Content.{
  Content,
  none,
  empty,
  type,
  sequence,
  choice,
  any_number,
  one_or_more,
  optional,
  Contents,
  []ᶜ,
  ◌∷ᶜ◌,
  Language,
  Joined,
  RepeatedWords,
  no_more,
  one_more,
  Word,
  InTurn,
  OfOne,
  operands,
  choice_of,
  replace,
  types_in,
  types_in_all,
}
use Rattle.theory.proofs.Lists.BoolLaws.{or_cases, not_both, false_of}
use Rattle.theory.proofs.Lists.ListLaws.{any_of, kept, keep_mem, in_mem, mem_in, AllIn, all_in_none, all_in_append}
use Rattle.theory.proofs.Contents.WordLaws.{Spells, spells_none, spells_next, replace_words, choice_words, operands_words}
use Rattle.theory.proofs.Contents.SameWords.{SameWords, same_trans, same_joined, same_repeated, same_either}
use Rattle.theory.proofs.Contents.Standing.{StandsIn, WordWith}

pub is_none_lem : (c : Content) → is_none c ≡ true → c ≡ none
unfolding is_none
is_none_lem none e = refl
is_none_lem empty e = absurd (false≢true e)
is_none_lem (type k) e = absurd (false≢true e)
is_none_lem (sequence cs) e = absurd (false≢true e)
is_none_lem (choice cs) e = absurd (false≢true e)
is_none_lem (any_number c) e = absurd (false≢true e)
is_none_lem (one_or_more c) e = absurd (false≢true e)
is_none_lem (optional c) e = absurd (false≢true e)

no_word : (c : Content) (w : List ℕ) → is_none c ≡ true → Word c w → ⊥
no_word c w e v = subst (λ (d : Content). Word d w) (is_none_lem c e) v

none_in_turn : (cs : List Content) (w : List ℕ) → any_pass is_none cs ≡ true → InTurn (operands cs) w → ⊥
unfolding any_pass operands
none_in_turn [] w e v = false≢true e
none_in_turn (c ∷ cs) w e j =
    ⊎_elim
    (λ p. no_word c j.front p j.front_in)
    (λ q. none_in_turn cs j.back q j.back_in)
    (or_cases (is_none c) (any_pass is_none cs) e)

-- the operators, simplified, over operands that are simplified
sequence_words : (cs : List Content) (b : Bool) → any_pass is_none cs ≡ b
    → SameWords (Word (elim b [ true ↦ none | false ↦ sequence (operands cs) ])) (InTurn (operands cs))
sequence_words cs true e w = (λ v. absurd v, λ v. none_in_turn cs w e v)
sequence_words cs false e w = Iff.rfl

some_words : (cs : List Content) → SameWords (Word (choice_of (keep (λ c. not (is_none c)) cs))) (OfOne (operands cs))
some_words cs w = (
  λ v.
      let h = (choice_words (keep (λ c. not (is_none c)) cs) w).0 v in
      (operands_words cs w).1 (h.0, (kept (λ c. not (is_none c)) cs h.1).0, h.2),
  λ v.
      let h = (operands_words cs w).0 v in
      (choice_words (keep (λ c. not (is_none c)) cs) w).1
      (h.0, keep_mem (λ c. not (is_none c)) h.1 (ap not (false_of (is_none h.0) (λ e. no_word h.0 w e h.2))), h.2),
)

any_number_words : (c : Content) (b : Bool) → is_none c ≡ b
    → SameWords (Word (elim b [ true ↦ empty | false ↦ any_number c ])) (RepeatedWords (Word c))
any_number_words c true e w = (λ v. rw v no_more, blank)
  where
    blank : {w : List ℕ} → RepeatedWords (Word c) w → w ≡ []
    blank no_more = refl
    blank (one_more {u = u} v r) = absurd (no_word c u e v)
any_number_words c false e w = Iff.rfl

one_or_more_words : (c : Content) (b : Bool) → is_none c ≡ b
    → SameWords (Word (elim b [ true ↦ none | false ↦ one_or_more c ])) (Joined (Word c) (RepeatedWords (Word c)))
one_or_more_words c true e w = (λ v. absurd v, λ j. no_word c j.front e j.front_in)
one_or_more_words c false e w = Iff.rfl

optional_words : (c : Content) (b : Bool) → is_none c ≡ b
    → SameWords (Word (elim b [ true ↦ empty | false ↦ optional c ])) (λ w. (w ≡ []) ⊎ Word c w)
optional_words c true e w = (λ v. inl v, ⊎_elim (λ v. v) (λ v. absurd (no_word c w e v)))
optional_words c false e w = Iff.rfl

mutual
  unfolding simplify simplify_all operands

  pub simplify_words : (c : Content) → SameWords (Word (simplify c)) (Word c)
  simplify_words none = λ w. Iff.rfl
  simplify_words empty = λ w. Iff.rfl
  simplify_words (type k) = λ w. Iff.rfl
  simplify_words (sequence cs) =
      same_trans (sequence_words (simplify_all cs) (any_pass is_none (simplify_all cs)) refl) (λ w. simplify_in_turn cs w)
  simplify_words (choice cs) = same_trans (some_words (simplify_all cs)) (λ w. simplify_of_one cs w)
  simplify_words (any_number c) =
      same_trans (any_number_words (simplify c) (is_none (simplify c)) refl) (same_repeated (λ w. simplify_words c w))
  simplify_words (one_or_more c) =
      same_trans (one_or_more_words (simplify c) (is_none (simplify c)) refl)
      (same_joined (λ w. simplify_words c w) (same_repeated (λ w. simplify_words c w)))
  simplify_words (optional c) =
      same_trans (optional_words (simplify c) (is_none (simplify c)) refl) (same_either (λ w. Iff.rfl) (λ w. simplify_words c w))

  simplify_in_turn : (cs : Contents) → SameWords (InTurn (operands (simplify_all cs))) (InTurn cs)
  simplify_in_turn []ᶜ = λ w. Iff.rfl
  simplify_in_turn (c ∷ᶜ cs) = same_joined (λ w. simplify_words c w) (λ w. simplify_in_turn cs w)

  simplify_of_one : (cs : Contents) → SameWords (OfOne (operands (simplify_all cs))) (OfOne cs)
  simplify_of_one []ᶜ = λ w. Iff.rfl
  simplify_of_one (c ∷ᶜ cs) = same_either (λ w. simplify_words c w) (λ w. simplify_of_one cs w)

-- known types stand for themselves, the others for nothing
module _ (known : List ℕ) where
  abbrev known_or_none : ℕ → Content
  known_or_none k = elim (is_in k known) [ true ↦ type k | false ↦ none ]

  known_word : (k : ℕ) (w : List ℕ) → Word (known_or_none k) w ↔ ((w ≡ k ∷ []) × Memᴰ k known)
  known_word k w = go (is_in k known) refl
    where
      go : (b : Bool) → is_in k known ≡ b
          → Word (elim b [ true ↦ type k | false ↦ none ]) w ↔ ((w ≡ k ∷ []) × Memᴰ k known)
      go true e = (λ v. (v, in_mem k known e), λ p. p.0)
      go false e = (λ v. absurd v, λ p. absurd (not_both (mem_in p.1) e))

  spelled_known : {u w : List ℕ} → Spells (λ k. Word (known_or_none k)) u w → (w ≡ u) × AllIn known u
  spelled_known spells_none = (refl, all_in_none known)
  spelled_known (spells_next {k = k} {u = u} {v = v} {w = w} p r) =
      let q = (known_word k v).0 p in
      let s = spelled_known r in
      (rw (q.0, s.0) refl, all_in_append known (k ∷ []) u (λ l m. Memᴰ.cast (Memᴰ.eq_of_singleton m) q.1) s.1)

  known_spells : (u : List ℕ) → AllIn known u → Spells (λ k. Word (known_or_none k)) u u
  known_spells [] h = spells_none
  known_spells (k ∷ u) h =
      spells_next ((known_word k (k ∷ [])).1 (refl, h k (Memᴰ.head refl))) (known_spells u (λ l m. h l (Memᴰ.tail m)))

  pub prune_words : (c : Content) (w : List ℕ) → Word (prune known c) w ↔ (Word c w × AllIn known w)
  unfolding prune
  prune_words c w = (
    λ v.
        let s = (replace_words known_or_none c w).0 ((simplify_words (replace c known_or_none) w).0 v) in
        let q = spelled_known s.spelling in
        rw q.0 (s.in_language, q.1),
    λ p.
        (simplify_words (replace c known_or_none) w).1
        ((replace_words known_or_none c w).1 (record { source = w; in_language = p.0; spelling = known_spells w p.1 })),
  )

-- no none inside, and no choice of nothing
mutual
  pub data Clean : Content → Type 0 where
    clean_empty : Clean empty
    clean_type : {k : ℕ} → Clean (type k)
    clean_sequence : {cs : Contents} → AllClean cs → Clean (sequence cs)
    clean_choice : {c : Content} {cs : Contents} → Clean c → AllClean cs → Clean (choice (c ∷ᶜ cs))
    clean_any_number : {c : Content} → Clean c → Clean (any_number c)
    clean_one_or_more : {c : Content} → Clean c → Clean (one_or_more c)
    clean_optional : {c : Content} → Clean c → Clean (optional c)

  pub data AllClean : Contents → Type 0 where
    none_left : AllClean []ᶜ
    one_clean : {c : Content} {cs : Contents} → Clean c → AllClean cs → AllClean (c ∷ᶜ cs)

abbrev pub NoneOrClean : Content → Type 0
NoneOrClean c = (c ≡ none) ⊎ Clean c

cleaned : (c : Content) → NoneOrClean c → is_none c ≡ false → Clean c
unfolding is_none
cleaned c (inl e) f = absurd (not_both (ap is_none e) f)
cleaned c (inr p) f = p

-- the operators, simplified
all_clean : (cs : List Content) → ((c : Content) → Memᴰ c cs → Clean c) → AllClean (operands cs)
unfolding operands
all_clean [] h = none_left
all_clean (c ∷ cs) h = one_clean (h c (Memᴰ.head refl)) (all_clean cs (λ d m. h d (Memᴰ.tail m)))

sequence_clean : (cs : List Content) → ((c : Content) → Memᴰ c cs → NoneOrClean c) → (b : Bool) → any_pass is_none cs ≡ b
    → NoneOrClean (elim b [ true ↦ none | false ↦ sequence (operands cs) ])
sequence_clean cs h true e = inl refl
sequence_clean cs h false e =
    inr
    (clean_sequence
    (all_clean cs (λ c m. cleaned c (h c m) (false_of (is_none c) (λ t. not_both (any_of is_none m t) e)))))

choice_clean : (cs : List Content) → ((c : Content) → Memᴰ c cs → Clean c) → NoneOrClean (choice_of cs)
unfolding choice_of operands
choice_clean [] h = inl refl
choice_clean (c ∷ []) h = inr (h c (Memᴰ.head refl))
choice_clean (c ∷ d ∷ ds) h =
    inr (clean_choice (h c (Memᴰ.head refl)) (all_clean (d ∷ ds) (λ b m. h b (Memᴰ.tail m))))

some_clean : (cs : List Content) → ((c : Content) → Memᴰ c cs → NoneOrClean c)
    → NoneOrClean (choice_of (keep (λ c. not (is_none c)) cs))
some_clean cs h =
    choice_clean (keep (λ c. not (is_none c)) cs)
    (λ c m.
    let k = kept (λ d. not (is_none d)) cs m in
    cleaned c (h c k.0) (not-true (is_none c) k.1))

single_clean : (c wrapped without : Content) → NoneOrClean without → (Clean c → Clean wrapped) → NoneOrClean c → (b : Bool)
    → is_none c ≡ b
    → NoneOrClean (elim b [ true ↦ without | false ↦ wrapped ])
single_clean c wrapped without o h p true e = o
single_clean c wrapped without o h p false e = inr (h (cleaned c p e))

mutual
  unfolding simplify simplify_all

  pub simplify_clean : (c : Content) → NoneOrClean (simplify c)
  simplify_clean none = inl refl
  simplify_clean empty = inr clean_empty
  simplify_clean (type k) = inr clean_type
  simplify_clean (sequence cs) =
      sequence_clean (simplify_all cs) (λ c m. simplify_all_clean cs c m) (any_pass is_none (simplify_all cs)) refl
  simplify_clean (choice cs) = some_clean (simplify_all cs) (λ c m. simplify_all_clean cs c m)
  simplify_clean (any_number c) =
      single_clean (simplify c) (any_number (simplify c)) empty (inr clean_empty) clean_any_number (simplify_clean c)
      (is_none (simplify c))
      refl
  simplify_clean (one_or_more c) =
      single_clean (simplify c) (one_or_more (simplify c)) none (inl refl) clean_one_or_more (simplify_clean c)
      (is_none (simplify c))
      refl
  simplify_clean (optional c) =
      single_clean (simplify c) (optional (simplify c)) empty (inr clean_empty) clean_optional (simplify_clean c)
      (is_none (simplify c))
      refl

  simplify_all_clean : (cs : Contents) (c : Content) → Memᴰ c (simplify_all cs) → NoneOrClean c
  simplify_all_clean []ᶜ c m = elim m [ ]
  simplify_all_clean (d ∷ᶜ cs) c m =
      ⊎_elim (λ e. rw e (simplify_clean d)) (λ n. simplify_all_clean cs c n) (Memᴰ.cases_cons m)

pub prune_clean : (known : List ℕ) (c : Content) → NoneOrClean (prune known c)
unfolding prune
prune_clean known c = simplify_clean (replace c (known_or_none known))

-- a clean content has a word
pub join : (L M : Language) {u v : List ℕ} → L u → M v → Joined L M (u ++ v)
join L M {u} {v} p q = record { front = u; back = v; joined = refl; front_in = p; back_in = q }

abbrev pub SomeWord : Language → Type 0
SomeWord L = (w : List ℕ) × L w

join_some : (L M : Language) → SomeWord L → SomeWord M → SomeWord (Joined L M)
join_some L M p q = (p.0 ++ q.0, join L M p.1 q.1)

mutual
  pub clean_word : {c : Content} → Clean c → SomeWord (Word c)
  clean_word clean_empty = ([], refl)
  clean_word (clean_type {k = k}) = (k ∷ [], refl)
  clean_word (clean_sequence a) = clean_in_turn a
  clean_word (clean_choice p a) = let v = clean_word p in (v.0, inl v.1)
  clean_word (clean_any_number p) = ([], no_more)
  clean_word (clean_one_or_more {c = c} p) = join_some (Word c) (RepeatedWords (Word c)) (clean_word p) ([], no_more)
  clean_word (clean_optional p) = ([], inl refl)

  clean_in_turn : {cs : Contents} → AllClean cs → SomeWord (InTurn cs)
  clean_in_turn none_left = ([], refl)
  clean_in_turn (one_clean {c = c} {cs = cs} p a) = join_some (Word c) (InTurn cs) (clean_word p) (clean_in_turn a)

-- and each of its types stands in one
module _ (k : ℕ) where
  front_with : (L M : Language) → WordWith k L → SomeWord M → WordWith k (Joined L M)
  front_with L M p q = (p.0 ++ q.0, join L M p.1 q.1, Memᴰ.append_left q.0 p.2)

  back_with : (L M : Language) → SomeWord L → WordWith k M → WordWith k (Joined L M)
  back_with L M p q = (p.0 ++ q.0, join L M p.1 q.1, Memᴰ.append_right p.0 q.2)

  stands_in_none : StandsIn k none → ⊥
  unfolding types_in
  stands_in_none m = Memᴰ.not-nil m

  mutual
    unfolding types_in types_in_all

    pub clean_standing : {c : Content} → Clean c → StandsIn k c → WordWith k (Word c)
    clean_standing clean_empty m = elim m [ ]
    clean_standing (clean_type {k = l}) m = (l ∷ [], refl, m)
    clean_standing (clean_sequence a) m = standing_in_turn a m
    clean_standing (clean_choice {c = c} p a) m =
        ⊎_elim
        (λ n. let v = clean_standing p n in (v.0, inl v.1, v.2))
        (λ n. let v = standing_of_one a n in (v.0, inr v.1, v.2))
        (Memᴰ.append_cases (types_in c) m)
    clean_standing (clean_any_number p) m =
        let v = clean_standing p m in
        (v.0 ++ [], one_more v.1 no_more, Memᴰ.append_left [] v.2)
    clean_standing (clean_one_or_more {c = c} p) m =
        front_with (Word c) (RepeatedWords (Word c)) (clean_standing p m) ([], no_more)
    clean_standing (clean_optional p) m = let v = clean_standing p m in (v.0, inr v.1, v.2)

    standing_in_turn : {cs : Contents} → AllClean cs → Memᴰ k (types_in_all cs) → WordWith k (InTurn cs)
    standing_in_turn none_left m = elim m [ ]
    standing_in_turn (one_clean {c = c} {cs = cs} p a) m =
        ⊎_elim
        (λ n. front_with (Word c) (InTurn cs) (clean_standing p n) (clean_in_turn a))
        (λ n. back_with (Word c) (InTurn cs) (clean_word p) (standing_in_turn a n))
        (Memᴰ.append_cases (types_in c) m)

    standing_of_one : {cs : Contents} → AllClean cs → Memᴰ k (types_in_all cs) → WordWith k (OfOne cs)
    standing_of_one none_left m = elim m [ ]
    standing_of_one (one_clean {c = c} p a) m =
        ⊎_elim
        (λ n. let v = clean_standing p n in (v.0, inl v.1, v.2))
        (λ n. let v = standing_of_one a n in (v.0, inr v.1, v.2))
        (Memᴰ.append_cases (types_in c) m)

  pub prune_standing : (known : List ℕ) (c : Content) → StandsIn k (prune known c)
      → WordWith k (Word (prune known c)) × Memᴰ k known
  prune_standing known c m = go (prune_clean known c)
    where
      go : NoneOrClean (prune known c) → WordWith k (Word (prune known c)) × Memᴰ k known
      go (inl e) = absurd (stands_in_none (subst (StandsIn k) e m))
      go (inr p) =
          let v = clean_standing p m in
          (v, ((prune_words known c v.0).0 v.1).1 k v.2)

pub prune_some : (known : List ℕ) (c : Content) → (not (is_none (prune known c)) ≡ true) ↔ ((w : List ℕ) × Word c w × AllIn known w)
prune_some known c = (there, back)
  where
    there : not (is_none (prune known c)) ≡ true → (w : List ℕ) × Word c w × AllIn known w
    there e =
        let v = clean_word (cleaned (prune known c) (prune_clean known c) (not-true (is_none (prune known c)) e)) in
        let p = (prune_words known c v.0).0 v.1 in
        (v.0, p.0, p.1)

    back : (w : List ℕ) × Word c w × AllIn known w → not (is_none (prune known c)) ≡ true
    back p =
        ap not
        (false_of (is_none (prune known c))
        (λ e. subst (λ (d : Content). Word d p.0) (is_none_lem (prune known c) e) ((prune_words known c p.0).1 (p.1, p.2))))
