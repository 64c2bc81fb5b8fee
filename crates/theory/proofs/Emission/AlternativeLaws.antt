-- Laws of the alternatives that a content of a source table gives to a content of the result (Alternatives of specs/):
--   alts_empty : is_empty (alts results c) ≡ not (has_alts (λ k. not (is_empty (results k))) c)
--   alts_plain : an alternative is no choice, and it is not none
--   productive : is_empty (alts (results_of pairs known target) c) ≡ not (has_alts (has_left pairs known) c)
--   word_alts  : has_word known c ≡ has_alts (λ k. is_in k known) c; so productive_word, of the list of types with a fruitful pair
--   alts_renamed, has_renamed, pairs_renamed : of a content with types in place of types (as the addition's are made distinct)
use Prim.Native.Nat.{ℕ}
use mathlib.Core.Bool.{Bool, true, false, not, ◌&&◌, ◌||◌, not-not, true≢false, false≢true}
use mathlib.Core.List.Memᴰ
use mathlib.Core.List.{List, [], ◌∷◌, ◌++◌, map, Memᴰ}
use mathlib.Core.Logic.{⊎_elim}
use mathlib.Core.Path.{◌≡◌, refl, sym, ◌∙◌, ap, ap₂, subst, fun_ext}
use Rattle.grammar.specs.Lists.{any_pass, keep, joined_of, is_in}
use Rattle.grammar.specs.Content.{
  Content,
  none,
  empty,
  type,
  sequence,
  choice,
  any_number,
  one_or_more,
  optional,
  Contents,
  []ᶜ,
  ◌∷ᶜ◌,
  operands,
  choice_of,
  replace,
  replace_all,
}
use Rattle.grammar.specs.ReadTable.{is_empty}
use Rattle.grammar.specs.Reduce.{has_word, have_words, one_has_word, is_none}
use Rattle.grammar.specs.Tidy.{alternatives}
use Rattle.theory.specs.Alternatives.{
  one_content,
  around,
  in_sequence,
  alts,
  alts_of_each,
  has_alts,
  all_have_alts,
  one_has_alts,
  only_if,
  some_left,
  pairs_left,
  has_left,
  results_of,
  pairs_met,
  pairs_met_all,
}
use Rattle.theory.proofs.Lists.ListLaws.{joined_from}

-- Over any pairs of a source type, any known (fruitful) pairs and any result type of a pair: a content with the choice of its
-- pairs for each source type, and a content with a result type for each pair
abbrev pub in_pairs_of : (ℕ → List ℕ) → Content → Content
in_pairs_of pairs c = replace c (λ k. choice_of (map type (pairs k)))

abbrev pub retyped : (ℕ → ℕ) → Content → Content
retyped target c = replace c (λ p. type (target p))

-- which have alternatives
around_some : (f : Content → Content) (x : Content) (others xs : List Content) → is_empty (around f (x ∷ others) xs) ≡ false
unfolding around
around_some f x others [] = refl
around_some f x others (y ∷ ys) = refl

around_nothing : (f : Content → Content) (xs : List Content) → is_empty (around f [] xs) ≡ is_empty xs
unfolding around
around_nothing f [] = refl
around_nothing f (x ∷ xs) = refl

pub sequence_none : (xss : List (List Content)) → any_pass is_empty xss ≡ true → in_sequence xss ≡ []
unfolding in_sequence
sequence_none xss e = rw (e, in_sequence)

pub sequence_some : (xss : List (List Content)) → any_pass is_empty xss ≡ false
    → in_sequence xss ≡ sequence (operands (map one_content xss)) ∷ []
unfolding in_sequence
sequence_some xss e = rw (e, in_sequence)

sequence_empty : (xss : List (List Content)) → is_empty (in_sequence xss) ≡ any_pass is_empty xss
sequence_empty xss = go (any_pass is_empty xss) refl
  where
    go : (b : Bool) → any_pass is_empty xss ≡ b → is_empty (in_sequence xss) ≡ b
    go true e = ap is_empty (sequence_none xss e)
    go false e = ap is_empty (sequence_some xss e)

append_empty : {A : Type 0} (xs ys : List A) → is_empty (xs ++ ys) ≡ (is_empty xs && is_empty ys)
append_empty [] ys = refl
append_empty (x ∷ xs) ys = refl

map_empty : {A B : Type 0} (f : A → B) (xs : List A) → is_empty (map f xs) ≡ is_empty xs
map_empty f [] = refl
map_empty f (x ∷ xs) = refl

not-and : (a b : Bool) → not (a && b) ≡ (not a || not b)
not-and true b = refl
not-and false b = refl

not-or : (a b : Bool) → not (a || b) ≡ (not a && not b)
not-or true b = refl
not-or false b = refl

module _ (results : ℕ → List ℕ) where
  mutual
    unfolding alts has_alts some_left

    pub alts_empty : (c : Content) → is_empty (alts results c) ≡ not (has_alts (some_left results) c)
    alts_empty none = refl
    alts_empty empty = refl
    alts_empty (type k) = map_empty type (results k) ∙ sym (not-not (is_empty (results k)))
    alts_empty (sequence cs) = sequence_empty (alts_of_each results cs) ∙ one_empty cs
    alts_empty (choice cs) = all_empty cs
    alts_empty (any_number c) = around_some any_number empty [] (alts results c)
    alts_empty (one_or_more c) = around_nothing one_or_more (alts results c) ∙ alts_empty c
    alts_empty (optional c) = around_some optional empty [] (alts results c)

    pub one_empty : (cs : Contents) → any_pass is_empty (alts_of_each results cs) ≡ not (all_have_alts (some_left results) cs)
    one_empty []ᶜ = refl
    one_empty (c ∷ᶜ cs) =
        ap₂ ◌||◌ (alts_empty c) (one_empty cs)
        ∙ sym (not-and (has_alts (some_left results) c) (all_have_alts (some_left results) cs))

    pub all_empty : (cs : Contents)
        → is_empty (joined_of (λ xs. xs) (alts_of_each results cs)) ≡ not (one_has_alts (some_left results) cs)
    all_empty []ᶜ = refl
    all_empty (c ∷ᶜ cs) =
        append_empty (alts results c) (joined_of (λ xs. xs) (alts_of_each results cs))
        ∙ ap₂ ◌&&◌ (alts_empty c) (all_empty cs)
        ∙ sym (not-or (has_alts (some_left results) c) (one_has_alts (some_left results) cs))

  pub all_alts_empty : (cs : List Content) → is_empty (joined_of (alts results) cs) ≡ not (any_pass (has_alts (some_left results)) cs)
  unfolding joined_of any_pass
  all_alts_empty [] = refl
  all_alts_empty (c ∷ cs) =
      append_empty (alts results c) (joined_of (alts results) cs)
      ∙ ap₂ ◌&&◌ (alts_empty c) (all_alts_empty cs)
      ∙ sym (not-or (has_alts (some_left results) c) (any_pass (has_alts (some_left results)) cs))

-- what a walk writes once it has asked whether there are alternatives
around_full : (f : Content → Content) (others xs : List Content) → is_empty xs ≡ false → around f others xs ≡ f (one_content xs) ∷ []
unfolding around
around_full f others [] e = absurd (true≢false e)
around_full f others (x ∷ xs) e = refl

around_blank : (f : Content → Content) (others xs : List Content) → is_empty xs ≡ true → around f others xs ≡ others
unfolding around
around_blank f others [] e = refl
around_blank f others (x ∷ xs) e = absurd (false≢true e)

module _ (results : ℕ → List ℕ) where
  module _ (f : Content → Content) (others : List Content) (c : Content) where
    pub around_has : has_alts (some_left results) c ≡ true → around f others (alts results c) ≡ f (one_content (alts results c)) ∷ []
    around_has e = around_full f others (alts results c) (alts_empty results c ∙ ap not e)

    pub around_has_not : has_alts (some_left results) c ≡ false → around f others (alts results c) ≡ others
    around_has_not e = around_blank f others (alts results c) (alts_empty results c ∙ ap not e)

  pub sequence_has : (cs : Contents) → all_have_alts (some_left results) cs ≡ true
      → alts results (sequence cs) ≡ sequence (operands (map one_content (alts_of_each results cs))) ∷ []
  unfolding alts
  sequence_has cs e = sequence_some (alts_of_each results cs) (one_empty results cs ∙ ap not e)

  pub sequence_has_not : (cs : Contents) → all_have_alts (some_left results) cs ≡ false → alts results (sequence cs) ≡ []
  unfolding alts
  sequence_has_not cs e = sequence_none (alts_of_each results cs) (one_empty results cs ∙ ap not e)

keep_some : {A : Type 0} (test : A → Bool) (xs : List A) → not (is_empty (keep test xs)) ≡ any_pass test xs
unfolding keep any_pass
keep_some test [] = refl
keep_some {A} test (x ∷ xs) = go (test x) (keep_some test xs)
  where
    go : (b : Bool) → not (is_empty (keep test xs)) ≡ any_pass test xs
        → not (is_empty {A = A} (elim b as (λ y. List A) [ true ↦ x ∷ keep test xs | false ↦ keep test xs ])) ≡ (b || any_pass test xs)
    go true ih = refl
    go false ih = ih

module _ (pairs : ℕ → List ℕ) (known : List ℕ) where
  pub some_pairs : some_left (pairs_left pairs known) ≡ has_left pairs known
  unfolding some_left
  some_pairs = fun_ext (λ k. keep_some (λ p. is_in p known) (pairs k))

  pub some_results : (target : ℕ → ℕ) → some_left (results_of pairs known target) ≡ has_left pairs known
  unfolding some_left
  some_results target =
      fun_ext (λ k. ap not (map_empty target (pairs_left pairs known k)) ∙ keep_some (λ p. is_in p known) (pairs k))

  pub productive : (target : ℕ → ℕ) (c : Content)
      → is_empty (alts (results_of pairs known target) c) ≡ not (has_alts (has_left pairs known) c)
  productive target c = alts_empty (results_of pairs known target) c ∙ ap (λ has. not (has_alts has c)) (some_results target)

  pub all_productive : (target : ℕ → ℕ) (cs : List Content)
      → is_empty (joined_of (alts (results_of pairs known target)) cs) ≡ not (any_pass (has_alts (has_left pairs known)) cs)
  all_productive target cs =
      all_alts_empty (results_of pairs known target) cs ∙ ap (λ has. not (any_pass (has_alts has) cs)) (some_results target)

-- to have alternatives is to have a word of the types that give some
module _ (known : List ℕ) where
  mutual
    unfolding has_word has_alts

    pub word_alts : (c : Content) → has_word known c ≡ has_alts (λ k. is_in k known) c
    word_alts none = refl
    word_alts empty = refl
    word_alts (type k) = refl
    word_alts (sequence cs) = all_words_alts cs
    word_alts (choice cs) = one_word_alts cs
    word_alts (any_number c) = refl
    word_alts (one_or_more c) = word_alts c
    word_alts (optional c) = refl

    all_words_alts : (cs : Contents) → have_words known cs ≡ all_have_alts (λ k. is_in k known) cs
    all_words_alts []ᶜ = refl
    all_words_alts (c ∷ᶜ cs) = ap₂ ◌&&◌ (word_alts c) (all_words_alts cs)

    one_word_alts : (cs : Contents) → one_has_word known cs ≡ one_has_alts (λ k. is_in k known) cs
    one_word_alts []ᶜ = refl
    one_word_alts (c ∷ᶜ cs) = ap₂ ◌||◌ (word_alts c) (one_word_alts cs)

-- so there are none just where the content has no word of the source types that have a fruitful pair
pub productive_word : (pairs : ℕ → List ℕ) (known : List ℕ) (target : ℕ → ℕ) (types : List ℕ)
    → ((k : ℕ) → has_left pairs known k ≡ is_in k types) → (c : Content)
    → is_empty (alts (results_of pairs known target) c) ≡ not (has_word types c)
productive_word pairs known target types h c =
    productive pairs known target c ∙ ap (λ has. not (has_alts has c)) (fun_ext h) ∙ ap not (sym (word_alts types c))

-- an alternative is what it gives to a choice, and is not none
pub record Plain (x : Content) : Type 0 where
  pub alone : alternatives x ≡ x ∷ []
  pub some : is_none x ≡ false

abbrev pub AllPlain : List Content → Type 0
AllPlain xs = (x : Content) → Memᴰ x xs → Plain x

pub plain_one : {x : Content} → Plain x → AllPlain (x ∷ [])
plain_one p y m = subst (λ (z : Content). Plain z) (sym (Memᴰ.eq_of_singleton m)) p

pub plain_nothing : AllPlain []
plain_nothing x m = elim m [ ]

plain_empty : Plain empty
unfolding alternatives is_none
plain_empty = record { alone = refl; some = refl }

plain_type : (k : ℕ) → Plain (type k)
unfolding alternatives is_none
plain_type k = record { alone = refl; some = refl }

plain_types : (ks : List ℕ) → AllPlain (map type ks)
plain_types [] x m = elim m [ ]
plain_types (k ∷ ks) x m =
    ⊎_elim (λ e. subst (λ (z : Content). Plain z) (sym e) (plain_type k)) (plain_types ks x) (Memᴰ.cases_cons m)

plain_sequence : (cs : Contents) → Plain (sequence cs)
unfolding alternatives is_none
plain_sequence cs = record { alone = refl; some = refl }

plain_any_number : (c : Content) → Plain (any_number c)
unfolding alternatives is_none
plain_any_number c = record { alone = refl; some = refl }

plain_one_or_more : (c : Content) → Plain (one_or_more c)
unfolding alternatives is_none
plain_one_or_more c = record { alone = refl; some = refl }

plain_optional : (c : Content) → Plain (optional c)
unfolding alternatives is_none
plain_optional c = record { alone = refl; some = refl }

plain_around : (f : Content → Content) → ((c : Content) → Plain (f c)) → (others : List Content) → AllPlain others
    → (xs : List Content) → AllPlain (around f others xs)
unfolding around
plain_around f p others q [] = q
plain_around f p others q (x ∷ xs) = plain_one (p (one_content (x ∷ xs)))

plain_in_sequence : (xss : List (List Content)) → AllPlain (in_sequence xss)
plain_in_sequence xss = go (any_pass is_empty xss) refl
  where
    go : (b : Bool) → any_pass is_empty xss ≡ b → AllPlain (in_sequence xss)
    go true e = rw (sequence_none xss e) plain_nothing
    go false e = rw (sequence_some xss e) (plain_one (plain_sequence (operands (map one_content xss))))

module _ (results : ℕ → List ℕ) where
  mutual
    unfolding alts

    pub alts_plain : (c : Content) → AllPlain (alts results c)
    alts_plain none = plain_nothing
    alts_plain empty = plain_one plain_empty
    alts_plain (type k) = plain_types (results k)
    alts_plain (sequence cs) = plain_in_sequence (alts_of_each results cs)
    alts_plain (choice cs) =
        λ x m.
        let r = joined_from (λ xs. xs) (alts_of_each results cs) m in
        each_plain cs r.0 r.1 x r.2
    alts_plain (any_number c) = plain_around any_number plain_any_number (empty ∷ []) (plain_one plain_empty) (alts results c)
    alts_plain (one_or_more c) = plain_around one_or_more plain_one_or_more [] plain_nothing (alts results c)
    alts_plain (optional c) = plain_around optional plain_optional (empty ∷ []) (plain_one plain_empty) (alts results c)

    pub each_plain : (cs : Contents) (xs : List Content) → Memᴰ xs (alts_of_each results cs) → AllPlain xs
    each_plain []ᶜ xs m = elim m [ ]
    each_plain (c ∷ᶜ cs) xs m =
        ⊎_elim
        (λ e. subst (λ (l : List Content). AllPlain l) (sym e) (λ x n. alts_plain c x n))
        (λ n. each_plain cs xs n)
        (Memᴰ.cases_cons m)

-- types in place of types
module _ (f : ℕ → ℕ) (results : ℕ → List ℕ) where
  mutual
    unfolding alts replace

    pub alts_renamed : (c : Content) → alts results (replace c (λ k. type (f k))) ≡ alts (λ k. results (f k)) c
    alts_renamed none = refl
    alts_renamed empty = refl
    alts_renamed (type k) = refl
    alts_renamed (sequence cs) = ap in_sequence (each_renamed cs)
    alts_renamed (choice cs) = ap (joined_of (λ xs. xs)) (each_renamed cs)
    alts_renamed (any_number c) = ap (around any_number (empty ∷ [])) (alts_renamed c)
    alts_renamed (one_or_more c) = ap (around one_or_more []) (alts_renamed c)
    alts_renamed (optional c) = ap (around optional (empty ∷ [])) (alts_renamed c)

    each_renamed : (cs : Contents) → alts_of_each results (replace_all cs (λ k. type (f k))) ≡ alts_of_each (λ k. results (f k)) cs
    each_renamed []ᶜ = refl
    each_renamed (c ∷ᶜ cs) = ap₂ ◌∷◌ (alts_renamed c) (each_renamed cs)

module _ (f : ℕ → ℕ) (has : ℕ → Bool) where
  mutual
    unfolding has_alts replace

    pub has_renamed : (c : Content) → has_alts has (replace c (λ k. type (f k))) ≡ has_alts (λ k. has (f k)) c
    has_renamed none = refl
    has_renamed empty = refl
    has_renamed (type k) = refl
    has_renamed (sequence cs) = all_have_renamed cs
    has_renamed (choice cs) = one_has_renamed cs
    has_renamed (any_number c) = refl
    has_renamed (one_or_more c) = has_renamed c
    has_renamed (optional c) = refl

    all_have_renamed : (cs : Contents) → all_have_alts has (replace_all cs (λ k. type (f k))) ≡ all_have_alts (λ k. has (f k)) cs
    all_have_renamed []ᶜ = refl
    all_have_renamed (c ∷ᶜ cs) = ap₂ ◌&&◌ (has_renamed c) (all_have_renamed cs)

    one_has_renamed : (cs : Contents) → one_has_alts has (replace_all cs (λ k. type (f k))) ≡ one_has_alts (λ k. has (f k)) cs
    one_has_renamed []ᶜ = refl
    one_has_renamed (c ∷ᶜ cs) = ap₂ ◌||◌ (has_renamed c) (one_has_renamed cs)

module _ (f : ℕ → ℕ) (left : ℕ → List ℕ) where
  mutual
    unfolding pairs_met replace

    pub pairs_renamed : (c : Content) → pairs_met left (replace c (λ k. type (f k))) ≡ pairs_met (λ k. left (f k)) c
    pairs_renamed none = refl
    pairs_renamed empty = refl
    pairs_renamed (type k) = refl
    pairs_renamed (sequence cs) = ap₂ only_if (all_have_renamed f (some_left left) cs) (all_pairs_renamed cs)
    pairs_renamed (choice cs) = all_pairs_renamed cs
    pairs_renamed (any_number c) = pairs_renamed c
    pairs_renamed (one_or_more c) = pairs_renamed c
    pairs_renamed (optional c) = pairs_renamed c

    all_pairs_renamed : (cs : Contents) → pairs_met_all left (replace_all cs (λ k. type (f k))) ≡ pairs_met_all (λ k. left (f k)) cs
    all_pairs_renamed []ᶜ = refl
    all_pairs_renamed (c ∷ᶜ cs) = ap₂ ◌++◌ (pairs_renamed c) (all_pairs_renamed cs)
