-- The pairs that stand in what reducing leaves of source contents in normal form, left to right, from the source contents alone:
--   met          types_in (prune known (in_pairs_of pairs c)) ≡ pairs_met (pairs_left pairs known) c
--   met_in_pair  of the choice of a pair's contents: those of each, joined
--   met_in_pairs of some pairs: those of all their source contents in order
-- And whether such contents have a word of known pairs:
--   word_met, word_met_in_pair : has_word known (in_pairs_of pairs c) ≡ has_alts (has_left pairs known) c
use Prim.Native.Nat.{ℕ}
use mathlib.Core.Bool.{Bool, true, false, not, ◌&&◌, ◌||◌, not-not}
use mathlib.Core.List.{List, [], ◌∷◌, ◌++◌, map}
use mathlib.Core.Path.{◌≡◌, refl, sym, ◌∙◌, ap, ap₂, fun_ext}
use Rattle.grammar.specs.Lists.{any_pass, keep, joined_of, is_in}
use Rattle.grammar.specs.Content.{
  Content,
  none,
  empty,
  type,
  sequence,
  choice,
  any_number,
  one_or_more,
  optional,
  Contents,
  []ᶜ,
  ◌∷ᶜ◌,
  types_in,
  operands,
  choice_of,
  replace,
  replace_all,
}
use Rattle.grammar.specs.Reduce.{has_word, have_words, one_has_word, is_none, simplify, simplify_all, prune}
use Rattle.theory.specs.Alternatives.{
  only_if,
  has_alts,
  all_have_alts,
  one_has_alts,
  some_left,
  pairs_met,
  pairs_met_all,
  pairs_left,
  has_left,
}
use Rattle.theory.proofs.Lists.ListLaws.{keep_yes, keep_no}
use Rattle.theory.proofs.Emission.AlternativeLaws.{some_pairs, in_pairs_of}
use Rattle.theory.proofs.Emission.ChoiceLaws.{not_none, replace_choice, simplify_choice, word_choice}
use Rattle.theory.proofs.Emission.EmittedContent.{unless, joined_twice, mark_pair, pairs_marked, some_none, pruned_marked}
use Rattle.theory.proofs.Contents.Standing.{operands_types, choice_types}
use Rattle.theory.proofs.Contents.SimplifyWords.{is_none_lem}

-- none has no types: to drop it, or to put another content without types in its place, changes nothing
types_of_none : (c : Content) → is_none c ≡ true → types_in c ≡ []
unfolding types_in
types_of_none c e = rw (is_none_lem c e)

kept_types : (xs : List Content) → joined_of types_in (keep not_none xs) ≡ joined_of types_in xs
unfolding joined_of keep
kept_types [] = refl
kept_types (x ∷ xs) = go (is_none x) refl (kept_types xs)
  where
    go : (b : Bool) → is_none x ≡ b → joined_of types_in (keep not_none xs) ≡ joined_of types_in xs
        → joined_of types_in (keep not_none (x ∷ xs)) ≡ types_in x ++ joined_of types_in xs
    go true e ih =
        ap (joined_of types_in) (keep_no not_none x xs (ap not e))
        ∙ ih
        ∙ ap (λ (l : List ℕ). l ++ joined_of types_in xs) (sym (types_of_none x e))
    go false e ih = ap (joined_of types_in) (keep_yes not_none x xs (ap not e)) ∙ ap (λ (l : List ℕ). types_in x ++ l) ih

types_around : (f : Content → Content) → ((c : Content) → types_in (f c) ≡ types_in c) → (other : Content) → types_in other ≡ []
    → (x : Content) → types_in (unless (is_none x) other (f x)) ≡ types_in x
types_around f h other o x = go (is_none x) refl
  where
    go : (b : Bool) → is_none x ≡ b → types_in (unless b other (f x)) ≡ types_in x
    go true e = o ∙ sym (types_of_none x e)
    go false e = h x

types_sequence : (xs : List Content)
    → types_in (unless (any_pass is_none xs) none (sequence (operands xs)))
    ≡ only_if (not (any_pass is_none xs)) (joined_of types_in xs)
unfolding only_if types_in
types_sequence xs = go (any_pass is_none xs)
  where
    go : (b : Bool) → types_in (unless b none (sequence (operands xs))) ≡ only_if (not b) (joined_of types_in xs)
    go true = refl
    go false = operands_types xs

types_choice : (xs : List Content) → types_in (choice_of (keep not_none xs)) ≡ joined_of types_in xs
types_choice xs = choice_types (keep not_none xs) ∙ kept_types xs

module _ (pairs : ℕ → List ℕ) (known : List ℕ) where
  abbrev left : ℕ → List ℕ
  left = pairs_left pairs known

  abbrev mark : ℕ → Content
  mark = mark_pair known

  abbrev marked : ℕ → Content
  marked = pairs_marked pairs known

  each_pair : (ps : List ℕ)
      → joined_of types_in (map simplify (map (λ c. replace c mark) (map type ps))) ≡ keep (λ p. is_in p known) ps
  unfolding joined_of types_in simplify replace keep
  each_pair [] = refl
  each_pair (p ∷ ps) = go (is_in p known) (each_pair ps)
    where
      go : (b : Bool) → joined_of types_in (map simplify (map (λ c. replace c mark) (map type ps))) ≡ keep (λ q. is_in q known) ps
          → types_in (simplify (elim b as (λ b. Content) [ true ↦ type p | false ↦ none ]))
          ++ joined_of types_in (map simplify (map (λ c. replace c mark) (map type ps)))
          ≡ (elim b as (λ b. List ℕ) [ true ↦ p ∷ keep (λ q. is_in q known) ps | false ↦ keep (λ q. is_in q known) ps ])
      go true ih = ap (λ (l : List ℕ). p ∷ l) ih
      go false ih = ih

  pairs_of_type : (ps : List ℕ) → types_in (simplify (replace (choice_of (map type ps)) mark)) ≡ keep (λ p. is_in p known) ps
  pairs_of_type ps =
      ap types_in (ap simplify (replace_choice mark (map type ps)) ∙ simplify_choice (map (λ c. replace c mark) (map type ps)))
      ∙ types_choice (map simplify (map (λ c. replace c mark) (map type ps)))
      ∙ each_pair ps

  all_have : (cs : Contents) → not (any_pass is_none (simplify_all (replace_all cs marked))) ≡ all_have_alts (some_left left) cs
  all_have cs =
      ap not (some_none pairs known (λ p. p) cs)
      ∙ not-not (all_have_alts (has_left pairs known) cs)
      ∙ ap (λ has. all_have_alts has cs) (sym (some_pairs pairs known))

  mutual
    unfolding types_in simplify replace pairs_met joined_of

    marked_met : (c : Content) → types_in (simplify (replace c marked)) ≡ pairs_met left c
    marked_met none = refl
    marked_met empty = refl
    marked_met (type k) = pairs_of_type (pairs k)
    marked_met (sequence cs) =
        types_sequence (simplify_all (replace_all cs marked)) ∙ ap₂ only_if (all_have cs) (all_marked_met cs)
    marked_met (choice cs) = types_choice (simplify_all (replace_all cs marked)) ∙ all_marked_met cs
    marked_met (any_number c) = types_around any_number (λ d. refl) empty refl (simplify (replace c marked)) ∙ marked_met c
    marked_met (one_or_more c) = types_around one_or_more (λ d. refl) none refl (simplify (replace c marked)) ∙ marked_met c
    marked_met (optional c) = types_around optional (λ d. refl) empty refl (simplify (replace c marked)) ∙ marked_met c

    all_marked_met : (cs : Contents) → joined_of types_in (simplify_all (replace_all cs marked)) ≡ pairs_met_all left cs
    all_marked_met []ᶜ = refl
    all_marked_met (c ∷ᶜ cs) = ap₂ ◌++◌ (marked_met c) (all_marked_met cs)

  pub met : (c : Content) → types_in (prune known (in_pairs_of pairs c)) ≡ pairs_met (pairs_left pairs known) c
  met c = ap types_in (pruned_marked pairs known c) ∙ marked_met c

  each_met : (cs : List Content)
      → joined_of types_in (map simplify (map (λ c. replace c mark) (map (in_pairs_of pairs) cs))) ≡ joined_of (pairs_met left) cs
  unfolding joined_of prune
  each_met [] = refl
  each_met (c ∷ cs) = ap₂ ◌++◌ (met c) (each_met cs)

  pub met_in_pair : (cs : List Content)
      → types_in (prune known (choice_of (map (in_pairs_of pairs) cs))) ≡ joined_of (pairs_met (pairs_left pairs known)) cs
  unfolding prune
  met_in_pair cs =
      let ds : List Content = map (in_pairs_of pairs) cs in
      ap types_in (ap simplify (replace_choice mark ds) ∙ simplify_choice (map (λ c. replace c mark) ds))
      ∙ types_choice (map simplify (map (λ c. replace c mark) ds))
      ∙ each_met cs

  pub met_in_pairs : {A : Type 0} (contents : A → List Content) (ps : List A)
      → joined_of (λ p. types_in (prune known (choice_of (map (in_pairs_of pairs) (contents p))))) ps
      ≡ joined_of (pairs_met (pairs_left pairs known)) (joined_of contents ps)
  met_in_pairs contents ps =
      ap (λ f. joined_of f ps) (fun_ext (λ p. met_in_pair (contents p))) ∙ sym (joined_twice (pairs_met left) contents ps)

  -- words of known pairs
  word_of_types : (ps : List ℕ) → any_pass (has_word known) (map type ps) ≡ any_pass (λ p. is_in p known) ps
  unfolding any_pass has_word
  word_of_types [] = refl
  word_of_types (p ∷ ps) = ap (λ (b : Bool). is_in p known || b) (word_of_types ps)

  mutual
    unfolding has_word has_alts replace

    pub word_met : (c : Content) → has_word known (in_pairs_of pairs c) ≡ has_alts (has_left pairs known) c
    word_met none = refl
    word_met empty = refl
    word_met (type k) = word_choice known (map type (pairs k)) ∙ word_of_types (pairs k)
    word_met (sequence cs) = all_words_met cs
    word_met (choice cs) = one_word_met cs
    word_met (any_number c) = refl
    word_met (one_or_more c) = word_met c
    word_met (optional c) = refl

    all_words_met : (cs : Contents)
        → have_words known (replace_all cs (λ k. choice_of (map type (pairs k)))) ≡ all_have_alts (has_left pairs known) cs
    all_words_met []ᶜ = refl
    all_words_met (c ∷ᶜ cs) = ap₂ ◌&&◌ (word_met c) (all_words_met cs)

    one_word_met : (cs : Contents)
        → one_has_word known (replace_all cs (λ k. choice_of (map type (pairs k)))) ≡ one_has_alts (has_left pairs known) cs
    one_word_met []ᶜ = refl
    one_word_met (c ∷ᶜ cs) = ap₂ ◌||◌ (word_met c) (one_word_met cs)

  each_word_met : (cs : List Content) → any_pass (has_word known) (map (in_pairs_of pairs) cs) ≡ any_pass (has_alts (has_left pairs known)) cs
  unfolding any_pass
  each_word_met [] = refl
  each_word_met (c ∷ cs) = ap₂ ◌||◌ (word_met c) (each_word_met cs)

  pub word_met_in_pair : (cs : List Content)
      → has_word known (choice_of (map (in_pairs_of pairs) cs)) ≡ any_pass (has_alts (has_left pairs known)) cs
  word_met_in_pair cs = word_choice known (map (in_pairs_of pairs) cs) ∙ each_word_met cs
