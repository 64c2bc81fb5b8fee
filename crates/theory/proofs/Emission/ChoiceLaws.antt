-- What is done to the choice of some contents, however many they are, is done to each of them:
--   replace_choice   replace (choice_of xs) f ≡ choice_of (map (λ c. replace c f) xs)
--   simplify_choice  simplify (choice_of xs) ≡ choice_of (keep not_none (map simplify xs))
--   word_choice      has_word known (choice_of xs) ≡ any (has_word known) xs
--   tidy_choice      tidy (choice_of xs) ≡ written (joined_of alternatives (map tidy xs))
use Prim.Native.Nat.{ℕ}
use mathlib.Core.Bool.{Bool, true, false, not, ◌||◌, or-false as or_nothing}
use mathlib.Core.List.Memᴰ
use mathlib.Core.List.{
  List,
  [],
  ◌∷◌,
  ◌++◌,
  append-nil,
  map,
  Memᴰ,
}
use mathlib.Core.Logic.{⊎_elim}
use mathlib.Core.Path.{◌≡◌, refl, sym, ◌∙◌, ap, subst}
use Rattle.grammar.specs.Lists.{any_pass, keep, distinct, joined_of}
use Rattle.grammar.specs.Content.{
  Content,
  none,
  empty,
  type,
  sequence,
  choice,
  any_number,
  one_or_more,
  optional,
  Contents,
  []ᶜ,
  ◌∷ᶜ◌,
  operands,
  choice_of,
  replace,
  replace_all,
}
use Rattle.grammar.specs.ReadContent.{same_content}
use Rattle.grammar.specs.Reduce.{has_word, one_has_word, is_none, simplify, simplify_all}
use Rattle.grammar.specs.Tidy.{list_of, alternatives, tidy, tidy_all}
use Rattle.theory.specs.Alternatives.{one_content}
use Rattle.theory.proofs.Lists.ListLaws.{keep_yes, keep_no, distinct_was}
use Rattle.theory.proofs.Contents.ContentBytes.{same_content_lem}
use Rattle.theory.proofs.Lists.DistinctLaws.{distinct_again}
use Rattle.theory.proofs.Contents.SimplifyWords.{is_none_lem}

abbrev pub not_none : Content → Bool
not_none c = not (is_none c)

-- replacing
module _ (f : ℕ → Content) where
  replace_operands : (xs : List Content) → replace_all (operands xs) f ≡ operands (map (λ c. replace c f) xs)
  unfolding operands replace
  replace_operands [] = refl
  replace_operands (x ∷ xs) = ap (λ (l : Contents). replace x f ∷ᶜ l) (replace_operands xs)

  pub replace_choice : (xs : List Content) → replace (choice_of xs) f ≡ choice_of (map (λ c. replace c f) xs)
  unfolding choice_of replace
  replace_choice [] = refl
  replace_choice (x ∷ []) = refl
  replace_choice (x ∷ y ∷ ys) = ap (λ (l : Contents). choice (replace x f ∷ᶜ (replace y f ∷ᶜ l))) (replace_operands ys)

-- simplifying
simplify_operands : (xs : List Content) → simplify_all (operands xs) ≡ map simplify xs
unfolding operands simplify
simplify_operands [] = refl
simplify_operands (x ∷ xs) = ap (λ (l : List Content). simplify x ∷ l) (simplify_operands xs)

one_kept : (c : Content) → choice_of (keep not_none (c ∷ [])) ≡ c
unfolding choice_of keep
one_kept c = go (is_none c) refl
  where
    go : (b : Bool) → is_none c ≡ b → choice_of (keep not_none (c ∷ [])) ≡ c
    go true e = ap choice_of (keep_no not_none c [] (ap not e)) ∙ sym (is_none_lem c e)
    go false e = ap choice_of (keep_yes not_none c [] (ap not e))

pub simplify_choice : (xs : List Content) → simplify (choice_of xs) ≡ choice_of (keep not_none (map simplify xs))
unfolding choice_of simplify
simplify_choice [] = refl
simplify_choice (x ∷ []) = sym (one_kept (simplify x))
simplify_choice (x ∷ y ∷ ys) =
    ap (λ (l : List Content). choice_of (keep not_none (simplify x ∷ simplify y ∷ l))) (simplify_operands ys)

-- having a word
module _ (known : List ℕ) where
  word_operands : (xs : List Content) → one_has_word known (operands xs) ≡ any_pass (has_word known) xs
  unfolding operands has_word any_pass
  word_operands [] = refl
  word_operands (x ∷ xs) = ap (λ (b : Bool). has_word known x || b) (word_operands xs)

  pub word_choice : (xs : List Content) → has_word known (choice_of xs) ≡ any_pass (has_word known) xs
  unfolding choice_of has_word any_pass
  word_choice [] = refl
  word_choice (x ∷ []) = sym (or_nothing (has_word known x))
  word_choice (x ∷ y ∷ ys) = ap (λ (b : Bool). has_word known x || (has_word known y || b)) (word_operands ys)

-- tidying
pub list_of-operands : (xs : List Content) → list_of (operands xs) ≡ xs
unfolding operands list_of
list_of-operands [] = refl
list_of-operands (x ∷ xs) = ap (λ (l : List Content). x ∷ l) (list_of-operands xs)

-- contents that are what they give to a choice
abbrev pub Single : List Content → Type 0
Single xs = (x : Content) → Memᴰ x xs → alternatives x ≡ x ∷ []

pub single_one : (x : Content) → alternatives x ≡ x ∷ [] → Single (x ∷ [])
single_one x e y m = subst (λ (z : Content). alternatives z ≡ z ∷ []) (sym (Memᴰ.eq_of_singleton m)) e

pub single_append : (xs ys : List Content) → Single xs → Single ys → Single (xs ++ ys)
single_append xs ys p q x m = ⊎_elim (p x) (q x) (Memᴰ.append_cases xs m)

pub single_distinct : (xs : List Content) → Single xs → Single (distinct same_content xs)
single_distinct xs p x m = p x (distinct_was same_content xs m)

pub alternatives_choice : (x : Content) (xs : List Content) → Single (x ∷ xs) → alternatives (choice_of (x ∷ xs)) ≡ x ∷ xs
unfolding choice_of alternatives
alternatives_choice x [] p = p x (Memᴰ.head refl)
alternatives_choice x (y ∷ ys) p = ap (λ (l : List Content). x ∷ y ∷ l) (list_of-operands ys)

single_choice : (xs : List Content) → Single xs → Single (alternatives (choice_of xs))
unfolding choice_of alternatives
single_choice [] p = single_one none refl
single_choice (x ∷ xs) p = rw (alternatives_choice x xs p) p

mutual
  unfolding tidy

  tidied_single : (c : Content) → Single (alternatives (tidy c))
  tidied_single none = single_one none refl
  tidied_single empty = single_one empty refl
  tidied_single (type k) = single_one (type k) refl
  tidied_single (sequence cs) = single_one (sequence (operands (tidy_all cs))) refl
  tidied_single (choice cs) =
      single_choice (distinct same_content (joined_of alternatives (tidy_all cs)))
      (single_distinct (joined_of alternatives (tidy_all cs)) (λ x m. all_single cs x m))
  tidied_single (any_number c) = single_one (any_number (tidy c)) refl
  tidied_single (one_or_more c) = single_one (one_or_more (tidy c)) refl
  tidied_single (optional c) = single_one (optional (tidy c)) refl

  all_single : (cs : Contents) → Single (joined_of alternatives (tidy_all cs))
  all_single []ᶜ = λ x m. elim m [ ]
  all_single (c ∷ᶜ cs) =
      single_append (alternatives (tidy c)) (joined_of alternatives (tidy_all cs)) (λ x m. tidied_single c x m)
      (λ x m. all_single cs x m)

written_one : (x : Content) → alternatives x ≡ x ∷ [] → one_content (alternatives x) ≡ x
unfolding one_content
written_one x e = rw e refl

written_again : (xs : List Content) → Single xs → distinct same_content xs ≡ xs
    → one_content (alternatives (choice_of xs)) ≡ choice_of xs
unfolding one_content alternatives
written_again [] p e = refl
written_again (x ∷ xs) p e = ap one_content (alternatives_choice x xs p) ∙ ap choice_of e

-- a tidied content is made of its alternatives
pub tidied_written : (c : Content) → one_content (alternatives (tidy c)) ≡ tidy c
unfolding tidy
tidied_written none = written_one none refl
tidied_written empty = written_one empty refl
tidied_written (type k) = written_one (type k) refl
tidied_written (sequence cs) = written_one (sequence (operands (tidy_all cs))) refl
tidied_written (choice cs) =
    let xs : List Content = joined_of alternatives (tidy_all cs) in
    written_again (distinct same_content xs) (single_distinct xs (all_single cs)) (distinct_again same_content same_content_lem xs)
tidied_written (any_number c) = written_one (any_number (tidy c)) refl
tidied_written (one_or_more c) = written_one (one_or_more (tidy c)) refl
tidied_written (optional c) = written_one (optional (tidy c)) refl

tidy_operands : (xs : List Content) → tidy_all (operands xs) ≡ map tidy xs
unfolding operands tidy
tidy_operands [] = refl
tidy_operands (x ∷ xs) = ap (λ (l : List Content). tidy x ∷ l) (tidy_operands xs)

pub tidy_choice : (xs : List Content) → tidy (choice_of xs) ≡ one_content (joined_of alternatives (map tidy xs))
unfolding choice_of tidy one_content joined_of
tidy_choice [] = refl
tidy_choice (x ∷ []) = sym (tidied_written x) ∙ ap one_content (sym (append-nil (alternatives (tidy x))))
tidy_choice (x ∷ y ∷ ys) = ap (λ (l : List Content). one_content (joined_of alternatives (tidy x ∷ tidy y ∷ l))) (tidy_operands ys)
