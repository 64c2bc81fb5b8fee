-- Alternatives gathered one after the other into a list of operands without equal ones:
--   gather_more : gathered (gathered ds xs) ys ≡ gathered ds (xs ++ ys)
--   gather_old, gather_new : one alternative is dropped if an equal one is there, and stands at the end if not
--   gather_grows : what is gathered only adds at the end
-- `one_content xs` is the choice of what is gathered into an empty list.
use mathlib.Core.Bool.{true, false}
use mathlib.Core.List.{List, [], ◌∷◌, ◌++◌, append_assoc, append-nil}
use mathlib.Core.Path.{◌≡◌, refl, ◌∙◌, ap}
use Rattle.grammar.specs.Lists.{any_pass, distinct}
use Rattle.grammar.specs.Content.{Content, choice_of}
use Rattle.grammar.specs.ReadContent.{same_content}
use Rattle.theory.specs.Alternatives.{one_content, gathered, Gathered}
use Rattle.theory.proofs.Contents.ContentBytes.{same_content_lem}
use Rattle.theory.proofs.Lists.ListLaws.{decided_sym}
use Rattle.theory.proofs.Lists.DistinctLaws.{distinct_left, distinct_again, distinct_grows, one_more_new, one_more_old}

pub gathered_nothing : Gathered []
unfolding distinct
gathered_nothing = refl

pub gathered_so : (ds xs : List Content) → Gathered (gathered ds xs)
unfolding gathered
gathered_so ds xs = distinct_again same_content same_content_lem (ds ++ xs)

pub written_gathered : (xs : List Content) → one_content xs ≡ choice_of (gathered [] xs)
unfolding one_content gathered
written_gathered xs = refl

pub gather_more : (ds xs ys : List Content) → gathered (gathered ds xs) ys ≡ gathered ds (xs ++ ys)
unfolding gathered
gather_more ds xs ys = distinct_left same_content same_content_lem (ds ++ xs) ys ∙ ap (distinct same_content) (append_assoc ds xs ys)

module _ (ds : List Content) (g : Gathered ds) where
  pub gather_nothing : gathered ds [] ≡ ds
  unfolding gathered
  gather_nothing = ap (distinct same_content) (append-nil ds) ∙ g

  pub gather_old : (x : Content) → any_pass (same_content x) ds ≡ true → gathered ds (x ∷ []) ≡ ds
  unfolding gathered
  gather_old x e = one_more_old same_content (decided_sym same_content same_content_lem) ds x e ∙ g

  pub gather_new : (x : Content) → any_pass (same_content x) ds ≡ false → gathered ds (x ∷ []) ≡ ds ++ (x ∷ [])
  unfolding gathered
  gather_new x e = one_more_new same_content (decided_sym same_content same_content_lem) ds x e ∙ ap (λ (l : List Content). l ++ (x ∷ [])) g

  pub gather_grows : (xs : List Content) → (more : List Content) × (gathered ds xs ≡ ds ++ more)
  unfolding gathered
  gather_grows xs =
      let r = distinct_grows same_content ds xs in
      (r.0, r.1 ∙ ap (λ (l : List Content). l ++ r.0) g)
