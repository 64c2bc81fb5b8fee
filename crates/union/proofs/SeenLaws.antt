-- The types whose numbers are all there, along a walk:
--   seen_nothing             none at first
--   seen_again, seen_put     adding the numbers of one again changes nothing; one more, once its numbers are added
use Prim.Native.Nat.{ℕ, ◌<◌}
use native.Mathlib.Omega.{arith}
use mathlib.Core.Bool.{true}
use mathlib.Core.List.Memᴰ
use mathlib.Core.List.{
  List,
  [],
  ◌∷◌,
  ◌++◌,
  append_assoc,
  append-nil,
  Memᴰ,
}
use mathlib.Core.Logic.{⊎_elim}
use mathlib.Core.Path.{◌≡◌, refl, sym, ◌∙◌, ap, subst}
use lib.Dec.{eqb}
use lib.ListN.{length, take, replicate}
use borrow.Author.Tests.{eqb-true}
use Rattle.grammar.specs.Lists.{distinct, is_in}
use Rattle.theory.proofs.Lists.BoolLaws.{not_both, or_cases}
use Rattle.theory.proofs.Lists.ListLaws.{mem_in, distinct_mem, eqb_decides, eqb_sym}
use Rattle.theory.proofs.Lists.DistinctLaws.{distinct_left, one_more_old}
use Rattle.sets.specs.Sets.{member, put_at}
use Rattle.sets.proofs.SetLaws.{length_put, member_put, member_zeros}
use Rattle.union.specs.Walks.{Once, Adds, SeenListed}

-- adding what is all there changes nothing
all_there : (numbers : List ℕ) → distinct eqb numbers ≡ numbers → (more : List ℕ)
    → ((p : ℕ) → Memᴰ p more → Memᴰ p numbers)
    → distinct eqb (numbers ++ more) ≡ numbers
unfolding is_in
all_there numbers once [] h = ap (distinct eqb) (append-nil numbers) ∙ once
all_there numbers once (x ∷ more) h =
    ap (distinct eqb) (sym (append_assoc numbers (x ∷ []) more))
    ∙ sym (distinct_left eqb eqb_decides (numbers ++ (x ∷ [])) more)
    ∙ ap (λ (l : List ℕ). distinct eqb (l ++ more)) (one_more_old eqb eqb_sym numbers x (mem_in (h x (Memᴰ.head refl))) ∙ once)
    ∙ all_there numbers once more (λ p m. h p (Memᴰ.tail m))

-- what was there or was added is there
adds_has : {numbers more list : List ℕ} {count : ℕ} → Adds numbers more list count → {p : ℕ} → Memᴰ p (numbers ++ more)
    → Memᴰ p (take count list)
adds_has {numbers} {more} {list} {count} a {p} m =
    subst (λ (l : List ℕ). Memᴰ p l) (sym a.all) (distinct_mem eqb eqb_decides m)

module _ {left : ℕ → List ℕ} where
  pub seen_nothing : {seen : List ℕ} → seen ≡ replicate 4 0 → (numbers : List ℕ) → SeenListed seen left numbers
  seen_nothing {seen} e numbers =
      subst (λ (l : List ℕ). SeenListed l left numbers) (sym e)
      record { size = refl; there = λ k m p h. absurd (not_both m (ap (λ q. q k) (member_zeros 4 0))) }

  pub seen_put : {seen numbers after list : List ℕ} {count : ℕ} → SeenListed seen left numbers → (k : ℕ) → k < 128
      → after ≡ put_at seen 0 k
      → Adds numbers (left k) list count
      → SeenListed after left (take count list)
  seen_put {seen} {numbers} s k h put a =
      let w = s.size in
      record {
        size = ap length put ∙ length_put seen 0 k ∙ w;
        there =
            λ j e p m.
            ⊎_elim
            (λ t. adds_has a (Memᴰ.append_right numbers (subst (λ (i : ℕ). Memᴰ p (left i)) (eqb-true j k t) m)))
            (λ t. adds_has a (Memᴰ.append_left (left k) (s.there j t p m)))
            (or_cases (eqb j k) (member seen 0 j)
            (sym (ap (λ (l : List ℕ). member l 0 j) put ∙ ap (λ q. q j) (member_put seen 0 k (omega arith))) ∙ e));
      }

  pub seen_again : {seen list : List ℕ} {count : ℕ} → Once 256 list count → SeenListed seen left (take count list) → (k : ℕ)
      → member seen 0 k ≡ true
      → Adds (take count list) (left k) list count
  seen_again {seen} {list} {count} once s k e =
      record { all = sym (all_there (take count list) once.once (left k) (s.there k e)); held = once.held }
