-- Shifting the marks child by child is matching. A child is a test of types: it passes the types that derive the child.
--
--   run : Content → List (ℕ → Bool) → Bool      no children: nullable; else final, after shifting; only the first child may begin
--   run_word : (c : Content) (children : List (ℕ → Bool)) → (run c children ≡ true) ↔ Matched (Word c) children
--   run_matches : (c : Content) (us : List (List ℕ)) → run c (map holds us) ≡ matches c us
--
-- where `Matched L children` says that some word of L has, position by position, a type that the child passes,
-- and `holds us k` is `is_in k us`.
use Prim.Native.Nat.{ℕ}
use mathlib.Core.Bool.{Bool, true, false, false≢true}
use mathlib.Core.List.{List, [], ◌∷◌, map}
use mathlib.Core.Logic.Iff
use mathlib.Core.Logic.{◌↔◌, inl, inr, ⊎_elim}
use mathlib.Core.Path.{◌≡◌, refl, subst}
use Rattle.grammar.specs.Content.{Content, Language, Word}
use Rattle.grammar.specs.Membership.{matches}
use Rattle.theory.specs.Marked.{MContent, unmarked, final, shift, shifts, run, holds}
use Rattle.theory.proofs.Lists.BoolLaws.{same_test}
use Rattle.theory.proofs.Lists.ListLaws.{in_mem, mem_in}
use Rattle.theory.proofs.Matching.Matching.{Picks, picks_none, picks_next, Picked, recognised, matches_words}
use Rattle.theory.proofs.Matching.MarkedLaws.{plain-unmarked, nullable_word}
use Rattle.theory.proofs.Matching.MarkedWords.{Left, AfterChild, final_word, shift_word, unmarked_left}

-- the word has a type of each child, position by position
pub data HaveTypes : List (ℕ → Bool) → List ℕ → Type 0 where
  have_none : HaveTypes [] []
  have_next : {has : ℕ → Bool} {children : List (ℕ → Bool)} {k : ℕ} {w : List ℕ} → has k ≡ true → HaveTypes children w
      → HaveTypes (has ∷ children) (k ∷ w)

-- some word of the language has a type of each child
abbrev pub Matched : Language → List (ℕ → Bool) → Type 0
Matched L children = (w : List ℕ) × L w × HaveTypes children w

matched_none : (L : Language) → L [] ↔ Matched L []
matched_none L = (λ l. ([], l, have_none), λ r. go r.0 r.1 r.2)
  where
    go : (w : List ℕ) → L w → HaveTypes [] w → L []
    go [] l have_none = l
    go (_ ∷ _) l none = elim none [ ]

matched_next : (L : Language) (has : ℕ → Bool) (children : List (ℕ → Bool))
    → Matched (AfterChild has L) children ↔ Matched L (has ∷ children)
matched_next L has children = (
  λ r. let a = r.1 in (a.0 ∷ r.0, a.2, have_next a.1 r.2),
  λ r. go r.0 r.1 r.2,
)
  where
    go : (w : List ℕ) → L w → HaveTypes (has ∷ children) w → Matched (AfterChild has L) children
    go [] l none = elim none [ ]
    go (k ∷ w) l (have_next h t) = (w, (k, h, l), t)

matched_same : (L M : Language) (children : List (ℕ → Bool)) → ((w : List ℕ) → L w ↔ M w) → Matched L children ↔ Matched M children
matched_same L M children same = (λ r. (r.0, (same r.0).0 r.1, r.2), λ r. (r.0, (same r.0).1 r.1, r.2))

-- a later child goes on from what is left, the first one begins a word
later_child : (m : MContent) (has : ℕ → Bool) (w : List ℕ) → Left (shift m false has) w ↔ AfterChild has (Left m) w
later_child m has w = (
  λ l. ⊎_elim (λ s. absurd (false≢true s.0)) (λ a. a) ((shift_word m false has w).0 l),
  λ a. (shift_word m false has w).1 (inr a),
)

first_child : (c : Content) (has : ℕ → Bool) (w : List ℕ) → Left (shift (unmarked c) true has) w ↔ AfterChild has (Word c) w
first_child c has w = subst (λ (d : Content). Left (shift (unmarked c) true has) w ↔ AfterChild has (Word d) w) (plain-unmarked c) (
  λ l. ⊎_elim (λ s. s.1) (λ a. absurd (unmarked_left c (a.0 ∷ w) a.2)) ((shift_word (unmarked c) true has w).0 l),
  λ a. (shift_word (unmarked c) true has w).1 (inl (refl, a)),
)

pub shifts_word : (children : List (ℕ → Bool)) (m : MContent) → (final (shifts m false children) ≡ true) ↔ Matched (Left m) children
unfolding shifts
shifts_word [] m = Iff.trans (final_word m) (matched_none (Left m))
shifts_word (has ∷ children) m =
    Iff.trans
    (shifts_word children (shift m false has))
    (Iff.trans
    (matched_same (Left (shift m false has)) (AfterChild has (Left m)) children (later_child m has))
    (matched_next (Left m) has children))

pub run_word : (c : Content) (children : List (ℕ → Bool)) → (run c children ≡ true) ↔ Matched (Word c) children
unfolding run
run_word c [] = Iff.trans (nullable_word c) (matched_none (Word c))
run_word c (has ∷ children) =
    Iff.trans
    (shifts_word children (shift (unmarked c) true has))
    (Iff.trans
    (matched_same (Left (shift (unmarked c) true has)) (AfterChild has (Word c)) children (first_child c has))
    (matched_next (Word c) has children))

picks_have : {us : List (List ℕ)} {w : List ℕ} → Picks us w → HaveTypes (map holds us) w
picks_have picks_none = have_none
picks_have (picks_next m p) = have_next (mem_in m) (picks_have p)

have_picks : (us : List (List ℕ)) (w : List ℕ) → HaveTypes (map holds us) w → Picks us w
have_picks [] [] have_none = picks_none
have_picks [] (k ∷ w) none = elim none [ ]
have_picks (types ∷ us) [] none = elim none [ ]
have_picks (types ∷ us) (k ∷ w) (have_next h t) = picks_next (in_mem k types h) (have_picks us w t)

matched_picked : (L : Language) (us : List (List ℕ)) → Matched L (map holds us) ↔ Picked L us
matched_picked L us = (λ r. (r.0, r.1, have_picks us r.0 r.2), λ r. (r.0, r.1, picks_have r.2))

pub run_picked : (c : Content) (us : List (List ℕ)) → (run c (map holds us) ≡ true) ↔ Picked (Word c) us
run_picked c us = Iff.trans (run_word c (map holds us)) (matched_picked (Word c) us)

pub run_matches : (c : Content) (us : List (List ℕ)) → run c (map holds us) ≡ matches c us
run_matches c us =
    let p = run_picked c us in
    let q = recognised (matches_words c) us in
    same_test (run c (map holds us)) (matches c us) (λ e. q.1 (p.0 e), λ e. p.1 (q.0 e))
