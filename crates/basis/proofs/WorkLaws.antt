-- The working memory that a call leaves.
use Prim.Native.Nat.{ℕ, ◌≤◌, ◌<◌}
use native.Mathlib.Omega.{arith}
use mathlib.Core.Bool.{false}
use mathlib.Core.List.{List, ◌++◌}
use mathlib.Core.Path.{◌≡◌, sym, ◌∙◌, ap}
use lib.ListN.{length, take, drop, replicate, length-append}
use lib.Seq.{length-take-le, drop-append_seam}
use borrow.Author.Tests.{lt-ltb, le-ltb}
use Rattle.grammar.specs.Limits.{Limits}
use Rattle.grammar.specs.Calls.{work_too_short, work_after}

module _ (lim : Limits) (work : List ℕ) where
  enough : lim.words ≤ length work → work_too_short lim work ≡ false
  unfolding work_too_short
  enough h = le-ltb (length work) lim.words h

  -- a call that is refused for its working memory leaves it as it came
  pub work_kept : length work < lim.words → work ≡ work_after lim work
  unfolding work_after work_too_short
  work_kept h = rw (lt-ltb (length work) lim.words h, work_after)

  pub work_cleared : lim.words ≤ length work → replicate lim.words 0 ++ drop lim.words work ≡ work_after lim work
  unfolding work_after
  work_cleared h = rw (enough h, work_after)

-- what a call does with the words that it needs is cleared away
cleared_after : (lim : Limits) (work front : List ℕ) → lim.words ≤ length work → length front ≡ lim.words
    → work_after lim (front ++ drop lim.words work) ≡ work_after lim work
cleared_after lim work front h size =
    let rest = length-append front (drop lim.words work) in
    sym (work_cleared lim (front ++ drop lim.words work) (omega arith))
    ∙ ap (λ (l : List ℕ). replicate lim.words 0 ++ l)
    (ap (λ (k : ℕ). drop k (front ++ drop lim.words work)) (sym size) ∙ drop-append_seam front (drop lim.words work))
    ∙ work_cleared lim work h

-- the front of the working memory is lent, and then cleared
pub lent_cleared : (lim : Limits) (work front : List ℕ) (n : ℕ) → n ≡ lim.words → lim.words ≤ length work
    → length front ≡ length (take n work)
    → work_after lim (front ++ drop n work) ≡ work_after lim work
lent_cleared lim work front n e h size =
    ap (λ (k : ℕ). work_after lim (front ++ drop k work)) e
    ∙ cleared_after lim work front h (size ∙ ap (λ (k : ℕ). length (take k work)) e ∙ length-take-le lim.words work h)
