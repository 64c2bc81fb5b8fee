-- `built_in_words`: an empty set is laid down, what `put_all` makes of it has just the numbers, and no other word changes.
use Prim.Native.Nat.{ℕ, ◌+◌, ◌%◌, ◌≤◌}
use mathlib.Core.List.{List}
use mathlib.Core.Path.{◌≡◌, sym, ap, ◌∙◌, subst}
use native.Mathlib.Omega.{arith}
use borrow.Author.Rules.{rules}
use lib.ListN.{length, take, drop, replicate}
use Rattle.sets.specs.Sets.{put_all, words_at, store_at, AllBelow, HasJust, OthersKept}
use Rattle.sets.proofs.SetLaws.{length_store, words_store, stored_kept}
use Rattle.sets.proofs.BuiltSets.{in_words_has_just, put_all_front, put_all_back}
use Rattle.built_sets.specs.Remainders.{remainders}
use Rattle.built_sets.proofs.RemainderLaws.{remainders_below}
use Rattle.built_sets.proofs.built_in_words.Goals as goal

module _ (words none numbers : List ℕ) (base : ℕ) (room : base + 4 ≤ length words) (empty : none ≡ replicate 4 0)
    (below : AllBelow 128 numbers) (emptied after : List ℕ) (stored : emptied ≡ store_at words base none)
    (put : after ≡ put_all emptied base numbers) where
  four : length none ≡ 4
  four = ap length empty

  has-just : HasJust after base 4 numbers
  has-just =
      let same : length emptied ≡ length words = ap length stored ∙ length_store words base none (omega (arith, four)) in
      subst (λ (l : List ℕ). HasJust l base 4 numbers) (sym put)
      (in_words_has_just emptied base 4 numbers (omega (arith, same))
      (ap (λ (l : List ℕ). words_at l base 4) stored ∙ words_store words base none 4 (omega (arith, four)) four ∙ empty) below)

  others : OthersKept base words after
  others =
      let kept = stored_kept words base 4 none emptied room four stored in
      record {
        front = ap (take base) put ∙ put_all_front emptied base numbers ∙ kept.front;
        back = ap (drop (base + 4)) put ∙ put_all_back emptied base 4 numbers below ∙ kept.back;
      }

  both : HasJust after base 4 numbers × OthersKept base words after
  both = (has-just, others)

pub returns : goal.returns
returns c =
    let words = c.args.words.now in
    let base = c.args.base % 4 in
    let room : base + 4 ≤ length words = search rules in
    let just = both words c.empty-none.result.words (remainders c.args.numbers.now) base room c.empty-none.ensures
    (remainders_below c.args.numbers.now) c.store.new.words c.put_all.new.words c.store.ensures c.put_all.ensures in
    record { answer = c.has.ensures ∙ just.0 (c.args.k % 128) (omega arith); set = just.0; others = just.1 }
