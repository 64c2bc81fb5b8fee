-- `start_pairs` meets its contract: the pairs of the start types are those of the lists.
use Prim.Native.Nat.{ℕ}
use native.Mathlib.Omega.{arith}
use mathlib.Core.List.{List}
use mathlib.Core.Path.{◌∙◌, ap}
use Rattle.grammar.specs.Lists.{is_in, joined_of, numbers_below}
use Rattle.sets.specs.Sets.{member, in_either}
use Rattle.reader.specs.TableIndex.{start_type, start_count}
use Rattle.sets.proofs.SetLaws.{member_zeros, words_stored}
use Rattle.union.specs.Places.{starts_at}
use Rattle.union.specs.Walks.{list_of_type}
use Rattle.reducing.proofs.LeavingLaws.{start_set}
use Rattle.reducing.proofs.leaving.start_pairs.Goals as goal

pub returns : goal.returns
returns c =
    λ old add g h x y l.
    let index = c.args.index.now in
    let olds = joined_of (λ i. list_of_type c.args.lists.old.from c.args.lists.old.numbers (start_type index i)) (numbers_below (start_count index)) in
    let eight = c.with_starts.ensures.1 in
    let none = ap (λ (w : List ℕ). member w 0) c.empty.ensures ∙ member_zeros 8 0 in
    ap (λ (w : List ℕ). member w 0) (words_stored _ starts_at 8 _ _ (omega arith) eight c.store.ensures)
    ∙ start_set x y l _ _ c.with_starts.ensures.0
    (c.with_starts-first.ensures.0
    ∙ ap (in_either (λ p. is_in p olds)) none)
