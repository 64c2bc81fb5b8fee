-- `with_starts` meets its contract. The loop's invariant: the lists of the start types before `i` are in the set.
use Rattle.reader.specs.declared.index.TableIndex.{TableIndex}
use Prim.Native.Nat.{ℕ}
use native.Mathlib.Omega.{arith}
use mathlib.Core.List.{List}
use mathlib.Core.Path.{sym, ◌∙◌, ap}
use Rattle.grammar.specs.Lists.{is_in, joined_of, numbers_below}
use Rattle.theory.proofs.Lists.ListLaws.{joined_next}
use Rattle.sets.specs.Sets.{member, in_either}
use Rattle.reader.specs.TableIndex.{start_type}
use Rattle.union.specs.declared.lists.Lists.{Lists}
use Rattle.union.specs.Walks.{list_of_type}
use Rattle.reducing.proofs.NumberLaws.{both_start, both_next, joined_start}
use Rattle.reducing.proofs.leaving.with_starts.Goals as goal

abbrev list_at : Lists → (index : TableIndex) → ℕ → List ℕ
list_at lists index i = list_of_type lists.from lists.numbers (start_type index i)

pub loop-i-init : goal.loop-i-init
loop-i-init c = (
  both_start (member c.args.set.words 0) _ (joined_start (list_at c.args.lists c.args.index.now)),
  omega arith,
)

pub loop-i-preserved : goal.loop-i-preserved
loop-i-preserved c =
    let f = list_at c.args.lists c.args.index.now in
    let i = c.loop-i.i in
    let more = c.loop-i.more.words in
    let base = member c.args.set.words 0 in (
      c.with_list-more.ensures.0
          ∙ ap (λ (k : ℕ). in_either (λ p. is_in p (list_of_type c.args.lists.from c.args.lists.numbers k)) (member more 0))
          c.start_type.ensures
          ∙ ap (in_either (λ p. is_in p (f i))) c.loop-i.invariant.0
          ∙ both_next (joined_of f (numbers_below i)) (f i) base
          ∙ ap (λ (xs : List ℕ). in_either (λ p. is_in p xs) base) (sym (joined_next f i)),
      c.with_list-more.ensures.1,
    )
