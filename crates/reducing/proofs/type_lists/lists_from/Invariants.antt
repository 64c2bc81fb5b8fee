-- `lists_from` meets its contract. The loop's invariant: the lists of the types before `k` are laid down.
use Rattle.sets.specs.Sets.{member}
use Rattle.reducing.proofs.ListingLaws.{Filling}
use Rattle.reducing.proofs.type_lists.lists_from.Given as goal

abbrev pub invariant-loop-k : goal.invariant-loop-k
invariant-loop-k l = Filling l.v (member l.known.words 0) l.base l.from l.numbers l.count l.k
