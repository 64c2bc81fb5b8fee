-- `append_pairs` meets its contract. The loop's invariant: the pairs of the type before `p` are laid down.
use lib.ListN.{take}
use Rattle.grammar.specs.Lists.{keep, numbers_below}
use Rattle.sets.specs.Sets.{member}
use Rattle.reducing.specs.PairsListed.{is_pair, Appends}
use Rattle.reducing.proofs.type_lists.append_pairs.Given as goal

abbrev pub invariant-loop-p : goal.invariant-loop-p
invariant-loop-p l =
    Appends (take l.count l.initial.numbers) (keep (is_pair l.v (member l.known.words 0) l.ty) (numbers_below l.p)) l.numbers l.more
