-- `append_pairs` meets its contract. The loop's invariant: the pairs of the type before `p` are laid down.
use Prim.Native.Nat.{ℕ}
use native.Mathlib.Omega.{arith}
use mathlib.Core.Path.{◌≡◌, sym, ◌∙◌, ap}
use Rattle.grammar.specs.Lists.{keep, numbers_below}
use Rattle.sets.specs.Sets.{member}
use Rattle.reducing.specs.PairsListed.{is_pair}
use Rattle.reducing.proofs.NumberLaws.{keep_start, keep_next}
use Rattle.reducing.proofs.ListingLaws.{appends_same, appends_none, appends_join, pair_new, pairs_in_lem}
use Rattle.reducing.proofs.type_lists.append_pairs.Goals as goal

pub loop-p-init : goal.loop-p-init
loop-p-init c =
    let test = is_pair c.args.v (member c.args.known.words 0) c.args.ty in
    appends_same (sym (keep_start test)) (appends_none c.requires.1)

pub append_pair-more-requires : goal.append_pair-more-requires
append_pair-more-requires c = (
  omega arith,
  c.loop-p.invariant.filled,
  pair_new c.args.v (member c.args.known.words 0) c.args.ty c.loop-p.p _ _ c.requires.2 c.loop-p.invariant.all,
)

pub loop-p-preserved : goal.loop-p-preserved
loop-p-preserved c =
    let test = is_pair c.args.v (member c.args.known.words 0) c.args.ty in
    appends_same (sym (keep_next test c.loop-p.p)) (appends_join _ _ _ _ _ _ _ c.loop-p.invariant c.append_pair-more.ensures)

pub returns : goal.returns
returns c =
    let known = member c.args.known.words 0 in
    let e : c.loop-p.p ≡ c.args.v.rules = omega arith in
    appends_same
    (ap (λ (n : ℕ). keep (is_pair c.args.v known c.args.ty) (numbers_below n)) e ∙ pairs_in_lem c.args.v known c.args.ty)
    c.loop-p.invariant
