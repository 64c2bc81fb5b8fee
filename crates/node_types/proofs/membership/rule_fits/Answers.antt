use Prim.Native.Nat.{ℕ, ◌+◌}
use native.Mathlib.Omega.{arith}
use mathlib.Core.List.{List, []}
use mathlib.Core.Path.{sym, ◌∙◌, ap}
use Rattle.walks.specs.TypeSets.{tests_at}
use Rattle.walks.specs.WalkAt.{run_at}
use Rattle.node_types.proofs.TypeLaws as laws
use Rattle.node_types.proofs.membership.rule_fits.Goals as goal

pub returns-then-not-takes_text : goal.returns-then-not-takes_text
returns-then-not-takes_text c =
    λ g x r listed h e named.
    laws.fits_not x c.args.rule c.requires.1 r listed h (tests_at c.args.words.now (c.args.node.at + 4) c.args.node.children)
    (sym (c.takes_text.ensures g r x.indexes listed h e) ∙ c.if-not-takes_text.true)

pub content_fits-requires : goal.content_fits-requires
content_fits-requires c = (
  laws.content_whole c.requires.0.held c.args.rule c.requires.1 c.content_from-from.ensures c.content_to-to.ensures,
  laws.content_room c.requires.0.held c.args.rule c.requires.1 c.content_from-from.ensures c.content_to-to.ensures c.requires.3 (omega arith),
  omega arith,
  c.requires.2 ∙ ap (λ (l : List ℕ). run_at l []) (sym (laws.content_there c.requires.0.held c.args.rule c.requires.1 c.content_from-from.ensures c.content_to-to.ensures)),
)

pub returns : goal.returns
returns c =
    let tests = tests_at c.args.words.now (c.args.node.at + 4) c.args.node.children in
    λ g x r listed h e named.
    c.content_fits.ensures
    ∙ ap (λ (l : List ℕ). run_at l tests) (laws.content_there c.requires.0.held c.args.rule c.requires.1 c.content_from-from.ensures c.content_to-to.ensures)
    ∙ laws.fits_walked x c.args.rule c.requires.1 r listed h tests
    (sym (c.takes_text.ensures g r x.indexes listed h e) ∙ c.if-not-takes_text.false) named
