use Prim.Native.Nat.{ℕ}
use mathlib.Core.Bool.{true, false}
use mathlib.Core.List.{List}
use mathlib.Core.Path.{◌∙◌, ap}
use lib.ListN.{length, drop}
use Rattle.grammar.specs.Limits.{large}
use Rattle.theory.specs.MarkedWalk.{Walked, is_marked}
use Rattle.walks.specs.TypeSets.{set_at, tests_at}
use Rattle.walks.specs.WalkAt.{walk_at, walks_at}
use Rattle.walks.proofs.WalkLaws.{match_none, match_some}
use Rattle.walks.proofs.matching.matches.Goals as goal

pub returns-then-count-eq0 : goal.returns-then-count-eq0
returns-then-count-eq0 c =
    let s = c.args.content.now in
    let words = c.args.words.now in
    ap (λ (w : Walked). w.nullable) c.pass-none.ensures
    ∙ ap (λ (marks : List ℕ). (walk_at s 0 marks false (set_at words 0)).nullable) c.clear.ensures
    ∙ match_none large s words c.requires.0 c.args.top c.args.count (drop (length s) c.args.marks.now) c.if-count-eq0.true false
    (set_at words 0)

pub returns : goal.returns
returns c =
    let s = c.args.content.now in
    let words = c.args.words.now in
    c.walked_through.ensures
    ∙ ap (λ (marks : List ℕ). is_marked (walks_at s marks true (tests_at words c.args.top c.args.count)) 0) c.clear.ensures
    ∙ match_some large s words c.requires.0 c.args.top c.args.count (drop (length s) c.args.marks.now) c.if-count-eq0.false
