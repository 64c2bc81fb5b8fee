-- `met_in_pair` meets its contract. The loop's invariant: the pairs met in the rules of the pair before `i` are added.
use Prim.Native.Nat.{ℕ}
use native.Mathlib.Omega.{arith}
use mathlib.Core.List.{List}
use mathlib.Core.Path.{◌≡◌, sym, ◌∙◌, ap}
use lib.Dec.{eqb}
use lib.ListN.{take}
use borrow.Author.Tests.{eq-eqb, ne_eqb}
use Rattle.grammar.specs.Lists.{joined_of, numbers_below}
use Rattle.grammar.specs.Table.{Table}
use Rattle.theory.specs.Alternatives.{only_if}
use Rattle.union.specs.declared.united.United.{United}
use Rattle.union.specs.View.{first_in}
use Rattle.reducing.specs.PairsMet.{met_in_rule, met_in_pair, Meets}
use Rattle.reducing.proofs.MeetingLaws.{meets_same, meets_start, meets_next, meets_on, meets_off, pair_met}
use Rattle.reducing.proofs.meeting.met_in_pair.Goals as goal
use Rattle.reducing.proofs.meeting.met_in_pair.Goals.{then-from-p, else-from-p}

abbrev of_rule : United → ℕ → Table → ℕ → List ℕ
of_rule v p u i = only_if (eqb (first_in v i) p) (met_in_rule u i)

pub loop-i-init : goal.loop-i-init
loop-i-init c = meets_start (of_rule c.args.v c.args.p) _ _ c.requires.once

pub loop-i-preserved : goal.loop-i-preserved
loop-i-preserved c =
    let i = c.loop-i.i in
    let rule = λ (u : Table). met_in_rule u i in
    let on = eqb (first_in c.args.v i) c.args.p in
    let f = of_rule c.args.v c.args.p in
    let before = take c.loop-i.more c.loop-i.list in
    let met : Meets c.args.old.now c.args.add.now c.args.v c.args.lists (λ u. f u i) before c.if-from-p.list c.if-from-p.more =
    elim c.if-from-p.branch [
      | then-from-p w ↦
          rw (w.list-is, w.more-is)
          (meets_on on rule _ _ _ (eq-eqb _ _ (sym c.from.ensures ∙ w.if-from-p.true)) w.met_in_rule-more.ensures)
      | else-from-p w ↦
          rw (w.list-is, w.more-is)
          (meets_off on rule _ _ (ne_eqb _ _ (λ e. w.if-from-p.false (c.from.ensures ∙ e))) c.loop-i.invariant.once)
    ] in
    meets_next f i _ _ _ _ _ c.loop-i.invariant met

pub returns : goal.returns
returns c =
    let e : c.loop-i.i ≡ c.args.v.rules = omega arith in
    meets_same (λ u. joined_of (of_rule c.args.v c.args.p u) (numbers_below c.loop-i.i)) (λ u. met_in_pair u c.args.p) _ _ _
    (λ u x. ap (λ (n : ℕ). joined_of (of_rule c.args.v c.args.p u) (numbers_below n)) e ∙ pair_met x c.args.p)
    c.loop-i.invariant
