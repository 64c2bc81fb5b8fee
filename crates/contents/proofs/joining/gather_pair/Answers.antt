-- `gather_pair` meets its contract. The loop's invariant: what the pair's rules before `i` give stands in the draft.
use Prim.Native.Nat.{ℕ, ◌<◌}
use native.Mathlib.Omega.{arith}
use mathlib.Core.Bool.{true, false}
use mathlib.Core.List.{List}
use mathlib.Core.Path.{◌≡◌, refl, sym, ◌∙◌}
use lib.Dec.{eqb}
use borrow.Author.Rules.{rules}
use borrow.Author.Tests.{eq-eqb, ne_eqb}
use Rattle.grammar.specs.Table.{Table}
use Rattle.grammar.specs.Normalise.{pair_of}
use Rattle.union.specs.declared.united.United.{United}
use Rattle.union.specs.View.{Views, first_in}
use Rattle.union.specs.PairNumbers.{rule_numbered}
use Rattle.contents.proofs.RuleLaws.{first_is}
use Rattle.contents.proofs.LoopLaws.{given_on, given_off, given_as, so_far_none, so_far_skip, ready_for, so_far_wide, so_far_next, so_far_all, pair_gives_lem}
use Rattle.reader.proofs.AnswerLaws.{handed_on}
use Rattle.contents.proofs.joining.gather_pair.Goals as goal

-- the rule is of the pair, or it is of another
of_pair : {old add : List ℕ} {v : United} {u : Table} {i p first : ℕ} → Views old add v u → i < v.rules → first ≡ first_in v i
    → first ≡ p → eqb (pair_of u (rule_numbered u i)) p ≡ true
of_pair {u = u} {i = i} {p = p} views h f e = eq-eqb (pair_of u (rule_numbered u i)) p (sym (f ∙ first_is views i h) ∙ e)

of-another : {old add : List ℕ} {v : United} {u : Table} {i p first : ℕ} → Views old add v u → i < v.rules → first ≡ first_in v i
    → (first ≡ p → ⊥) → eqb (pair_of u (rule_numbered u i)) p ≡ false
of-another {u = u} {i = i} {p = p} views h f e = ne_eqb (pair_of u (rule_numbered u i)) p (λ z. e (f ∙ first_is views i h ∙ z))

pub loop-i-init : goal.loop-i-init
loop-i-init c = (omega arith, refl, refl, λ q k. so_far_none _ _ _ k)

pub loop-i-preserved-then-from-p : goal.loop-i-preserved-then-from-p
loop-i-preserved-then-from-p c = (
  omega arith,
  c.loop-i.invariant.1,
  c.loop-i.invariant.2,
  λ q k.
      let h = c.loop-i-test.true in
      so_far_skip _ _ _ (c.loop-i.invariant.3 q k) h (given_off _ _ (of-another q.views h c.from.ensures c.if-from-p.true)),
)

pub gather_rule-requires : goal.gather_rule-requires
gather_rule-requires c =
    (c.requires.0, c.loop-i-test.true, ready_for _ _ _ (c.loop-i.invariant.3 c.requires.0 c.requires.1) c.requires.1.small (omega arith) (omega arith))

pub returns-in_err-gathered : goal.returns-in_err-gathered
returns-in_err-gathered c =
    rw (handed_on c.from_residual.result c.from_residual.ensures)
    (let at-loop = c.loop-i in
    λ q k.
    let l = at-loop in
    let h = c.loop-i-test.true in
    let same = l.invariant.1 in
    let same-words = l.invariant.2 in
    let room = k.room in
    let deep = k.deep in
    let s = l.invariant.3 q k in
    so_far_wide _ _ _ s h _ _ _
    (given_as _ _ _ (sym (given_on _ _ (of_pair q.views h c.from.ensures c.if-from-p.false)))
    (c.gather_rule.ensures q (ready_for _ _ _ s k.small (omega arith) (omega arith))))
    c.in_err-gathered.was
    _
    _
    _
    (pair_gives_lem q.of q.table c.args.p c.args.v.rules q.views.rules))

pub loop-i-preserved : goal.loop-i-preserved
loop-i-preserved c =
    let at-loop = c.loop-i in (
      omega arith,
      search rules,
      search rules,
      λ q k.
          let l = at-loop in
          let h = c.loop-i-test.true in
          let same = l.invariant.1 in
          let same-words = l.invariant.2 in
          let room = k.room in
          let deep = k.deep in
          let s = l.invariant.3 q k in
          so_far_next _ _ _ s h _ _ _
          (given_as _ _ _ (sym (given_on _ _ (of_pair q.views h c.from.ensures c.if-from-p.false)))
          (c.gather_rule.ensures q (ready_for _ _ _ s k.small (omega arith) (omega arith))))
          c.in_ok-gathered.was,
    )

pub returns : goal.returns
returns c =
    λ q k.
    so_far_all _ _ _ (c.loop-i.invariant.3 q k) (omega arith) _ (pair_gives_lem q.of q.table c.args.p c.args.v.rules q.views.rules)
