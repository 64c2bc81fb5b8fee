-- `rule_text` meets its contract: the tag stands before the content, in the bytes of the rule's own table.
use Prim.Native.Nat.{ℕ, ◌-◌}
use native.Mathlib.Omega.{arith}
use mathlib.Core.Path.{sym, ◌∙◌, ap}
use lib.Dec.{eqb}
use lib.ListN.{get_or}
use Rattle.grammar.specs.Table.{Rule}
use Rattle.theory.proofs.Lists.ListLaws.{at_else}
use Rattle.reader.proofs.TableIndexLaws.{tag_tells}
use Rattle.union.specs.PairNumbers.{no_rule}
use Rattle.union.proofs.ViewLaws.{seen}
use Rattle.union.proofs.text.rule_text.Goals as goal

pub overflow_sub-result : goal.overflow_sub-result
overflow_sub-result c =
    let s = seen c.requires.0.views _ c.requires.1 in
    omega (arith, (tag_tells s.0.text (s.2.tag_old c.if-i-v.true)).0, c.from-from.ensures)

pub bounds-old-from : goal.bounds-old-from
bounds-old-from c =
    let s = seen c.requires.0.views _ c.requires.1 in
    let order = (s.2.in_old c.if-i-v.true).order in
    let within = (s.2.in_old c.if-i-v.true).within in
    omega (arith, (tag_tells s.0.text (s.2.tag_old c.if-i-v.true)).0, c.from-from.ensures)

pub returns-then-i-v : goal.returns-then-i-v
returns-then-i-v c =
    λ u x.
    let s = seen x _ c.requires.1 in
    ap (λ (n : ℕ). eqb (get_or c.args.old.now (n - 5) 0) 0x13) c.from-from.ensures
    ∙ (tag_tells s.0.text (s.2.tag_old c.if-i-v.true)).1
    ∙ ap (λ (r : Rule). r.text) (sym (at_else u.rules _ no_rule s.1))

pub overflow_sub-result-2 : goal.overflow_sub-result-2
overflow_sub-result-2 c =
    let s = seen c.requires.0.views _ c.requires.1 in
    omega (arith, (tag_tells s.0.text (s.2.tag_addition c.if-i-v.false)).0, c.from-from.ensures)

pub bounds-add-from : goal.bounds-add-from
bounds-add-from c =
    let s = seen c.requires.0.views _ c.requires.1 in
    let order = (s.2.in_addition c.if-i-v.false).stands.order in
    let within = (s.2.in_addition c.if-i-v.false).stands.within in
    omega (arith, (tag_tells s.0.text (s.2.tag_addition c.if-i-v.false)).0, c.from-from.ensures)

pub returns : goal.returns
returns c =
    λ u x.
    let s = seen x _ c.requires.1 in
    ap (λ (n : ℕ). eqb (get_or c.args.add.now (n - 5) 0) 0x13) c.from-from.ensures
    ∙ (tag_tells s.0.text (s.2.tag_addition c.if-i-v.false)).1
    ∙ ap (λ (r : Rule). r.text) (sym (at_else u.rules _ no_rule s.1))
