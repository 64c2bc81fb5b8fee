-- `label_sets` meets its contract.
use native.Mathlib.Omega.{arith}
use mathlib.Core.List.{List}
use mathlib.Core.Path.{◌≡◌, sym, subst}
use lib.ListN.{length}
use Rattle.std.specs.Prelude.{Some}
use Rattle.grammar.specs.SingleTypeForm.{TypeSet}
use Rattle.sets.specs.Sets.{member}
use Rattle.forms.specs.SetWords.{SetsCounted}
use Rattle.forms.proofs.SetWordLaws.{no_sets}
use Rattle.forms.proofs.SetsFound.{labelled_ascending}
use Rattle.forms.proofs.LabelLaws.{few_rules, up_none, up_more, up_many, up_whole}
use Rattle.forms.proofs.label_sets.label_sets.Goals as goal

pub loop-l-init : goal.loop-l-init
loop-l-init c = (
  omega arith,
  λ old add u x.
      subst (λ (s : List TypeSet). SetsCounted c.args.most c.args.words.now s (Some 0)) (sym (up_none u (member c.args.pairs.words 0)))
      (no_sets c.args.most c.args.words.now c.requires.2.room),
)

pub returns-in_err-count : goal.returns-in_err-count
returns-in_err-count c =
    λ old add u x labels.
    let s = c.loop-l.invariant.1 old add u x in
    let pairs = member c.args.pairs.words 0 in
    rw c.from_residual.ensures
    (up_many u pairs c.args.most c.loop-l.l _ _
    (c.put_some.ensures.0 _ _ s.2 s.0 (c.labelled_pairs-set.ensures.0 old add u x) (labelled_ascending u pairs (few_rules x) c.loop-l.l))
    c.in_err-count.was
    c.args.labels
    c.loop-l-test.true
    labels)

pub loop-l-preserved : goal.loop-l-preserved
loop-l-preserved c =
    let pairs = member c.args.pairs.words 0 in (
      c.put_some.ensures.1 _ c.in_ok-count.was,
      λ old add u x.
          let s = c.loop-l.invariant.1 old add u x in
          up_more u pairs c.args.most c.loop-l.l _ _
          (c.put_some.ensures.0 _ _ s.2 s.0 (c.labelled_pairs-set.ensures.0 old add u x) (labelled_ascending u pairs (few_rules x) c.loop-l.l))
          _
          c.in_ok-count.was,
    )

pub returns : goal.returns
returns c =
    λ old add u x labels.
    let e : c.loop-l.l ≡ length u.labels = omega arith in
    subst (λ (s : List TypeSet). SetsCounted c.args.most c.loop-l.words s (Some c.loop-l.count))
    (up_whole u (member c.args.pairs.words 0) c.loop-l.l e)
    (c.loop-l.invariant.1 old add u x)
