-- `add_met` meets its contract. The loop's invariant: the sets of the pairs met before `i` are added.
use native.Mathlib.Omega.{arith}
use mathlib.Core.List.{List}
use mathlib.Core.Path.{sym, ◌∙◌, ap, subst}
use Rattle.grammar.specs.SingleTypeForm.{TypeSet}
use Rattle.sets.specs.Sets.{member}
use Rattle.union.specs.View.{label_in}
use Rattle.std.specs.Prelude.{Some}
use Rattle.forms.specs.SetWords.{SetsCounted}
use Rattle.forms.specs.Worklist.{sets_within}
use Rattle.forms.specs.SetForms.{pairs_labelled}
use Rattle.forms.proofs.LabelLaws.{few_rules}
use Rattle.forms.proofs.SetsFound.{labelled_ascending}
use Rattle.forms.proofs.SetWordLaws.{few_put, few_many}
use Rattle.forms.proofs.WorklistLaws.{set_given, up_none, up_once, up_more, up_many, up_all}
use Rattle.forms.proofs.worklist.add_met.Goals as goal

pub loop-i-init : goal.loop-i-init
loop-i-init c = (
  c.requires.3,
  λ old add u sets s x held counted once met.
      subst (λ (l : List TypeSet). SetsCounted c.args.most c.args.words.now l (Some c.args.count))
      (sym (up_none sets (sets_within u s) once))
      (counted, c.requires.3, held),
)

pub returns-in_err-total : goal.returns-in_err-total
returns-in_err-total c =
    let all = member c.set_of-all.result.words 0 in (
      λ old add u sets s x held counted once met.
          let up = c.loop-i.invariant.1 old add u sets s x held counted once met in
          rw c.from_residual.ensures
          (up_many x s c.args.found.numbers c.args.found.count met c.requires.2.once.held c.args.most sets c.loop-i.i c.loop-i-test.true _ _
          (pairs_labelled u all c.from.result)
          (ap (pairs_labelled u all) (c.from.ensures ∙ ap (label_in c.args.v) c.from-p.ensures)
          ∙ set_given x s c.args.found.numbers c.args.found.count met c.requires.2.once.held c.set_of-all.result.words c.set_of-all.ensures.0
          c.loop-i.i c.loop-i-test.true)
          (c.add_set.ensures.0 _ _ up.2 up.0 (c.labelled_pairs-set.ensures.0 old add u x)
          (labelled_ascending u all (few_rules x) c.from.result) (up_once sets (sets_within u s) c.loop-i.i))
          c.in_err-total.was),
      rw c.from_residual.ensures (few_many c.args.most),
    )

pub loop-i-preserved : goal.loop-i-preserved
loop-i-preserved c =
    let all = member c.set_of-all.result.words 0 in
    let h = c.loop-i-test.true in (
      c.add_set.ensures.1 _ c.in_ok-total.was,
      λ old add u sets s x held counted once met.
          let up = c.loop-i.invariant.1 old add u sets s x held counted once met in
          up_more x s c.args.found.numbers c.args.found.count met c.requires.2.once.held c.args.most sets c.loop-i.i h _ _
          (pairs_labelled u all c.from.result)
          (ap (pairs_labelled u all) (c.from.ensures ∙ ap (label_in c.args.v) c.from-p.ensures)
          ∙ set_given x s c.args.found.numbers c.args.found.count met c.requires.2.once.held c.set_of-all.result.words c.set_of-all.ensures.0
          c.loop-i.i h)
          (c.add_set.ensures.0 _ _ up.2 up.0 (c.labelled_pairs-set.ensures.0 old add u x)
          (labelled_ascending u all (few_rules x) c.from.result) (up_once sets (sets_within u s) c.loop-i.i))
          _
          c.in_ok-total.was,
    )

pub returns : goal.returns
returns c = (
  λ old add u sets s x held counted once met.
      subst (λ (r : List TypeSet). SetsCounted c.args.most c.loop-i.words r (Some c.loop-i.total))
      (up_all x s c.args.found.numbers c.args.found.count met c.requires.2.once.held sets c.loop-i.i (omega arith))
      (c.loop-i.invariant.1 old add u sets s x held counted once met),
  few_put c.args.most c.loop-i.total c.loop-i.invariant.0,
)
