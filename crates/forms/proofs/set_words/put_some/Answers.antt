-- `put_some` meets its contract.
use mathlib.Core.List.{List}
use mathlib.Core.Path.{subst}
use Rattle.grammar.specs.SingleTypeForm.{TypeSet}
use Rattle.forms.specs.SetWords.{SetsCounted}
use Rattle.forms.proofs.SetWordLaws.{none_put, some_put, few_put}
use Rattle.forms.proofs.set_words.put_some.Goals as goal

pub returns-then-is_empty : goal.returns-then-is_empty
returns-then-is_empty c = (
  λ sets s held counted is ascending.
      none_put held c.args.count counted c.args.set.words (record { is = is; ascending = ascending })
      c.args.most c.requires.1.few _ c.if-is_empty.true c.is_empty.ensures,
  few_put c.args.most c.args.count c.requires.1.few,
)

pub returns : goal.returns
returns c = (
  λ sets s held counted is ascending.
      subst (λ (l : List TypeSet). SetsCounted c.args.most c.put_set.new.words l c.put_set.result)
      (some_put held c.args.count counted c.args.set.words (record { is = is; ascending = ascending }) _ c.if-is_empty.false
      c.is_empty.ensures)
      (c.put_set.ensures.0 sets s held counted is ascending),
  c.put_set.ensures.1,
)
