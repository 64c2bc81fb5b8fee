-- `add_set` meets its contract.
use mathlib.Core.List.{List}
use mathlib.Core.Path.{subst}
use Rattle.grammar.specs.SingleTypeForm.{TypeSet}
use Rattle.forms.specs.SetWords.{SetsCounted}
use Rattle.forms.proofs.SetWordLaws.{old_put, new_put, few_put}
use Rattle.forms.proofs.set_words.add_set.Goals as goal

pub returns-then-set_number-count : goal.returns-then-set_number-count
returns-then-set_number-count c = (
  λ sets s held counted is ascending once.
      old_put held c.args.count counted c.args.set.words (record { is = is; ascending = ascending })
      once c.args.most c.requires.1.few c.set_number.result
      (c.set_number.ensures.0 sets s held counted is ascending) c.if-set_number-count.true,
  few_put c.args.most c.args.count c.requires.1.few,
)

pub returns : goal.returns
returns c = (
  λ sets s held counted is ascending once.
      subst (λ (l : List TypeSet). SetsCounted c.args.most c.put_set.new.words l c.put_set.result)
      (new_put held c.args.count counted c.args.set.words (record { is = is; ascending = ascending }) once
      c.set_number.result
      (c.set_number.ensures.0 sets s held counted is ascending) c.if-set_number-count.false)
      (c.put_set.ensures.0 sets s held counted is ascending),
  c.put_set.ensures.1,
)
