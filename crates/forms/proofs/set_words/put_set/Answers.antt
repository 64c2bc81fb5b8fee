-- `put_set` meets its contract.
use Prim.Native.Nat.{◌+◌}
use native.Mathlib.Omega.{arith}
use Rattle.forms.proofs.SetWordLaws.{sets_put, sets_full, few_put, few_many}
use Rattle.forms.proofs.set_words.put_set.Goals as goal

pub returns-then-count-most : goal.returns-then-count-most
returns-then-count-most c = (
  λ sets s held counted is ascending.
      sets_full held c.args.count counted c.args.set.words (record { is = is; ascending = ascending })
      c.args.most c.if-count-most.true,
  few_many c.args.most,
)

pub returns : goal.returns
returns c = (
  λ sets s held counted is ascending.
      sets_put held c.args.count counted c.args.set.words (record { is = is; ascending = ascending })
      (omega arith) c.args.most (omega arith) c.requires.0 _
      c.store.ensures,
  few_put c.args.most (c.args.count + 1) (omega arith),
)
