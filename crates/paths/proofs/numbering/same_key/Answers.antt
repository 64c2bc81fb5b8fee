-- `same_key` meets its contract.
use mathlib.Core.Path.{◌∙◌}
use lib.ListN.{get_or}
use Rattle.paths.proofs.FillLaws.{key_differs, key_agrees}
use Rattle.paths.proofs.numbering.same_key.Goals as goal

pub returns-then-keys-i : goal.returns-then-keys-i
returns-then-keys-i c = key_differs _ _ _ c.if-keys-i.true

pub returns : goal.returns
returns c =
    c.same_name.ensures
    ∙ key_agrees _ _ c.args.s.now (get_or c.args.names.now c.args.i 0) (get_or c.args.sizes.now c.args.i 0) (get_or c.args.names.now c.args.j 0)
    (get_or c.args.sizes.now c.args.j 0) c.if-keys-i.false
