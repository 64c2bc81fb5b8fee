-- `classes::classes_load` meets its contract: the rules one by one.
use Rattle.std.proofs.Common.{sym, ◌∙◌}
use Rattle.grammar.specs.Ascii.{ascii}
use Rattle.basis.proofs.LoadedClasses.{by_marks}
use Rattle.basis.proofs.classes.classes_load.Goals as goal

pub returns : goal.returns
unfolding ascii
returns c =
    c.zero_for.ensures
    ∙ by_marks c.args.classes.now c.if-classes-ne256.false
    (sym c.none_above_two.ensures ∙ c.if-not-none_above_two.false)
    (sym c.some_two.ensures ∙ c.if-not-some_two.false)
    (sym c.zero_below.ensures ∙ c.if-not-zero_below.false)
