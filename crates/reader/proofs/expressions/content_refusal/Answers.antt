-- `content_refusal` meets its contract: what the walk from the first byte finds settles how the content reads.
use mathlib.Core.Path.{sym, ◌∙◌, ap}
use Rattle.grammar.specs.Limits.{limits_for}
use Rattle.reader.specs.Extents.{content_answer}
use Rattle.reader.proofs.ExtentLaws.{read_none, read_left, read_deep, read_fine}
use Rattle.reader.proofs.expressions.content_refusal.Goals as goal

pub returns-then-found-content : goal.returns-then-found-content
returns-then-found-content c nodes levels words =
    let lim = limits_for c.args.types nodes levels words in
    let s = c.args.content.now in
    let found = sym (c.expression.ensures nodes levels words) ∙ c.in-Some.is in
    sym (ap content_answer (read_left lim s _ _ found c.if-found-content.true))

pub returns-then-found-gt-NESTING : goal.returns-then-found-gt-NESTING
returns-then-found-gt-NESTING c nodes levels words =
    let lim = limits_for c.args.types nodes levels words in
    let s = c.args.content.now in
    let found = sym (c.expression.ensures nodes levels words) ∙ c.in-Some.is in
    sym (ap content_answer (read_deep lim s _ _ found c.if-found-content.false c.if-found-gt-NESTING.true))

pub returns-in-None : goal.returns-in-None
returns-in-None c nodes levels words =
    let lim = limits_for c.args.types nodes levels words in
    let s = c.args.content.now in
    sym (ap content_answer (read_none lim s (sym (c.expression.ensures nodes levels words) ∙ c.in-None.is)))

pub returns-else-found-gt-NESTING : goal.returns-else-found-gt-NESTING
returns-else-found-gt-NESTING c nodes levels words =
    let lim = limits_for c.args.types nodes levels words in
    let s = c.args.content.now in
    let found = sym (c.expression.ensures nodes levels words) ∙ c.in-Some.is in
    sym (ap content_answer (read_fine lim s _ _ found c.if-found-content.false c.if-found-gt-NESTING.false).1)
