-- `tables::end_answer` meets its contract.
use mathlib.Core.Path.{sym}
use Rattle.reader.proofs.TableReading.{end_with_value, end_with_more, end_reads}
use Rattle.reader.proofs.tables.end_answer.Goals as goal

pub returns-then-from-to : goal.returns-then-from-to
returns-then-from-to c = λ g. sym (end_with_value c.args.s.now c.args.from c.args.to c.requires g c.if-from-to.true)

pub returns-then-to-size : goal.returns-then-to-size
returns-then-to-size c = λ g. sym (end_with_more c.args.s.now c.args.from c.args.to c.requires g c.if-from-to.false c.if-to-size.true)

pub returns : goal.returns
returns c = λ g. sym (end_reads c.args.s.now c.args.from c.args.to c.requires g c.if-from-to.false c.if-to-size.false)
