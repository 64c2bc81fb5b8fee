-- `tables::read_table` meets its contract.
use Rattle.grammar.specs.declared.Refusal.TheVariants.{InputTooLong}
use Rattle.reader.proofs.AnswerLaws.{unreadable}
use Rattle.reader.proofs.TableReading.{table_too_long, table_by_fields}
use Rattle.reader.proofs.TableSteps.{refused_reads, reads_as}
use Rattle.reader.proofs.tables.read_table.Goals as goal

pub returns-then-s-gt-INPUT : goal.returns-then-s-gt-INPUT
returns-then-s-gt-INPUT c =
    refused_reads _ _ InputTooLong _ (unreadable _ InputTooLong (table_too_long c.args.limits c.args.classes.now c.args.s.now c.if-s-gt-INPUT.true))

pub returns : goal.returns
returns c =
    reads_as (table_by_fields c.args.limits c.args.classes.now c.args.s.now c.if-s-gt-INPUT.false) c.read_fields.ensures
