-- `read_and_sample` meets its contract: the refusal of the document, else its sample.
use native.Mathlib.Omega.{arith}
use Rattle.theory.proofs.Bytes.ClassLaws.{all_classed}
use Rattle.reader.proofs.AnswerLaws.{handed_on}
use Rattle.drafting.proofs.DraftLaws as laws
use Rattle.drafting.proofs.drafting.read_and_sample.Goals as goal

pub read_document-requires : goal.read_document-requires
read_document-requires c =
    let all = all_classed c.args.classes.now c.requires.loads in record { in_bounds = omega arith }

pub returns-in_err-read_document : goal.returns-in_err-read_document
returns-in_err-read_document c =
    rw (handed_on c.from_residual.result c.from_residual.ensures)
    (laws.document_refuses c.args.limits c.args.classes.now c.args.format c.args.document.now c.read_document.new.index c.read_document.result c.read_document.ensures _ _ c.in_err-read_document.was)

pub sample_table-requires : goal.sample_table-requires
sample_table-requires c =
    record { input_limit_in_bounds = (c.requires.within, laws.nodes_indexed c.args.limits c.args.classes.now c.args.format c.args.document.now c.read_document.new.index c.read_document.result c.read_document.ensures c.in_ok-read_document.was) }

pub returns-in_err-sample_table : goal.returns-in_err-sample_table
returns-in_err-sample_table c =
    rw (handed_on c.from_residual-in_err-sample_table.result c.from_residual-in_err-sample_table.ensures)
    (laws.sample_too_large c.args.limits c.args.classes.now c.args.format c.args.document.now c.read_document.new.index c.read_document.result c.read_document.ensures c.in_ok-read_document.was c.args.draft.now _ c.sample_table.result c.sample_table.ensures c.in_err-sample_table.was)

pub returns : goal.returns
returns c =
    laws.sample_made c.args.limits c.args.classes.now c.args.format c.args.document.now c.read_document.new.index c.read_document.result c.read_document.ensures c.in_ok-read_document.was c.args.draft.now _ c.sample_table.result c.sample_table.ensures _ c.in_ok-sample_table.was
