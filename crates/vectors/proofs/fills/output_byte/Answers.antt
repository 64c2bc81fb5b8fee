-- `fills::output_byte` meets its contract.
use Rattle.vectors.proofs.FillLaws.{output_byte_small}
use Rattle.vectors.proofs.fills.output_byte.Goals as goal

pub returns : goal.returns
returns c = output_byte_small _
