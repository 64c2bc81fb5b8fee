-- `documents::read_document` meets its contract: the input's length comes first.
use native.Mathlib.Omega.{arith}
use Rattle.grammar.specs.LimitSets.{limits_of}
use Rattle.documents.proofs.DocumentLengths.{document_long}
use Rattle.documents.proofs.documents.read_document.Goals as goal

pub returns-then-s-gt-INPUT : goal.returns-then-s-gt-INPUT
returns-then-s-gt-INPUT c =
    record {
      outcome = document_long (limits_of c.args.limits) c.args.classes.now c.args.format c.args.s.now c.if-s-gt-INPUT.true;
      few = omega arith;
      indexed = record { few = omega arith; within = λ i h. absurd (omega arith); counts = λ i h. absurd (omega arith) };
    }
