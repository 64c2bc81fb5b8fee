-- `type_text` meets its contract. The loop's invariant: the nodes of the type among those passed hold no text.
use Rattle.sequences.proofs.TextLaws.{NoText}
use Rattle.sequences.proofs.texts.type_text.Given as goal

abbrev pub invariant-loop-i : goal.invariant-loop-i
invariant-loop-i l = NoText l.shapes l.types l.k l.i
