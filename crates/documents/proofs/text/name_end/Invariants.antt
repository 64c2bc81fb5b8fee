-- `text::name_end` meets its contract. The loop's invariant: the bytes up to `i` are in the name.
use Rattle.documents.proofs.TextReading.{Inside}
use Rattle.documents.proofs.text.name_end.Given as goal

abbrev pub invariant-loop-i : goal.invariant-loop-i
invariant-loop-i l = Inside l.s l.from l.i
