-- `refusal_line` meets its contract.
use Prim.Native.Nat.{ℕ}
use native.Mathlib.Omega.{arith}
use mathlib.Core.List.{◌++◌}
use mathlib.Core.Path.{subst}
use Rattle.grammar.specs.Ascii.{ascii}
use Rattle.grammar.specs.Listing.{decimal, refusal_line}
use Rattle.writer.specs.Writing.{Put}
use Rattle.writer.proofs.PutLaws.{put_join}
use Rattle.lister_lines.proofs.DecimalLaws.{decimal_size, number_small}
use Rattle.lister_lines.proofs.lines.refusal_line.Goals as goal

pub put_decimal-end-requires : goal.put_decimal-end-requires
put_decimal-end-requires c =
    let s = number_small c.args.refusal in
    let n = decimal_size c.number_of.result (omega arith) in
    omega arith

pub put_byte-requires : goal.put_byte-requires
put_byte-requires c =
    let s = number_small c.args.refusal in
    let n = decimal_size c.number_of.result (omega arith) in
    omega arith

pub returns : goal.returns
unfolding refusal_line
returns c =
    subst (λ (k : ℕ). Put c.args.text.now 0 (ascii "refused " ++ decimal k ++ ascii "\n") c.put_byte.new.text c.put_byte.result)
    c.number_of.ensures
    (put_join (put_join c.put_bytes-number.ensures c.put_decimal-end.ensures) c.put_byte.ensures)
