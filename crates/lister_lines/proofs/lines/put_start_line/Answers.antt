-- `put_start_line` meets its contract.
use native.Mathlib.Omega.{arith}
use Rattle.grammar.specs.Listing.{start_line}
use Rattle.writer.proofs.PutLaws.{put_join}
use Rattle.lister_lines.proofs.DecimalLaws.{type_size}
use Rattle.lister_lines.proofs.lines.put_start_line.Goals as goal

pub put_type-end-requires : goal.put_type-end-requires
put_type-end-requires c =
    let n = type_size c.args.k c.requires.0 in
    omega arith

pub put_byte-requires : goal.put_byte-requires
put_byte-requires c =
    let n = type_size c.args.k c.requires.0 in
    omega arith

pub returns : goal.returns
unfolding start_line
returns c = put_join (put_join c.put_bytes-behind.ensures c.put_type-end.ensures) c.put_byte.ensures
