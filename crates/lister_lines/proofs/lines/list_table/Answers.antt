-- `list_table` meets its contract.
use native.Mathlib.Omega.{arith}
use Rattle.grammar.specs.Listing.{local_text}
use Rattle.writer.proofs.PutLaws.{put_join}
use Rattle.lister_lines.proofs.lines.list_table.Goals as goal

pub returns : goal.returns
unfolding local_text
returns c =
    let first = c.put_bytes-starts.ensures in
    let a = first.next_is in
    record { put = λ f. put_join (put_join first (c.put_starts-rules.ensures.put f)) (c.put_rules.ensures.put f); short = omega arith }
