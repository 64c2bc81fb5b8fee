-- `put_name` meets its contract.
use native.Mathlib.Omega.{arith}
use mathlib.Core.Path.{ap}
use lib.ListN.{length}
use Rattle.lister_lines.proofs.PrintSteps.{put_as}
use Rattle.lister_lines.proofs.LineLaws.{name_stands, name_size}
use Rattle.lister_lines.proofs.lines.put_name.Goals as goal

pub slice_bounds-put_bytes-count : goal.slice_bounds-put_bytes-count
slice_bounds-put_bytes-count c =
    let w = (name_stands c.requires.0 _ c.requires.1 c.label_from-from.ensures c.label_to-to.ensures).inside.order in
    omega arith

pub slice_bounds-put_bytes-start : goal.slice_bounds-put_bytes-start
slice_bounds-put_bytes-start c =
    let w = (name_stands c.requires.0 _ c.requires.1 c.label_from-from.ensures c.label_to-to.ensures).inside in
    omega arith

pub slice_bounds-put_bytes-end : goal.slice_bounds-put_bytes-end
slice_bounds-put_bytes-end c =
    let w = (name_stands c.requires.0 _ c.requires.1 c.label_from-from.ensures c.label_to-to.ensures).inside in
    omega arith

pub put_bytes-requires : goal.put_bytes-requires
put_bytes-requires c =
    let from = c.label_from-from.ensures in
    let to = c.label_to-to.ensures in
    let l = ap length (name_stands c.requires.0 _ c.requires.1 from to).bytes_are in
    let n = name_size c.requires.0 _ c.requires.1 in
    omega arith

pub returns : goal.returns
returns c =
    let from = c.label_from-from.ensures in
    let to = c.label_to-to.ensures in
    let p = c.put_bytes.ensures in
    let l = ap length (name_stands c.requires.0 _ c.requires.1 from to).bytes_are in
    let n = name_size c.requires.0 _ c.requires.1 in
    let e = p.next_is in
    record { put = λ f. put_as (name_stands f _ c.requires.1 from to).bytes_are p; short = omega arith }
