-- `put_rule_content` meets its contract.
use native.Mathlib.Omega.{arith}
use Rattle.lister_lines.proofs.LineLaws.{content_stands, content_asks, content_put, content_size}
use Rattle.lister_lines.proofs.lines.put_rule_content.Goals as goal

pub slice_bounds-put_content-count : goal.slice_bounds-put_content-count
slice_bounds-put_content-count c =
    let w = (content_stands c.requires.0 _ c.requires.1 c.content_from-from.ensures c.content_to-to.ensures).inside.order in
    omega arith

pub slice_bounds-put_content-start : goal.slice_bounds-put_content-start
slice_bounds-put_content-start c =
    let w = (content_stands c.requires.0 _ c.requires.1 c.content_from-from.ensures c.content_to-to.ensures).inside in
    omega arith

pub slice_bounds-put_content-end : goal.slice_bounds-put_content-end
slice_bounds-put_content-end c =
    let w = (content_stands c.requires.0 _ c.requires.1 c.content_from-from.ensures c.content_to-to.ensures).inside in
    omega arith

pub put_content-ends-requires : goal.put_content-ends-requires
put_content-ends-requires c =
    let from = c.content_from-from.ensures in
    let to = c.content_to-to.ensures in
    content_asks c.requires.0 _ c.requires.1 from to c.requires.2

pub returns : goal.returns
returns c =
    let from = c.content_from-from.ensures in
    let to = c.content_to-to.ensures in
    let walk = c.put_content-ends.ensures in
    let p = content_put c.requires.0 _ c.requires.1 from to c.requires.2 walk in
    let n = content_size c.requires.0 _ c.requires.1 in
    let e = p.next_is in
    record { put = λ f. content_put f _ c.requires.1 from to c.requires.2 walk; short = omega arith }
