-- `documents::read_fields` meets its contract.
use native.Mathlib.Omega.{arith}
use mathlib.Core.Path.{refl}
use Rattle.std.specs.Prelude.{Ok, Err}
use Rattle.reader.proofs.AnswerLaws.{handed_on}
use Rattle.documents.proofs.DocumentLoop.{so_far_none, so_far_put, so_far_stop}
use Rattle.documents.proofs.documents.read_fields.Goals as goal

pub loop-node-init : goal.loop-node-init
loop-node-init c =
    let room = c.args.limits.nodes_fit in
    so_far_none room _ c.requires.no_nodes (omega arith) (omega arith) (omega arith) refl

pub returns-in_err-node : goal.returns-in_err-node
returns-in_err-node c =
    rw (handed_on _ c.from_residual.ensures)
    (so_far_stop c.args.limits.nodes_fit c.loop-node.invariant c.requires.s_len_bound (Err c.in_err-node.field-0.0) c.in_err-node.ensures)

pub after_node-depth-requires : goal.after_node-depth-requires
after_node-depth-requires c =
    let n = rw c.in-Some.is at c.in_ok-node.ensures in
    let level = n.level in
    (n.some_level, omega arith, c.loop-node.invariant.levels_open)

pub loop-node-smaller : goal.loop-node-smaller
loop-node-smaller c =
    let n = rw c.in-Some.is at c.in_ok-node.ensures in
    let forward = n.forward in
    let order = n.order in
    let within = n.within in
    omega arith

pub loop-node-preserved : goal.loop-node-preserved
loop-node-preserved c =
    let n = rw c.in-Some.is at c.in_ok-node.ensures in
    so_far_put c.args.limits.nodes_fit c.loop-node.invariant
    c.in-Some.node.from c.in-Some.node.to c.in-Some.node.shape n c.after_node-depth.ensures c.put_node.ensures

pub returns : goal.returns
returns c = so_far_stop c.args.limits.nodes_fit c.loop-node.invariant c.requires.s_len_bound (Ok tt) (rw c.in_default.is at c.in_ok-node.ensures)
