-- `elements::read_tags` meets its contract.
use native.Mathlib.Omega.{arith}
use mathlib.Core.Path.{refl, sym, ◌∙◌, ap}
use lib.ListN.{length-set}
use Rattle.std.specs.Int.{from_bool}
use Rattle.std.specs.Prelude.{◌≤◌, Bool, true, false, Err}
use Rattle.grammar.specs.declared.Refusal.TheVariants.{BadText, BadEndTag}
use Rattle.reader.proofs.AnswerLaws.{handed_on}
use Rattle.documents.specs.DocumentNodes.{nodes_in, outcome_of}
use Rattle.documents.proofs.TextPlaces.{closed_some}
use Rattle.documents.proofs.TextLoop.{stopped, text_begins, few_levels, innermost_held, innermost_shape, text_ends, text_stray, text_unclosed, text_closed, text_refused, text_element, node_room, level_room, shape_room}
use Rattle.documents.proofs.elements.read_tags.Goals as goal

bool_small : (b : Bool) → from_bool b ≤ 1
bool_small false = omega arith
bool_small true = omega arith

pub loop-tag-init : goal.loop-tag-init
loop-tag-init c =
    let room = c.args.limits.nodes_fit in
    (text_begins refl room _ refl (omega arith) (omega arith) (omega arith), refl)

pub tag_at-requires : goal.tag_at-requires
tag_at-requires c = c.loop-tag.invariant.0.reached

pub returns-in_err-tag : goal.returns-in_err-tag
returns-in_err-tag c =
    rw (handed_on _ c.from_residual.ensures, c.in_err-tag.ensures.0)
    (stopped refl c.args.limits.nodes_fit c.loop-tag.invariant.0 c.requires.s_len_bound (Err BadText)
    (text_stray refl c.args.limits.nodes_fit c.loop-tag.invariant.0 c.in_err-tag.ensures.1))

pub closes-requires : goal.closes-requires
closes-requires c =
    let deep = few_levels refl c.args.limits.nodes_fit c.loop-tag.invariant.0 in
    (omega arith, innermost_held refl c.args.limits.nodes_fit c.loop-tag.invariant.0)

pub returns-then-not-closes : goal.returns-then-not-closes
returns-then-not-closes c =
    let says = rw (c.in-Some.is, c.in-End.is) at c.in_ok-tag.ensures in
    stopped refl c.args.limits.nodes_fit c.loop-tag.invariant.0 c.requires.s_len_bound (Err BadEndTag)
    (text_unclosed refl c.args.limits.nodes_fit c.loop-tag.invariant.0 c.in-End.from c.in-End.to c.in-End.next says (sym c.closes.ensures ∙ c.if-not-closes.true))

pub loop-tag-smaller-in-End : goal.loop-tag-smaller-in-End
loop-tag-smaller-in-End c =
    let says = rw (c.in-Some.is, c.in-End.is) at c.in_ok-tag.ensures in
    let p = says.0 in
    let forward = p.forward in
    let order = p.order in
    let ends = p.ends in
    let within = p.within in
    omega arith

pub loop-tag-preserved-in-End : goal.loop-tag-preserved-in-End
loop-tag-preserved-in-End c =
    let says = rw (c.in-Some.is, c.in-End.is) at c.in_ok-tag.ensures in
    let shut = sym c.closes.ensures ∙ c.if-not-closes.false in
    (text_closed refl c.args.limits.nodes_fit c.loop-tag.invariant.0 c.in-End.from c.in-End.to c.in-End.next says shut (closed_some c.args.s.now c.loop-tag.index.names c.loop-tag.index.sizes c.loop-tag.places c.loop-tag.depth _ shut), c.loop-tag.invariant.1)

pub is_full-full-requires : goal.is_full-full-requires
is_full-full-requires c =
    let deep = few_levels refl c.args.limits.nodes_fit c.loop-tag.invariant.0 in
    (omega arith, innermost_shape refl c.args.limits.nodes_fit c.loop-tag.invariant.0)

pub returns-in_err-element_answer-in-Element : goal.returns-in_err-element_answer-in-Element
returns-in_err-element_answer-in-Element c =
    let says = rw (c.in-Some.is, c.in-Element.is) at c.in_ok-tag.ensures in
    rw (handed_on _ c.from_residual-in_err-element_answer-in-Element.ensures)
    (stopped refl c.args.limits.nodes_fit c.loop-tag.invariant.0 c.requires.s_len_bound (Err c.in_err-element_answer-in-Element.field-0.0)
    (text_refused refl c.args.limits.nodes_fit c.loop-tag.invariant.0 c.in-Element.from c.in-Element.to c.in-Element.next c.in-Element.stays says c.is_full-full.result c.is_full-full.ensures c.element_answer.result c.element_answer.ensures _ c.in_err-element_answer-in-Element.was))

pub count_child-requires : goal.count_child-requires
count_child-requires c =
    let says = rw (c.in-Some.is, c.in-Element.is) at c.in_ok-tag.ensures in
    let deep = few_levels refl c.args.limits.nodes_fit c.loop-tag.invariant.0 in
    (omega arith, λ h. (innermost_shape refl c.args.limits.nodes_fit c.loop-tag.invariant.0 h, shape_room refl c.args.limits.nodes_fit c.loop-tag.invariant.0 c.in-Element.from c.in-Element.to c.in-Element.next c.in-Element.stays says c.is_full-full.result c.is_full-full.ensures c.element_answer.result c.element_answer.ensures c.in_ok-element_answer-in-Element.was h))

pub put_node-requires-clause-nodes_in_bounds : goal.put_node-requires-clause-nodes_in_bounds
put_node-requires-clause-nodes_in_bounds c =
    let says = rw (c.in-Some.is, c.in-Element.is) at c.in_ok-tag.ensures in
    let room = node_room refl c.args.limits.nodes_fit c.loop-tag.invariant.0 c.in-Element.from c.in-Element.to c.in-Element.next c.in-Element.stays says c.is_full-full.result c.is_full-full.ensures c.element_answer.result c.element_answer.ensures c.in_ok-element_answer-in-Element.was in
    omega arith

pub overflow_cast-places : goal.overflow_cast-places
overflow_cast-places c =
    let says = rw (c.in-Some.is, c.in-Element.is) at c.in_ok-tag.ensures in
    let room = node_room refl c.args.limits.nodes_fit c.loop-tag.invariant.0 c.in-Element.from c.in-Element.to c.in-Element.next c.in-Element.stays says c.is_full-full.result c.is_full-full.ensures c.element_answer.result c.element_answer.ensures c.in_ok-element_answer-in-Element.was in
    omega arith

pub bounds-places-depth : goal.bounds-places-depth
bounds-places-depth c =
    let says = rw (c.in-Some.is, c.in-Element.is) at c.in_ok-tag.ensures in
    let room = level_room refl c.args.limits.nodes_fit c.loop-tag.invariant.0 c.in-Element.from c.in-Element.to c.in-Element.next c.in-Element.stays says c.is_full-full.result c.is_full-full.ensures c.element_answer.result c.element_answer.ensures c.in_ok-element_answer-in-Element.was in
    omega arith

pub overflow_add-depth : goal.overflow_add-depth
overflow_add-depth c =
    let deep = few_levels refl c.args.limits.nodes_fit c.loop-tag.invariant.0 in
    let one = bool_small c.in-Element.stays in
    omega arith

pub loop-tag-smaller : goal.loop-tag-smaller
loop-tag-smaller c =
    let says = rw (c.in-Some.is, c.in-Element.is) at c.in_ok-tag.ensures in
    let p = says.0 in
    let forward = p.forward in
    let order = p.order in
    let ends = p.ends in
    let within = p.within in
    omega arith

pub loop-tag-preserved : goal.loop-tag-preserved
loop-tag-preserved c =
    let says = rw (c.in-Some.is, c.in-Element.is) at c.in_ok-tag.ensures in
    let room = level_room refl c.args.limits.nodes_fit c.loop-tag.invariant.0 c.in-Element.from c.in-Element.to c.in-Element.next c.in-Element.stays says c.is_full-full.result c.is_full-full.ensures c.element_answer.result c.element_answer.ensures c.in_ok-element_answer-in-Element.was in
    rw c.from-depth.ensures
    ((text_element refl c.args.limits.nodes_fit c.loop-tag.invariant.0 c.in-Element.from c.in-Element.to c.in-Element.next c.in-Element.stays says c.is_full-full.result c.is_full-full.ensures c.element_answer.result c.element_answer.ensures c.in_ok-element_answer-in-Element.was (let long = c.loop-tag.invariant.1 in omega arith) c.count_child.ensures c.put_node.ensures), length-set c.loop-tag.places c.loop-tag.depth _ ∙ c.loop-tag.invariant.1)

pub returns : goal.returns
returns c =
    let none = rw c.in_default.is at c.in_ok-tag.ensures in
    stopped refl c.args.limits.nodes_fit c.loop-tag.invariant.0 c.requires.s_len_bound c.text_end.result
    (text_ends refl c.args.limits.nodes_fit c.loop-tag.invariant.0 none ∙ ap (λ a. outcome_of a (nodes_in c.args.s.now c.loop-tag.index)) (sym c.text_end.ensures))
