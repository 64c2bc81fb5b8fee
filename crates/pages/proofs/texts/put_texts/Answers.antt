-- `put_texts` meets its contract.
use native.Mathlib.Omega.{arith}
use mathlib.Core.Path.{◌∙◌}
use Rattle.reader.proofs.TableFoundLaws.{rule_found_at}
use Rattle.union.specs.PairNumbers.{rule_numbered}
use Rattle.lister_lines.proofs.LineLaws.{rule_type_is, rule_type_size, rule_label_is}
use Rattle.pages.proofs.TextLaws.{texts_stand, rule_texts}
use Rattle.pages.proofs.texts.put_texts.Goals as goal

pub put_type-name-requires : goal.put_type-name-requires
put_type-name-requires c =
    let n = rule_type_size c.requires.0 _ c.requires.1 c.rule_type.ensures in
    omega arith

pub put_name-content-requires : goal.put_name-content-requires
put_name-content-requires c =
    let label = (rule_found_at c.requires.0.held.indexes c.requires.0.held.within _ c.requires.1).label_below in
    let n = rule_type_size c.requires.0 _ c.requires.1 c.rule_type.ensures in
    (c.requires.0, omega arith, omega arith)

pub put_rule_content-mark-requires : goal.put_rule_content-mark-requires
put_rule_content-mark-requires c =
    let n = rule_type_size c.requires.0 _ c.requires.1 c.rule_type.ensures in
    (c.requires.0, c.requires.1, omega arith)

pub put_rule_mark-end-requires : goal.put_rule_mark-end-requires
put_rule_mark-end-requires c =
    let n = rule_type_size c.requires.0 _ c.requires.1 c.rule_type.ensures in
    (c.requires.0, c.requires.1, omega arith)

pub returns : goal.returns
returns c =
    let h = c.requires.1 in
    let e = c.rule_type.ensures in
    let m = c.rule_label.ensures in
    let n = rule_type_size c.requires.0 _ h e in
    let typed = c.put_type-name.ensures in
    let a1 = typed.next_is in
    λ f.
    rule_texts f.table (rule_numbered f.table c.args.i) _ _ (e ∙ rule_type_is f _ h) (m ∙ rule_label_is f _ h)
    (texts_stand _ _ _ _ typed (c.put_name-content.ensures.put f) (c.put_rule_content-mark.ensures.put f) (c.put_rule_mark-end.ensures.put f) (omega arith))
