-- `put_rule_line` meets its contract: the parts of the line are written one after the other.
use native.Mathlib.Omega.{arith}
use mathlib.Core.Path.{◌∙◌}
use Rattle.reader.proofs.TableFoundLaws.{rule_found_at}
use Rattle.union.specs.PairNumbers.{rule_numbered}
use Rattle.writer.proofs.PutLaws.{put_join}
use Rattle.lister_lines.proofs.LineLaws.{rule_type_is, rule_type_size, rule_label_is, line_joined}
use Rattle.lister_lines.proofs.lines.put_rule_line.Goals as goal

pub put_type-typed-requires : goal.put_type-typed-requires
put_type-typed-requires c =
    let n = rule_type_size c.requires.0 _ c.requires.1 c.rule_type.ensures in
    omega arith

pub put_byte-name-requires : goal.put_byte-name-requires
put_byte-name-requires c =
    let n = rule_type_size c.requires.0 _ c.requires.1 c.rule_type.ensures in
    omega arith

pub put_name-named-requires : goal.put_name-named-requires
put_name-named-requires c =
    let label = (rule_found_at c.requires.0.held.indexes c.requires.0.held.within _ c.requires.1).label_below in
    let n = rule_type_size c.requires.0 _ c.requires.1 c.rule_type.ensures in
    (c.requires.0, omega arith, omega arith)

pub put_byte-content-requires : goal.put_byte-content-requires
put_byte-content-requires c =
    let n = rule_type_size c.requires.0 _ c.requires.1 c.rule_type.ensures in
    omega arith

pub put_rule_content-mark-requires : goal.put_rule_content-mark-requires
put_rule_content-mark-requires c =
    let n = rule_type_size c.requires.0 _ c.requires.1 c.rule_type.ensures in
    (c.requires.0, c.requires.1, omega arith)

pub put_rule_mark-end-requires : goal.put_rule_mark-end-requires
put_rule_mark-end-requires c =
    let n = rule_type_size c.requires.0 _ c.requires.1 c.rule_type.ensures in
    (c.requires.0, c.requires.1, omega arith)

pub put_byte-requires : goal.put_byte-requires
put_byte-requires c =
    let n = rule_type_size c.requires.0 _ c.requires.1 c.rule_type.ensures in
    omega arith

pub returns : goal.returns
returns c =
    let h = c.requires.1 in
    let e = c.rule_type.ensures in
    let m = c.rule_label.ensures in
    let n = rule_type_size c.requires.0 _ h e in
    let typed = c.put_type-typed.ensures in
    let gap = c.put_byte-name.ensures in
    let gap2 = c.put_byte-content.ensures in
    let last = c.put_byte.ensures in
    let a1 = typed.next_is in
    let a2 = gap.next_is in
    let a4 = gap2.next_is in
    let a7 = last.next_is in
    record {
      put =
          λ f.
          line_joined f.table (rule_numbered f.table c.args.i) _ _ (e ∙ rule_type_is f _ h) (m ∙ rule_label_is f _ h)
          (put_join (put_join (put_join (put_join (put_join (put_join typed gap) (c.put_name-named.ensures.put f)) gap2) (c.put_rule_content-mark.ensures.put f)) (c.put_rule_mark-end.ensures.put f)) last);
      short = omega arith;
    }
