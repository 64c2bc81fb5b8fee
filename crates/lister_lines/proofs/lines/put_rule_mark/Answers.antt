-- `put_rule_mark` meets its contract: one byte for a rule for text, none for another.
use native.Mathlib.Omega.{arith}
use mathlib.Core.Path.{sym, subst}
use Rattle.writer.specs.Writing.{Put}
use Rattle.writer.proofs.PutLaws.{put_none}
use Rattle.lister_lines.proofs.LineLaws.{rule_mark_is, marked, unmarked}
use Rattle.lister_lines.proofs.lines.put_rule_mark.Goals as goal

pub returns-then-for_text : goal.returns-then-for_text
returns-then-for_text c =
    let put = c.put_byte in
    record {
      put =
          λ f.
          subst (λ w. Put c.args.text.now c.args.at w put.new.text put.result)
          (sym
          (marked _ (rule_mark_is f _ c.requires.1 (λ q. c.for_text.ensures f.table q f.held.indexes)) c.if-for_text.true))
          put.ensures;
      short = omega (arith, put.ensures.next_is);
    }

pub returns : goal.returns
returns c =
    record {
      put =
          λ f.
          subst (λ w. Put c.args.text.now c.args.at w c.args.text.now c.args.at)
          (sym
          (unmarked _
          (rule_mark_is f _ c.requires.1 (λ q. c.for_text.ensures f.table q f.held.indexes))
          c.if-for_text.false))
          (put_none c.args.text.now c.args.at (omega (arith, c.requires.2)));
      short = omega arith;
    }
