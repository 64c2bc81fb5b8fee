-- `read_and_widen` meets its contract: the refusal of the addition, else what widening by it made.
use native.Mathlib.Omega.{arith}
use Rattle.theory.proofs.Bytes.ClassLaws.{all_classed}
use Rattle.results.specs.PlanKind.{kind_of}
use Rattle.reader.proofs.AnswerLaws.{handed_on}
use Rattle.reader.proofs.TableFoundLaws.{table_found}
use Rattle.drafting.proofs.DraftLaws as laws
use Rattle.grammar.specs.LimitSets.{limits_of}
use Rattle.drafting.proofs.drafting.read_and_widen.Goals as goal

pub read_table-requires : goal.read_table-requires
read_table-requires c =
    let all = all_classed c.args.classes.now c.requires.loads in record { in_bounds = omega arith }

pub returns-in_err-read_table : goal.returns-in_err-read_table
returns-in_err-read_table c =
    λ g held.
    rw (handed_on c.from_residual.result c.from_residual.ensures)
    (laws.addition_refuses c.args.limits c.args.classes.now c.requires.loads (kind_of c.args.kind) g c.args.addition.now c.read_table.result _ c.read_table.ensures _ _ c.in_err-read_table.was)

pub widen_tables-requires : goal.widen_tables-requires
widen_tables-requires c =
    let load = c.requires.loads in
    let (held, words, draft) = c.requires.within in
    (held, (table_found (limits_of c.args.limits) c.args.classes.now c.args.addition.now c.read_table.result _ c.read_table.ensures load c.in_ok-read_table.was).some, words, draft)

pub returns : goal.returns
returns c =
    λ g held. laws.widens_so c.args.limits c.args.classes.now c.requires.loads (kind_of c.args.kind) g c.args.addition.now c.read_table.result _ c.read_table.ensures _ c.in_ok-read_table.was c.args.draft.now
    c.widen_tables.result (λ h also. c.widen_tables.ensures g h held also)
