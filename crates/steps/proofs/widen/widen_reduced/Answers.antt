-- `widen_reduced` meets its contract: too many types, or the result as it is drafted.
use Prim.Native.Nat.{ℕ, ◌+◌, ◌≤◌}
use native.Mathlib.Omega.{arith}
use mathlib.Core.Path.{◌∙◌, ap, subst}
use lib.ListN.{length}
use borrow.Author.Rules.{rules}
use Rattle.grammar.specs.Limits.{large}
use Rattle.grammar.specs.LimitSets.{limits_of}
use Rattle.grammar.specs.Unite.{unite}
use Rattle.results.specs.PlanKind.{kind_of}
use Rattle.steps.specs.Widened.{TypesCounted}
use Rattle.steps.proofs.ReducedLaws as laws
use Rattle.steps.proofs.widen.widen_reduced.Goals as goal

pub overflow_add-labels : goal.overflow_add-labels
overflow_add-labels c =
    let few = laws.names_few c.args.limits c.requires.0.reduced in omega (arith, few.0, few.1, c.label_count.ensures)

pub types_of_kind-requires : goal.types_of_kind-requires
types_of_kind-requires c =
    ((_, ap (λ (k : ℕ). k + c.args.union.new_names.count) c.label_count.ensures, c.requires.0), c.requires.1)

pub put_result-requires : goal.put_result-requires
put_result-requires c =
    let r = c.requires.0.reduced in
    let n = ap (λ (k : ℕ). k + c.args.union.new_names.count) c.label_count.ensures in
    let laid =
    subst (TypesCounted (limits_of c.args.limits) (kind_of c.args.kind) _ c.types_of_kind.new.words) c.in-Some.is
    (c.types_of_kind.ensures _ _ _ n r) in
    let room : 12288 ≤ length c.types_of_kind.new.words = search rules in
    let text = c.text_pairs.ensures.0 _ r.seen.rules r.lists_are in (
      c.requires.2,
      omega arith,
      laws.result_after c.args.limits r c.args.kind laid room _ (n ∙ laws.label_count_is c.args.limits r) c.text_pairs.result text,
    )

pub returns-in-None : goal.returns-in-None
returns-in-None c g h r =
    let n = ap (λ (k : ℕ). k + c.args.union.new_names.count) c.label_count.ensures in
    laws.widens_many c.args.limits r (kind_of c.args.kind)
    (subst (TypesCounted (limits_of c.args.limits) (kind_of c.args.kind) (unite large g h) c.types_of_kind.new.words) c.in-None.is
    (c.types_of_kind.ensures _ g h n r)) _ _

pub returns-in-Some : goal.returns-in-Some
returns-in-Some c g h r =
    let n = ap (λ (k : ℕ). k + c.args.union.new_names.count) c.label_count.ensures in
    let laid =
    subst (TypesCounted (limits_of c.args.limits) (kind_of c.args.kind) (unite large g h) c.types_of_kind.new.words) c.in-Some.is
    (c.types_of_kind.ensures _ g h n r) in
    let room : 12288 ≤ length c.types_of_kind.new.words = search rules in
    let text = c.text_pairs.ensures.0 _ r.seen.rules r.lists_are in
    laws.drafted c.args.limits r laid _ _ _ _ (laws.told _ _ c.map_err.ensures.cases)
    (c.put_result.ensures
    (laws.result_after c.args.limits r c.args.kind laid room _ (n ∙ laws.label_count_is c.args.limits r) c.text_pairs.result text))
