-- `types_of_kind` meets its contract.
use mathlib.Core.Path.{sym, subst}
use Rattle.grammar.specs.Limits.{large}
use Rattle.grammar.specs.LimitSets.{limits_of}
use Rattle.grammar.specs.Unite.{unite}
use Rattle.results.specs.declared.plan.Kind.{Kind}
use Rattle.results.specs.PlanKind.{kind_of}
use Rattle.steps.specs.Widened.{TypesCounted}
use Rattle.steps.proofs.widen.types_of_kind.Goals as goal

pub returns-in-Local : goal.returns-in-Local
unfolding kind_of
returns-in-Local c index g h e r =
    subst (λ (k : Kind). TypesCounted (limits_of c.args.limits) (kind_of k) (unite large g h) c.local_types.new.words c.local_types.result)
    (sym c.in-Local.is) (c.local_types.ensures _ _ index _ g h e r)

pub returns-in-SingleType : goal.returns-in-SingleType
unfolding kind_of
returns-in-SingleType c index g h e r =
    subst
    (λ (k : Kind). TypesCounted (limits_of c.args.limits) (kind_of k) (unite large g h) c.single_types.new.words c.single_types.result)
    (sym c.in-SingleType.is) (c.single_types.ensures index g h e r)
