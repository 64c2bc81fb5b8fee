-- The kind of a plan.
use Rattle.grammar.specs.Kinds as kinds
use Rattle.results.specs.declared.plan.Kind.{Kind}
use Rattle.results.specs.declared.plan.Kind.TheVariants.{Local, SingleType}

-- the kind that is meant
unfoldable pub kind_of : Kind → kinds.Kind
kind_of Local = kinds.local
kind_of SingleType = kinds.single_type
