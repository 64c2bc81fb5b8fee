use native.Mathlib.Omega.{arith}
use mathlib.Core.Path.{◌∙◌, ap₂}
use Rattle.grammar.specs.Content.{types_in}
use Rattle.reader.specs.TableIndex.{part}
use Rattle.reader.proofs.TableIndexLaws.{rule_at}
use Rattle.kinds.proofs.IndexedKinds.{types_below}
use Rattle.kinds.proofs.kinds.none_compete_in.Goals as goal

pub content_types-requires : goal.content_types-requires
content_types-requires c =
    let r = rule_at c.requires.0.held.indexes c.args.i c.requires.1 in (record { content = r.0.content; bytes_are = ap₂ (part c.args.table.now) c.content_from-from.ensures c.content_to-to.ensures ∙ r.2.content.bytes_are }, c.requires.2)

pub none_compete-requires : goal.none_compete-requires
none_compete-requires c = (types_below c.requires.0, omega arith)

pub returns : goal.returns
returns c =
    λ g rule x at_i.
    c.none_compete.ensures _ g (types_in rule.content) x
    (c.content_types.ensures rule.content (ap₂ (part c.args.table.now) c.content_from-from.ensures c.content_to-to.ensures ∙ (x.rule c.args.i rule at_i).content.bytes_are))
