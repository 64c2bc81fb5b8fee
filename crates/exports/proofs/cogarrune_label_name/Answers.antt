-- `cogarrune_label_name` meets its contract.
use mathlib.Core.Path.{◌∙◌, ap, refl}
use Rattle.grammar.specs.LimitSets.{size_limits}
use Rattle.theory.proofs.Tables.RoomierLimits.{within_large}
use Rattle.theory.proofs.Theorems.SizedPromises.{place_sized}
use Rattle.exports.proofs.PlaceLaws.{place_unanswered, short_name, place_answered}
use Rattle.exports.proofs.cogarrune_label_name.Goals as goal

pub returns-then-work-limits : goal.returns-then-work-limits
returns-then-work-limits c =
    place_sized (c.limits_of-limits.ensures.limits ∙ ap size_limits c.size_numbered.ensures) (place_unanswered (within_large c.limits_of-limits.result) c.args.classes.now c.args.table.now c.args.label c.args.work.now c.if-work-limits.true _ c.of_refusal.ensures)

pub of_place-requires : goal.of_place-requires
of_place-requires c =
    short_name (within_large c.limits_of-limits.result) c.args.classes.now c.args.table.now c.args.label c.args.work.now c.find_label-found.result c.find_label-found.ensures

pub returns : goal.returns
returns c =
    place_sized (c.limits_of-limits.ensures.limits ∙ ap size_limits c.size_numbered.ensures) (place_answered (within_large c.limits_of-limits.result) c.args.classes.now c.args.table.now c.args.label c.args.work.now c.if-work-limits.false _ (c.clear_work.ensures _ refl) c.find_label-found.result c.find_label-found.ensures _ c.of_place.ensures)
