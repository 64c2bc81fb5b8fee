-- `local_types` meets its contract: too many labels, or their sets and the start types.
use Prim.Native.Nat.{ℕ}
use native.Mathlib.Omega.{arith}
use mathlib.Core.List.{List, ◌++◌}
use mathlib.Core.Path.{◌≡◌, ◌∙◌, ap}
use lib.ListN.{length, take, drop}
use borrow.Author.Rules.{rules}
use Rattle.grammar.specs.Limits.{large}
use Rattle.grammar.specs.Kinds.{local}
use Rattle.grammar.specs.Unite.{unite}
use Rattle.sets.specs.Sets.{member}
use Rattle.union.specs.Places.{sets_end}
use Rattle.forms.specs.SetForms.{local_sets, sets_of}
use Rattle.steps.proofs.ReducedLaws as laws
use Rattle.steps.proofs.widen.local_types.Goals as goal

pub label_sets-requires : goal.label_sets-requires
label_sets-requires c = (
  c.args.limits.rules_fit,
  c.requires.0.5.reduced.seen.rules.few,
  record {
    few = omega arith;
    room = laws.lent_room c.args.words.now c.requires.1;
  },
)

pub label_numbers-numbers-requires : goal.label_numbers-numbers-requires
label_numbers-numbers-requires c =
    let r = c.requires.0.5.reduced in
    let room = c.requires.1 in
    let n = c.requires.0.4 ∙ laws.label_count_is c.args.limits r in
    let few = laws.labels_few c.args.limits r in
    let front = c.label_sets.new.words in
    let left = ap (λ (w : List ℕ). member w 0) c.load-left.ensures ∙ r.left_are in
    let (many, few, held) =
    laws.local_counted c.args.limits r front c.label_sets.result _ left (c.label_sets.ensures _ _ _ r.seen.rules n) _ c.in_ok-count.was in
    let h = held.few in
    let same : length front ≡ length (take sets_end c.args.words.now) = search rules in
    let all = laws.room_stays c.args.words.now room front same in (
      r.seen.rules.few,
      omega arith,
      record {
        few = omega arith;
        room = omega arith;
      },
    )

pub start_numbers-requires : goal.start_numbers-requires
start_numbers-requires c =
    let front = c.label_sets.new.words in
    let same : length front ≡ length (take sets_end c.args.words.now) = search rules in (
      c.requires.0.5.reduced.seen.rules.few,
      laws.room_stays c.args.words.now c.requires.1 front same,
      c.label_numbers-numbers.ensures.1,
    )

pub returns-in_err-count : goal.returns-in_err-count
returns-in_err-count c old add index lists g h e r =
    let n = e ∙ laws.label_count_is c.args.limits r in
    let left = ap (λ (w : List ℕ). member w 0) c.load-left.ensures ∙ r.left_are in
    rw c.from_residual.ensures
    (laws.local_over c.args.limits r _ c.label_sets.result _ left (c.label_sets.ensures _ _ _ r.seen.rules n) c.in_err-count.was)

pub returns : goal.returns
unfolding sets_of
returns c old add index lists g h e r =
    let room = c.requires.1 in
    let n = e ∙ laws.label_count_is c.args.limits r in
    let front = c.label_sets.new.words in
    let left = ap (λ (w : List ℕ). member w 0) c.load-left.ensures ∙ r.left_are in
    let counted =
    laws.local_counted c.args.limits r front c.label_sets.result _ left (c.label_sets.ensures _ _ _ r.seen.rules n) _ c.in_ok-count.was in
    let same : length front ≡ length (take sets_end c.args.words.now) = search rules in
    let long : length c.start_numbers.new.words ≡ length (front ++ drop sets_end c.args.words.now) = search rules in
    laws.types_laid c.args.limits r local room front same _ counted _ c.start_numbers.ensures.1 long
    (laws.local_laid c.args.limits r _ counted.0 c.label_numbers-numbers.result.of _ n _ _ left
    (laws.reduced_stay c.args.limits r room front same).starts_are
    (c.label_numbers-numbers.ensures.0 _ _ _ (local_sets (unite large g h)) r.seen.rules
    (laws.sets_held c.args.words.now room front same counted.2) counted.0)
    _ c.start_numbers.ensures.0)
