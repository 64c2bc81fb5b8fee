-- `single_types` meets its contract: too many sets, or all sets and the start types.
use Prim.Native.Nat.{ℕ, ◌≤◌}
use native.Mathlib.Omega.{arith}
use mathlib.Core.List.{List, ◌++◌}
use mathlib.Core.Path.{◌≡◌, refl, ◌∙◌, ap}
use lib.ListN.{length, take, drop}
use borrow.Author.Rules.{rules}
use Rattle.grammar.specs.Kinds.{single_type}
use Rattle.grammar.specs.LimitSets.{limits_of}
use Rattle.sets.specs.Sets.{member}
use Rattle.union.specs.Places.{sets_end}
use Rattle.steps.proofs.ReducedLaws as laws
use Rattle.steps.proofs.UnionLaws.{seen_viewed, listed_both}
use Rattle.steps.proofs.widen.single_types.Goals as goal

pub label_sets-requires : goal.label_sets-requires
label_sets-requires c = (
  c.args.limits.rules_fit,
  c.requires.0.2.reduced.seen.rules.few,
  record {
    few = omega arith;
    room = laws.lent_room c.args.words.now c.requires.1;
  },
)

pub returns-in_err-first : goal.returns-in_err-first
returns-in_err-first c index g h e r =
    let n = e ∙ laws.label_count_is c.args.limits r in
    let starts = ap (λ (w : List ℕ). member w 0) c.load-starts.ensures ∙ r.starts_are in
    rw c.from_residual.ensures
    (laws.start_over c.args.limits r _ c.label_sets.result _ starts (c.label_sets.ensures _ _ _ r.seen.rules n) c.in_err-first.was)

pub more_sets-requires : goal.more_sets-requires
more_sets-requires c =
    let r = c.requires.0.2.reduced in
    let n = c.requires.0.1 ∙ laws.label_count_is c.args.limits r in
    let front = c.label_sets.new.words in
    let starts = ap (λ (w : List ℕ). member w 0) c.load-starts.ensures ∙ r.starts_are in
    let counted =
    laws.start_counted c.args.limits r front c.label_sets.result _ starts (c.label_sets.ensures _ _ _ r.seen.rules n) _ c.in_ok-first.was in
    let same : length front ≡ length (take sets_end c.args.words.now) = search rules in
    let room = laws.room_stays c.args.words.now c.requires.1 front same in
    let lent = laws.lent_room (front ++ drop sets_end c.args.words.now) room in
    (c.args.limits.rules_fit, seen_viewed r.seen, listed_both r.lists_are, counted.1, lent)

pub returns-in_err-count : goal.returns-in_err-count
returns-in_err-count c index g h e r =
    let n = e ∙ laws.label_count_is c.args.limits r in
    let front = c.label_sets.new.words in
    let starts = ap (λ (w : List ℕ). member w 0) c.load-starts.ensures ∙ r.starts_are in
    let counted =
    laws.start_counted c.args.limits r front c.label_sets.result _ starts (c.label_sets.ensures _ _ _ r.seen.rules n) _ c.in_ok-first.was in
    let same : length front ≡ length (take sets_end c.args.words.now) = search rules in
    let now = front ++ drop sets_end c.args.words.now in
    let room : 12288 ≤ length now = laws.room_stays c.args.words.now c.requires.1 front same in
    let lent = laws.sets_lent now room (laws.sets_held c.args.words.now c.requires.1 front same counted.2) in
    rw c.from_residual-in_err-count.ensures
    (laws.single_type_over c.args.limits r _ c.more_sets.result
    (c.more_sets.ensures (limits_of c.args.limits) _ refl r.seen.rules r.lists_are lent counted.0) c.in_err-count.was)

pub first_numbers-requires : goal.first_numbers-requires
first_numbers-requires c =
    let r = c.requires.0.2.reduced in
    let n = c.requires.0.1 ∙ laws.label_count_is c.args.limits r in
    let front = c.label_sets.new.words in
    let starts = ap (λ (w : List ℕ). member w 0) c.load-starts.ensures ∙ r.starts_are in
    let counted =
    laws.start_counted c.args.limits r front c.label_sets.result _ starts (c.label_sets.ensures _ _ _ r.seen.rules n) _ c.in_ok-first.was in
    let few = counted.1 in
    let fit = c.args.limits.rules_fit in
    let same : length front ≡ length (take sets_end c.args.words.now) = search rules in
    let now = front ++ drop sets_end c.args.words.now in
    let room : 12288 ≤ length now = laws.room_stays c.args.words.now c.requires.1 front same in
    let next : length c.more_sets.new.words ≡ length (take sets_end now) = search rules in
    (omega arith, laws.room_stays now room c.more_sets.new.words next)

pub returns : goal.returns
returns c index g h e r =
    let n = e ∙ laws.label_count_is c.args.limits r in
    let front = c.label_sets.new.words in
    let starts = ap (λ (w : List ℕ). member w 0) c.load-starts.ensures ∙ r.starts_are in
    let first =
    laws.start_counted c.args.limits r front c.label_sets.result _ starts (c.label_sets.ensures _ _ _ r.seen.rules n) _ c.in_ok-first.was in
    let same : length front ≡ length (take sets_end c.args.words.now) = search rules in
    let now = front ++ drop sets_end c.args.words.now in
    let room : 12288 ≤ length now = laws.room_stays c.args.words.now c.requires.1 front same in
    let kept = laws.reduced_stay c.args.limits r c.requires.1 front same in
    let lent = laws.sets_lent now room (laws.sets_held c.args.words.now c.requires.1 front same first.2) in
    let counted =
    laws.single_type_counted c.args.limits r c.more_sets.new.words c.more_sets.result
    (c.more_sets.ensures (limits_of c.args.limits) _ refl r.seen.rules r.lists_are lent first.0) _ c.in_ok-count.was in
    let next : length c.more_sets.new.words ≡ length (take sets_end now) = search rules in
    let long : length c.first_numbers.new.words ≡ length (c.more_sets.new.words ++ drop sets_end now) = search rules in
    laws.types_laid c.args.limits kept single_type room c.more_sets.new.words next _ counted _ c.first_numbers.ensures.1 long
    (laws.single_type_laid c.args.limits kept _ _ counted.0 first.0 _ c.first_numbers.ensures.0)
