-- `set_content` meets its contract: the content of the set's pairs, with the number of a set for each pair.
use Prim.Native.Nat.{ℕ}
use mathlib.Core.List.{List}
use mathlib.Core.Path.{sym, ◌∙◌, ap, subst}
use Rattle.grammar.specs.Lists.{place, same_numbers}
use Rattle.grammar.specs.Content.{Content}
use Rattle.theory.specs.Conditions.{Regular}
use Rattle.sets.specs.Sets.{member}
use Rattle.contents.specs.Completing.{Made}
use Rattle.forms.specs.SetForms.{pairs_labelled}
use Rattle.results.specs.PlanKind.{kind_of}
use Rattle.results.proofs.SetLaws.{set_held, content_is}
use Rattle.results.proofs.ContentLaws.{all_labels, merged}
use Rattle.results.proofs.rules.set_content.Goals as goal

pub content_of_set-requires : goal.content_of_set-requires
content_of_set-requires c =
    let q = c.requires.3 in
    let s = q.in_words in
    let within = member c.pairs_within-within.result.words 0 in
    let left = ap (λ (w : List ℕ). member w 0) c.load-left.ensures ∙ q.left_is in
    let numbers = c.label_numbers-numbers.ensures.0 _ _ s.table s.sets s.views s.held s.count_is in
    let listed =
    c.result_lists-lists.ensures _ _ s.table s.sets within s.views q.lists_are left s.labelled
    (all_labels q (λ l. place same_numbers (pairs_labelled s.table within l) s.sets) c.label_numbers-numbers.result.of numbers) in
    (merged q within c.types_listed-types.result c.result_lists-lists.result listed c.types_listed-types.ensures.0, c.requires.0)

pub returns : goal.returns
returns c =
    λ q.
    let s = q.in_words in
    let within = member c.pairs_within-within.result.words 0 in
    let i = c.args.i in
    let kind = kind_of c.args.plan.kind in
    let left = ap (λ (w : List ℕ). member w 0) c.load-left.ensures ∙ q.left_is in
    let numbers = c.label_numbers-numbers.ensures.0 _ _ s.table s.sets s.views s.held s.count_is in
    let listed =
    c.result_lists-lists.ensures _ _ s.table s.sets within s.views q.lists_are left s.labelled
    (all_labels q (λ l. place same_numbers (pairs_labelled s.table within l) s.sets) c.label_numbers-numbers.result.of numbers) in
    let held = set_held s i c.requires.1 _ c.requires.2 in
    let same =
    content_is s.table s.sets kind i (member c.args.set.words 0) within held
    (c.pairs_within-within.ensures.0 s.table _ s.views q.lists_are left held) in
    let from = merged q within c.types_listed-types.result c.result_lists-lists.result listed c.types_listed-types.ensures.0 in
    subst (λ (d : Content). Made c.content_of_set.new.draft d c.content_of_set.result) same
    (c.content_of_set.ensures from (subst Regular (sym same) (q.regular i c.requires.1)))
