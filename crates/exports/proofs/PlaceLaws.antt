-- Where a name stands, as one number.
use Prim.Native.Nat.{ℕ, ◌-◌, ◌≤◌, ◌<◌}
use native.Mathlib.Omega.{arith}
use mathlib.Core.List.{List, []}
use mathlib.Core.Path.{◌≡◌, refl, sym, ◌∙◌, ap}
use lib.ListN.{length}
use Rattle.grammar.specs.Limits.{Limits, NoneAbove, large}
use Rattle.grammar.specs.Names.{Classes}
use Rattle.grammar.specs.Answers.{refused_by, numbers_of}
use Rattle.grammar.specs.Calls.{work_after, after, label_name}
use Rattle.grammar.specs.Promises.{place_value, NamePlace}
use Rattle.grammar.specs.declared.Refusal.{Refusal}
use Rattle.grammar.specs.declared.Refusal.TheVariants.{WorkTooShort}
use Rattle.std.specs.Prelude.{Result, Ok, Err}
use Rattle.reader.specs.LabelPlaces.{LabelSought, label_part}
use Rattle.reader.proofs.LabelPlaceLaws.{name_bounds}
use Rattle.reader.proofs.CallLaws.{left_as, left_short, label_name_short, label_name_enough}
use Rattle.exports.specs.Exported.{told, parted, place_numbers, ShortName}
use Rattle.exports.proofs.Apart.{retold}

module _ {lim : Limits} (none_above : NoneAbove lim large) (classes : Classes) (table : List ℕ) (label : ℕ) (work : List ℕ) where
  pub place_unanswered : length work < lim.words → (answer : ℕ) → answer ≡ told (refused_by WorkTooShort)
      → NamePlace lim classes table label work (after (parted answer) [] work)
  unfolding refused_by
  place_unanswered h answer e =
      retold (λ n. NamePlace lim classes table label work (after n [] work)) (refused_by WorkTooShort) answer e (omega arith)
      (record { settled = left_short lim place_value (label_name lim classes table label work) work h (label_name_short lim classes table label work h) })

  module _ (found : Result (ℕ × ℕ) Refusal) (so : LabelSought table (label_part lim classes table label) found) where
    pub short_name : (from to : ℕ) → found ≡ Ok (from, to) → ShortName from to
    short_name from to e =
        let p = so.found from to e in
        let b = name_bounds none_above classes table label (record { from = from; size = to - from }) p.1 in
        record { early = b.0; order = p.0.order; short = b.1 }

  -- the numbers of what was found
  found_numbers : (found : Result (ℕ × ℕ) Refusal) → LabelSought table (label_part lim classes table label) found
      → (place_numbers found ≡ numbers_of place_value (label_part lim classes table label)) × ((place_numbers found).value < 4294967296)
  unfolding place_numbers numbers_of refused_by
  found_numbers (Ok (from, to)) so =
      let short = short_name (Ok (from, to)) so from to refl in
      let early = short.early in
      let size = short.short in
      (ap (numbers_of place_value) (sym (so.found from to refl).1), omega arith)
  found_numbers (Err q) so = (ap (numbers_of place_value) (sym (so.unfound q refl)), omega arith)

  pub place_answered : lim.words ≤ length work → (left : List ℕ) → left ≡ work_after lim work → (found : Result (ℕ × ℕ) Refusal)
      → LabelSought table (label_part lim classes table label) found → (answer : ℕ) → answer ≡ told (place_numbers found)
      → NamePlace lim classes table label work (after (parted answer) [] left)
  place_answered h left w found so answer e =
      let numbers = found_numbers found so in
      retold (λ n. NamePlace lim classes table label work (after n [] left)) (place_numbers found) answer e numbers.1
      (record {
        settled =
            left_as lim place_value (label_name lim classes table label work) work (place_numbers found) left
            (numbers.0 ∙ ap (numbers_of place_value) (sym (label_name_enough lim classes table label work h)))
            w;
      })
