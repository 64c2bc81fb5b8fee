-- The paper's number of each refusal, and the three classes of name bytes.
use Prim.Native.Nat.{ℕ}
use mathlib.Core.List.{List, [], ◌∷◌, map}
use mathlib.Core.Path.{◌≡◌, refl}
use lib.ListN.{length, get_or}
use Rattle.grammar.specs.Ascii.{ascii}
use Rattle.grammar.specs.Names.{ascii_classes}
use Rattle.grammar.specs.Outcome.{number}
use Rattle.grammar.specs.declared.Refusal.{Refusal}
use Rattle.grammar.specs.declared.Refusal.TheVariants.{
  WorkTooShort,
  InputTooLong,
  FieldPastEnd,
  BadField,
  BadName,
  Repeated,
  TooMany,
  OutOfRange,
  BadContent,
  NestedTooDeep,
  BadTree,
  BytesAfterEnd,
  NoDocument,
  ResultTooLarge,
  OutputTooShort,
  BadClasses,
}

-- in the order of the paper's list
in_order : List Refusal
in_order =
    WorkTooShort
    ∷ InputTooLong
    ∷ FieldPastEnd
    ∷ BadField
    ∷ BadName
    ∷ Repeated
    ∷ TooMany
    ∷ OutOfRange
    ∷ BadContent
    ∷ NestedTooDeep
    ∷ BadTree
    ∷ BytesAfterEnd
    ∷ NoDocument
    ∷ ResultTooLarge
    ∷ OutputTooShort
    ∷ BadClasses
    ∷ []

numbers : map number in_order ≡ 1 ∷ 2 ∷ 3 ∷ 4 ∷ 5 ∷ 6 ∷ 7 ∷ 8 ∷ 9 ∷ 10 ∷ 11 ∷ 12 ∷ 13 ∷ 14 ∷ 15 ∷ 18 ∷ []
unfolding number in_order
numbers = refl

-- there are 256 classes
class_count : length ascii_classes ≡ 256
unfolding ascii_classes
class_count = refl

classes_of : List ℕ → List ℕ
classes_of = map (λ b. get_or ascii_classes b 0)

-- the ends of each range, and the bytes just past them
classes_at_the_ends :
    classes_of (ascii "azAZ_09-.`{@[/:^,~ ") ≡ 2 ∷ 2 ∷ 2 ∷ 2 ∷ 2 ∷ 1 ∷ 1 ∷ 1 ∷ 1 ∷ 0 ∷ 0 ∷ 0 ∷ 0 ∷ 0 ∷ 0 ∷ 0 ∷ 0 ∷ 0 ∷ 0 ∷ []
unfolding classes_of ascii_classes ascii
classes_at_the_ends = refl
