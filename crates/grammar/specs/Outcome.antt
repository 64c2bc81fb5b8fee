-- The refusals with the paper's numbers, and outcomes: what was asked for, or the refusal.
use Rattle.std.specs.Prelude.{ℕ, Bool, true, false, ◌≡◌, Result, Ok, Err}
use Rattle.grammar.specs.declared.Refusal.{Refusal}
use Rattle.grammar.specs.declared.Refusal.TheVariants.{
  WorkTooShort,
  InputTooLong,
  FieldPastEnd,
  BadField,
  BadName,
  Repeated,
  TooMany,
  OutOfRange,
  BadContent,
  NestedTooDeep,
  BadTree,
  BytesAfterEnd,
  NoDocument,
  ResultTooLarge,
  OutputTooShort,
  BadText,
  BadEndTag,
  BadClasses,
}

unfoldable pub number : Refusal → ℕ
-- The working slice has fewer words than a call needs.
number WorkTooShort = 1
-- An input is too long.
number InputTooLong = 2
-- A field runs past the input's end, or the input stops before an end field.
number FieldPastEnd = 3
-- A tag is foreign to this file or out of order, or its length is not one stated for it.
number BadField = 4
-- A name breaks the name rule.
number BadName = 5
-- A label name or a start type repeats an earlier one of its table.
number Repeated = 6
-- It is one label, start or rule too many.
number TooMany = 7
-- A start or rule type is out of range, or a rule's or caller's label number is not among the labels.
number OutOfRange = 8
-- A content is not exactly one expression, or names a type out of range.
number BadContent = 9
-- A content nests too deep.
number NestedTooDeep = 10
-- A node is one too many, has too many children, lies too deep or follows a complete tree, or the end comes before the tree is complete.
number BadTree = 11
-- Bytes follow the end field.
number BytesAfterEnd = 12
-- The united tables derive no document.
number NoDocument = 13
-- The sample or the result has too many types, too long, deep or wide a content, or too many bytes in all.
number ResultTooLarge = 14
-- The lent output is shorter than the result.
number OutputTooShort = 15
-- In XML text a byte outside names is not allowed, or the text stops inside a tag.
number BadText = 16
-- An end tag does not name the innermost open element, or none is open.
number BadEndTag = 17
-- The classes do not load.
number BadClasses = 18

-- something was given, and it is as said
pub record Gives {A : Type 0} (o : Result A Refusal) (Is : A → Type 0) : Type 0 where
  pub thing : A
  pub was_given : o ≡ Ok thing
  pub is : Is thing

infixl 20 ◌>>=◌ ◌>>◌
-- go on with what was given; a refusal ends it
abbrev pub ◌>>=◌ : {A B : Type 0} → Result A Refusal → (A → Result B Refusal) → Result B Refusal
Err r >>= f = Err r
Ok a >>= f = f a

abbrev pub ◌>>◌ : {A B : Type 0} → Result A Refusal → Result B Refusal → Result B Refusal
Err r >> next = Err r
Ok a >> next = next

-- the refusal where there is a fault
abbrev pub turn_back : Bool → Refusal → Result (Unit {0}) Refusal
turn_back true r = Err r
turn_back false r = Ok tt
