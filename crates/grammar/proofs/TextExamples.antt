-- XML text by example: what reads and as which tree, and the first refusal of what does not.
use Prim.Native.Nat.{ℕ}
use Prim.Native.String.{String}
use mathlib.Core.List.{List, [], ◌∷◌, ◌++◌, map}
use mathlib.Core.Path.{◌≡◌, refl}
use lib.ListN.{replicate}
use Rattle.grammar.specs.Ascii.{ascii}
use Rattle.grammar.specs.Lists.{joined_of, numbers_below}
use Rattle.grammar.specs.Limits.{Limits, limits_for, standard}
use Rattle.grammar.specs.Names.{ascii_classes}
use Rattle.grammar.specs.Tree.{Tree}
use Rattle.std.specs.Prelude.{Result, Ok, Err}
use Rattle.grammar.specs.declared.Refusal.{Refusal}
use Rattle.grammar.specs.Answers.{number_after}
use Rattle.grammar.specs.ReadText.{read_text}
use Rattle.grammar.specs.WriteText.{text_bytes}
use Rattle.grammar.specs.declared.Refusal.TheVariants.{InputTooLong}
use Rattle.grammar.proofs.Builders.{tree}

unfoldable as_text : String → Result Tree Refusal
unfolding read_text standard ascii_classes ascii
as_text s = read_text standard ascii_classes (ascii s)

unfoldable refusals : List String → List ℕ
unfolding as_text number_after
refusals = map (λ s. number_after (as_text s))

a_card : Tree
unfolding tree
a_card = tree "card" (tree "name" [] ∷ tree "code" [] ∷ [])

-- A start tag and an end tag, or one tag for an empty element; white space around tags, and before the end of one.
dense : as_text "<card><name></name><code/></card>" ≡ Ok a_card
unfolding as_text a_card
dense = refl

spread : as_text "\n<card >\n\t<name\t></name >\r\n <code />\n</card\n>\n" ≡ Ok a_card
unfolding as_text a_card
spread = refl

written_out : text_bytes a_card ≡ ascii "<card><name></name><code></code></card>"
unfolding text_bytes a_card ascii
written_out = refl

-- 16 is a byte outside names that is not allowed, or a text that stops inside a tag.
not_allowed
    : refusals
    ("<!-- x -->" ∷ "<a b=\"c\">" ∷ "< a>" ∷ "</a/>" ∷ "<a / >" ∷ "<a/" ∷ "<a>x</a>" ∷ "<a" ∷ "<" ∷ "</a" ∷ "<a></a>x" ∷ "x"
    ∷ "<a></ a>" ∷ "<a></a b>" ∷ "</a b>" ∷ [])
    ≡ replicate 15 16
unfolding refusals
not_allowed = refl

-- 17 is an end tag that does not name the innermost open element, byte for byte, or comes with none open.
not_closed : refusals ("</>" ∷ "<a></A>" ∷ "<a></b>" ∷ "<a></a></a>" ∷ "<a></1>" ∷ []) ≡ 17 ∷ 17 ∷ 17 ∷ 17 ∷ 17 ∷ []
unfolding refusals
not_closed = refl

-- A name ends at white space, / or >, and one that breaks the name rule is 5.
not_named : refusals ("<!--x-->" ∷ "<>" ∷ "< />" ∷ "<a<b>" ∷ "<?xml?>" ∷ "<a><1/></a>" ∷ []) ≡ 5 ∷ 5 ∷ 5 ∷ 5 ∷ 5 ∷ 5 ∷ []
unfolding refusals
not_named = refl

-- 11 is a second root, or a text that ends with elements open or with none.
not_a_tree : refusals ("<a/><a/>" ∷ "<a>" ∷ "" ∷ " " ∷ []) ≡ 11 ∷ 11 ∷ 11 ∷ 11 ∷ []
unfolding refusals
not_a_tree = refl

-- The first tag at fault decides; in one tag 16 comes before 17, 17 before 5, and 5 before 11.
in_order
    : refusals ("<1></b/>" ∷ "<1/><a" ∷ "<a></b" ∷ "</1>" ∷ "<a/><1/>" ∷ "<a/><1" ∷ "<a/></a" ∷ "<a/>x" ∷ [])
    ≡ 5 ∷ 5 ∷ 16 ∷ 17 ∷ 5 ∷ 16 ∷ 16 ∷ 16 ∷ []
unfolding refusals
in_order = refl

-- limits on nodes and levels of 3 and 2
unfoldable few : Limits
few = limits_for 16 3 2 12288

-- The node one too many and the level too deep are refused at their tag.
limits_hold
    : map (λ s. number_after (read_text few ascii_classes (ascii s)))
    ("<a><a/><a/></a>" ∷ "<a><a/><a/><a/></a>" ∷ "<a><a></a></a>" ∷ "<a><a><a/></b>" ∷ "<a><a></a></b>" ∷ [])
    ≡ 0 ∷ 11 ∷ 0 ∷ 11 ∷ 17 ∷ []
unfolding read_text few ascii_classes ascii number_after
limits_hold = refl

-- 200 children, then what is behind them
unfoldable full : String → ℕ
unfolding joined_of numbers_below read_text standard ascii_classes ascii number_after
full rest =
    number_after
    (read_text standard ascii_classes (ascii "<a>" ++ joined_of (λ (b : ℕ). ascii "<b/>") (numbers_below 200) ++ ascii rest))

-- The 201st child is refused at its own tag, which is tried whole.
children_hold : map full ("</a>" ∷ "<b></a" ∷ "<b/></b>" ∷ "<1/>" ∷ "<b" ∷ []) ≡ 0 ∷ 11 ∷ 11 ∷ 5 ∷ 16 ∷ []
unfolding full
children_hold = refl

-- A name of 63 bytes is read, one of 64 is 5; a text too long is 2 whatever it says.
long_names
    : map
    (λ n. number_after (read_text standard ascii_classes (ascii "<" ++ replicate n 0x61 ++ ascii "/>")))
    (63 ∷ 64 ∷ [])
    ≡ 0 ∷ 5 ∷ []
unfolding read_text standard ascii_classes ascii number_after
long_names = refl

too_long : read_text standard ascii_classes (replicate 32769 0x78) ≡ Err InputTooLong
unfolding read_text standard
too_long = refl
