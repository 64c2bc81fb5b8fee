-- Sets of pairs as they are laid down in the words, one after the other.
use Rattle.std.specs.Prelude.{ℕ, ◌≤◌, ◌<◌, List, map, ◌≡◌, length, get_or, eqb, Option, Some}
use Rattle.grammar.specs.Lists.{distinct, is_in}
use Rattle.grammar.specs.Table.{Table}
use Rattle.grammar.specs.SingleTypeForm.{TypeSet}
use Rattle.union.specs.PairNumbers.{rule_numbered, met_in}
use Rattle.forms.specs.SetForms.{pairs_labelled, met_within}

-- the words have room for 128 sets, of which so many, at most `most`, stand there
pub record SetRoom (most : ℕ) (words : List ℕ) (count : ℕ) : Type 0 where
  pub few : count ≤ most
  pub room : 1024 ≤ length words

-- at most `most` are counted
abbrev pub Few : (most : ℕ) → Option ℕ → Type 0
Few most r = (n : ℕ) → r ≡ Some n → n ≤ most

-- for each pair met in the contents of a set, in meeting order, the set of those met that share its label
abbrev pub sets_within : Table → TypeSet → List TypeSet
sets_within u s = map (λ p. pairs_labelled u (met_within u s) (rule_numbered u p).label) (distinct eqb (met_in u (λ q. is_in q s)))

-- these are the numbers of the first n
abbrev pub NumbersOf : (ℕ → ℕ) → ℕ → List ℕ → Type 0
NumbersOf f n list = (i : ℕ) → i < n → get_or list i 0 ≡ f i
