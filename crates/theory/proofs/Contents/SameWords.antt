-- Languages of the same words, joined, repeated, and taken together, have the same words: same_joined, same_repeated, same_either.
use Prim.Native.Nat.{ℕ}
use mathlib.Core.List.{List}
use mathlib.Core.Logic.Iff
use mathlib.Core.Logic.{◌↔◌, ◌⊎◌, inl, inr, ⊎_elim}
use Rattle.grammar.specs.Content.{Language, Joined, RepeatedWords, no_more, one_more}

-- every word of one language is a word of another
abbrev pub Within : Language → Language → Type 0
Within L M = (w : List ℕ) → L w → M w

pub joined_within : {L L' M M' : Language} → Within L L' → Within M M' → Within (Joined L M) (Joined L' M')
joined_within l m w j =
    record {
      front = j.front;
      back = j.back;
      joined = j.joined;
      front_in = l j.front j.front_in;
      back_in = m j.back j.back_in;
    }

pub repeated_within : {L L' : Language} → Within L L' → Within (RepeatedWords L) (RepeatedWords L')
repeated_within {L} {L'} l w r = go r
  where
    go : {w : List ℕ} → RepeatedWords L w → RepeatedWords L' w
    go no_more = no_more
    go (one_more {u = u} p r) = one_more (l u p) (go r)

-- two languages have the same words
abbrev pub SameWords : Language → Language → Type 0
SameWords L M = (w : List ℕ) → L w ↔ M w

pub same_trans : {L M N : Language} → SameWords L M → SameWords M N → SameWords L N
same_trans p q w = Iff.trans (p w) (q w)

pub same_joined : {L L' M M' : Language} → SameWords L L' → SameWords M M' → SameWords (Joined L M) (Joined L' M')
same_joined l m w = (
  joined_within (λ u. (l u).0) (λ u. (m u).0) w,
  joined_within (λ u. (l u).1) (λ u. (m u).1) w,
)

pub same_repeated : {L L' : Language} → SameWords L L' → SameWords (RepeatedWords L) (RepeatedWords L')
same_repeated l w = (repeated_within (λ u. (l u).0) w, repeated_within (λ u. (l u).1) w)

pub same_either : {L L' M M' : Language} → SameWords L L' → SameWords M M' → SameWords (λ w. L w ⊎ M w) (λ w. L' w ⊎ M' w)
same_either l m w = (⊎_elim (λ p. inl ((l w).0 p)) (λ q. inr ((m w).0 q)), ⊎_elim (λ p. inl ((l w).1 p)) (λ q. inr ((m w).1 q)))
