-- The test of a content recognises the words of the content: children, each given by the types that derive it, pass just where
-- some word picks a type of each child, in order.
--
--   matches_words : (c : Content) → Recognises (matches c) (Word c)
--
-- One law for each test of Membership, over any tests and languages; then a line for each constructor of contents.
use Prim.Native.Nat.{ℕ, zero, suc, ◌≤◌}
use native.Mathlib.Omega.{arith}
use native.Mathlib.Nat.{le_refl}
use mathlib.Core.Bool.{Bool, true, false, ◌&&◌, ◌||◌, false≢true}
use mathlib.Core.List.{List, [], ◌∷◌, ◌++◌, Memᴰ}
use mathlib.Core.Logic.{◌↔◌, ◌⊎◌, inl, inr, ⊎_elim}
use mathlib.Core.Path.{◌≡◌, refl, sym, ◌∙◌, ap}
use lib.ListN.{length, length-append}
use Rattle.grammar.specs.Membership.{
  Test,
  no_children,
  one_child,
  in_turn,
  repeated_within,
  repeated,
  matches,
  matches_in_turn,
  matches_one,
}
use Rattle.grammar.specs.Content.{
  Content,
  none,
  empty,
  type,
  sequence,
  choice,
  any_number,
  one_or_more,
  optional,
  Contents,
  []ᶜ,
  ◌∷ᶜ◌,
  Language,
  Joined,
  RepeatedWords,
  no_more,
  one_more,
  Word,
  InTurn,
  OfOne,
}
use Rattle.theory.proofs.Lists.BoolLaws.{and_left, and_right, and_intro, or_cases, or_left, or_right}
use Rattle.theory.proofs.Lists.ListLaws.{in_mem, mem_in}

-- the word has one type of each child, position by position
pub data Picks : List (List ℕ) → List ℕ → Type 0 where
  picks_none : Picks [] []
  picks_next : {types w : List ℕ} {us : List (List ℕ)} {k : ℕ} → Memᴰ k types → Picks us w → Picks (types ∷ us) (k ∷ w)

-- some word of the language picks a type of each child
abbrev pub Picked : Language → List (List ℕ) → Type 0
Picked L us = (w : List ℕ) × L w × Picks us w

-- The test passes just those children.
pub record Recognises (test : Test) (L : Language) : Type 0 where
  pub word_of : (us : List (List ℕ)) → test us ≡ true → Picked L us
  pub passes : (us : List (List ℕ)) (w : List ℕ) → L w → Picks us w → test us ≡ true

pub recognised : {test : Test} {L : Language} → Recognises test L → (us : List (List ℕ)) → (test us ≡ true) ↔ Picked L us
recognised p us = (p.word_of us, λ r. p.passes us r.0 r.1 r.2)

-- picking from joined children
pub picks_join : {us vs : List (List ℕ)} {w z : List ℕ} → Picks us w → Picks vs z → Picks (us ++ vs) (w ++ z)
picks_join picks_none q = q
picks_join (picks_next m p) q = picks_next m (picks_join p q)

-- children in two parts, each with its property
pub record MatchedParts (P Q : List (List ℕ) → Type 0) (us : List (List ℕ)) : Type 0 where
  pub front : List (List ℕ)
  pub back : List (List ℕ)
  pub joined : us ≡ front ++ back
  pub of_front : P front
  pub of_back : Q back

all_behind : {P Q : List (List ℕ) → Type 0} (us : List (List ℕ)) → P [] → Q us → MatchedParts P Q us
all_behind us p q = record { front = []; back = us; joined = refl; of_front = p; of_back = q }

one_more_in_front : {P P' Q : List (List ℕ) → Type 0} (u : List ℕ) {us : List (List ℕ)}
    → ((vs : List (List ℕ)) → P vs → P' (u ∷ vs)) → MatchedParts P Q us → MatchedParts P' Q (u ∷ us)
one_more_in_front u h r =
    record {
      front = u ∷ r.front;
      back = r.back;
      joined = ap (λ us. u ∷ us) r.joined;
      of_front = h r.front r.of_front;
      of_back = r.of_back;
    }

-- where a joined word picks, each of its parts picks from a part of the children
abbrev pub PickInTurn : List ℕ → List ℕ → List (List ℕ) → Type 0
PickInTurn w z us = MatchedParts (λ us. Picks us w) (λ us. Picks us z) us

pub picks_parts : {us : List (List ℕ)} (w z : List ℕ) → Picks us (w ++ z) → PickInTurn w z us
picks_parts {us} [] z p = all_behind us picks_none p
picks_parts (k ∷ w) z (picks_next {types = u} m p) = one_more_in_front u (λ us q. picks_next m q) (picks_parts w z p)

-- the tests of nothing, of no children, of one child
nothing_matches : Recognises (λ us. false) (λ w. ⊥)
nothing_matches = record { word_of = λ us e. absurd (false≢true e); passes = λ us w e p. absurd e }

pub no_children_lem : Recognises (λ us. no_children us) (λ w. w ≡ [])
unfolding no_children
no_children_lem = record { word_of = word; passes = λ us w e p. pass (rw e at p) }
  where
    word : (us : List (List ℕ)) → no_children us ≡ true → Picked (λ w. w ≡ []) us
    word [] e = ([], refl, picks_none)
    word (u ∷ us) e = absurd (false≢true e)

    pass : {us : List (List ℕ)} → Picks us [] → no_children us ≡ true
    pass picks_none = refl

pub one_child_lem : (k : ℕ) → Recognises (λ us. one_child k us) (λ w. w ≡ k ∷ [])
unfolding one_child
one_child_lem k = record { word_of = word; passes = λ us w e p. pass (rw e at p) }
  where
    word : (us : List (List ℕ)) → one_child k us ≡ true → Picked (λ w. w ≡ k ∷ []) us
    word [] e = absurd (false≢true e)
    word (u ∷ []) e = (k ∷ [], refl, picks_next (in_mem k u e) picks_none)
    word (u ∷ v ∷ vs) e = absurd (false≢true e)

    pass : {us : List (List ℕ)} → Picks us (k ∷ []) → one_child k us ≡ true
    pass (picks_next m picks_none) = mem_in m

-- in_turn passes just where the children have a front that passes the first test and a back that passes the second
in_turn_next : (c : List ℕ) (cs : List (List ℕ)) (first second : Test)
    → in_turn (c ∷ cs) first second ≡ ((first [] && second (c ∷ cs)) || in_turn cs (λ us. first (c ∷ us)) second)
unfolding in_turn
in_turn_next c cs first second = go (first []) refl
  where
    go : (b : Bool) → first [] ≡ b
        → in_turn (c ∷ cs) first second ≡ ((first [] && second (c ∷ cs)) || in_turn cs (λ us. first (c ∷ us)) second)
    go true e = rw (e, in_turn)
    go false e = rw (e, in_turn)

abbrev PassInTurn : Test → Test → List (List ℕ) → Type 0
PassInTurn first second us = MatchedParts (λ us. first us ≡ true) (λ us. second us ≡ true) us

in_turn_parts : (us : List (List ℕ)) (first second : Test) → in_turn us first second ≡ true → PassInTurn first second us
unfolding in_turn
in_turn_parts [] first second e =
    all_behind [] (and_left (first []) (second []) e) (and_right (first []) (second []) e)
in_turn_parts (c ∷ cs) first second e =
    ⊎_elim
    (λ h. all_behind (c ∷ cs) (and_left (first []) (second (c ∷ cs)) h) (and_right (first []) (second (c ∷ cs)) h))
    (λ h. one_more_in_front c (λ us q. q) (in_turn_parts cs (λ us. first (c ∷ us)) second h))
    (or_cases
    (first [] && second (c ∷ cs))
    (in_turn cs (λ us. first (c ∷ us)) second)
    (sym (in_turn_next c cs first second) ∙ e))

parts_in_turn : (front back : List (List ℕ)) (first second : Test) → first front ≡ true → second back ≡ true
    → in_turn (front ++ back) first second ≡ true
unfolding in_turn
parts_in_turn [] [] first second p q = and_intro (first []) (second []) p q
parts_in_turn [] (c ∷ cs) first second p q =
    in_turn_next c cs first second
    ∙ or_left
    (first [] && second (c ∷ cs))
    (in_turn cs (λ us. first (c ∷ us)) second)
    (and_intro (first []) (second (c ∷ cs)) p q)
parts_in_turn (c ∷ cs) back first second p q =
    in_turn_next c (cs ++ back) first second
    ∙ or_right
    (first [] && second (c ∷ (cs ++ back)))
    (in_turn (cs ++ back) (λ us. first (c ∷ us)) second)
    (parts_in_turn cs back (λ us. first (c ∷ us)) second p q)

-- the words that pick from two parts, joined
joined_picked : {L M : Language} {us front back : List (List ℕ)} → us ≡ front ++ back → Picked L front → Picked M back
    → Picked (Joined L M) us
joined_picked e a b = (
  a.0 ++ b.0,
  record { front = a.0; back = b.0; joined = refl; front_in = a.1; back_in = b.1 },
  rw e (picks_join a.2 b.2),
)

-- tests of two languages
module _ {s t : Test} {L M : Language} (p : Recognises s L) (q : Recognises t M) where
  pub either : Recognises (λ us. s us || t us) (λ w. L w ⊎ M w)
  either =
      record {
        word_of =
            λ us e.
            ⊎_elim
            (λ h. let r = p.word_of us h in (r.0, inl r.1, r.2))
            (λ h. let r = q.word_of us h in (r.0, inr r.1, r.2))
            (or_cases (s us) (t us) e);
        passes =
            λ us w e k.
            ⊎_elim
            (λ h. or_left (s us) (t us) (p.passes us w h k))
            (λ h. or_right (s us) (t us) (q.passes us w h k))
            e;
      }

  pub in_turn_lem : Recognises (λ us. in_turn us s t) (Joined L M)
  in_turn_lem = record { word_of = word; passes = λ us w j k. pass j (picks_parts j.front j.back (rw j.joined at k)) }
    where
      word : (us : List (List ℕ)) → in_turn us s t ≡ true → Picked (Joined L M) us
      word us e =
          let r = in_turn_parts us s t e in
          joined_picked r.joined (p.word_of r.front r.of_front) (q.word_of r.back r.of_back)

      pass : {us : List (List ℕ)} {w : List ℕ} (j : Joined L M w) → PickInTurn j.front j.back us → in_turn us s t ≡ true
      pass j r =
          rw
          r.joined
          (parts_in_turn
          r.front
          r.back
          s
          t
          (p.passes r.front j.front j.front_in r.of_front)
          (q.passes r.back j.back j.back_in r.of_back))

pub joined_repeated : {L : Language} {w : List ℕ} → Joined L (RepeatedWords L) w → RepeatedWords L w
joined_repeated j = rw j.joined (one_more j.front_in j.back_in)

-- A test passes repeated parts just where repeated words pick. Empty parts, which the test leaves out, change no word.
module _ {test : Test} {L : Language} (p : Recognises test L) where
  repeated_word : (n : ℕ) (us : List (List ℕ)) → repeated_within n test us ≡ true → Picked (RepeatedWords L) us
  unfolding repeated_within
  repeated_word zero [] e = ([], no_more, picks_none)
  repeated_word zero (c ∷ cs) e = absurd (false≢true e)
  repeated_word (suc n) [] e = ([], no_more, picks_none)
  repeated_word (suc n) (c ∷ cs) e =
      let r = in_turn_parts cs (λ us. test (c ∷ us)) (repeated_within n test) e in
      let front = p.word_of (c ∷ r.front) r.of_front in
      let back = repeated_word n r.back r.of_back in
      let j = joined_picked (ap (λ us. c ∷ us) r.joined) front back in
      (j.0, joined_repeated j.1, j.2)

  no_part : (n : ℕ) {us : List (List ℕ)} → Picks us [] → repeated_within n test us ≡ true
  unfolding repeated_within
  no_part zero picks_none = refl
  no_part (suc n) picks_none = refl

  next_part : (n : ℕ) {us : List (List ℕ)} {k : ℕ} (w z : List ℕ) → length us ≤ n → L (k ∷ w)
      → ((m : ℕ) (vs : List (List ℕ)) → length vs ≤ m → Picks vs z → repeated_within m test vs ≡ true) → Picks us (k ∷ (w ++ z))
      → repeated_within n test us ≡ true
  unfolding repeated_within
  next_part zero w z h l rest (picks_next m q) = absurd (omega arith)
  next_part (suc n) {k = k} w z h l rest (picks_next {types = c} {us = cs} m q) =
      let r = picks_parts w z q in
      let e : length cs ≡ length (r.front ++ r.back) = ap length r.joined in
      rw
      r.joined
      (parts_in_turn
      r.front
      r.back
      (λ us. test (c ∷ us))
      (repeated_within n test)
      (p.passes (c ∷ r.front) (k ∷ w) l (picks_next m r.of_front))
      (rest n r.back (omega (arith, length-append r.front r.back)) r.of_back))

  repeated_passes : {w : List ℕ} → RepeatedWords L w → (n : ℕ) (us : List (List ℕ)) → length us ≤ n → Picks us w
      → repeated_within n test us ≡ true
  repeated_passes no_more n us h q = no_part n q
  repeated_passes (one_more {u = []} l r) n us h q = repeated_passes r n us h q
  repeated_passes (one_more {u = k ∷ w} {v = z} l r) n us h q = next_part n w z h l (λ m vs i k. repeated_passes r m vs i k) q

  pub any_number_lem : Recognises (λ us. repeated test us) (RepeatedWords L)
  unfolding repeated
  any_number_lem =
      record {
        word_of = λ us e. repeated_word (length us) us e;
        passes = λ us w r k. repeated_passes r (length us) us (le_refl (length us)) k;
      }

mutual
  unfolding matches

  pub matches_words : (c : Content) → Recognises (matches c) (Word c)
  matches_words none = nothing_matches
  matches_words empty = no_children_lem
  matches_words (type k) = one_child_lem k
  matches_words (sequence cs) = matches_in_turn_lem cs
  matches_words (choice cs) = matches_one_lem cs
  matches_words (any_number c) = any_number_lem (matches_words c)
  matches_words (one_or_more c) = in_turn_lem (matches_words c) (any_number_lem (matches_words c))
  matches_words (optional c) = either no_children_lem (matches_words c)

  pub matches_in_turn_lem : (cs : Contents) → Recognises (matches_in_turn cs) (InTurn cs)
  matches_in_turn_lem []ᶜ = no_children_lem
  matches_in_turn_lem (c ∷ᶜ cs) = in_turn_lem (matches_words c) (matches_in_turn_lem cs)

  pub matches_one_lem : (cs : Contents) → Recognises (matches_one cs) (OfOne cs)
  matches_one_lem []ᶜ = nothing_matches
  matches_one_lem (c ∷ᶜ cs) = either (matches_words c) (matches_one_lem cs)
