-- The child sequence of a node, by its runs:
--     sequence_word       the children's types are a word of it
--     sequence_type       a type that stands in it is a child's
--     sequence_counted    it has no more operands than there are children
use Prim.Native.Nat.{ℕ, suc, ◌≤◌}
use native.Mathlib.Omega.{arith}
use mathlib.Core.Bool.{Bool, true, false}
use mathlib.Core.List.Memᴰ
use mathlib.Core.List.{List, [], ◌∷◌, ◌++◌, map, append-nil, Memᴰ}
use mathlib.Core.Logic.{⊎_elim}
use mathlib.Core.Path.{◌≡◌, refl, sym, ◌∙◌, ap, subst}
use lib.Dec.{eqb}
use lib.ListN.{length, length-map}
use borrow.Author.Tests.{eqb-true}
use Rattle.grammar.specs.Limits.{Limits}
use Rattle.grammar.specs.Content.{
  Content,
  type,
  one_or_more,
  Word,
  InTurn,
  RepeatedWords,
  no_more,
  one_more,
  types_in,
  types_in_all,
  operands,
}
use Rattle.grammar.specs.Sample.{Run, with_child, runs_of, run_content, as_sequence, sequence_of}
use Rattle.theory.specs.Conditions.{Counted, AllCounted}
use Rattle.theory.proofs.Contents.CountedContents.{operands_count}

-- Contents in turn: the words, the types and the operands.
turn_word : (cs : List Content) (w : List ℕ) → InTurn (operands cs) w → Word (as_sequence cs) w
unfolding as_sequence operands
turn_word [] w v = v
turn_word (c ∷ []) w v =
    subst (Word c) (sym (v.joined ∙ ap (λ (l : List ℕ). v.front ++ l) v.back_in ∙ append-nil v.front)) v.front_in
turn_word (c ∷ d ∷ ds) w v = v

turn_type : (cs : List Content) (k : ℕ) → Memᴰ k (types_in (as_sequence cs)) → Memᴰ k (types_in_all (operands cs))
unfolding as_sequence operands types_in types_in_all
turn_type [] k m = m
turn_type (c ∷ []) k m = subst (Memᴰ k) (sym (append-nil (types_in c))) m
turn_type (c ∷ d ∷ ds) k m = m

turn_counted : (lim : Limits) (cs : List Content) → length cs ≤ lim.operands → AllCounted lim (operands cs) → Counted lim (as_sequence cs)
unfolding as_sequence operands
turn_counted lim [] h all = tt
turn_counted lim (c ∷ []) h all = all.0
turn_counted lim (c ∷ d ∷ ds) h all = let n = operands_count (c ∷ d ∷ ds) in (omega arith, omega arith, all)

-- a run as a content
run_several : (r : Run) → r.several ≡ true → run_content r ≡ one_or_more (type r.type)
unfolding run_content
run_several r e = rw (run_content, e) refl

run_alone : (r : Run) → r.several ≡ false → run_content r ≡ type r.type
unfolding run_content
run_alone r e = rw (run_content, e) refl

-- a word of a run repeats its type
run_repeats : (r : Run) {w : List ℕ} → Word (run_content r) w → RepeatedWords (Word (type r.type)) w
run_repeats r {w} = go r.several refl
  where
    go : (s : Bool) → r.several ≡ s → Word (run_content r) w → RepeatedWords (Word (type r.type)) w
    go true e v =
        let j = subst (λ (c : Content). Word c w) (run_several r e) v in
        subst (RepeatedWords (Word (type r.type))) (sym j.joined) (one_more j.front_in j.back_in)
    go false e v =
        let p : w ≡ r.type ∷ [] = subst (λ (c : Content). Word c w) (run_alone r e) v in
        subst (RepeatedWords (Word (type r.type))) (append-nil w) (one_more p no_more)

run_types : (r : Run) → types_in (run_content r) ≡ r.type ∷ []
unfolding types_in
run_types r = go r.several refl
  where
    go : (s : Bool) → r.several ≡ s → types_in (run_content r) ≡ r.type ∷ []
    go true e = ap types_in (run_several r e)
    go false e = ap types_in (run_alone r e)

run_counted : (lim : Limits) (r : Run) → Counted lim (run_content r)
run_counted lim r = go r.several refl
  where
    go : (s : Bool) → r.several ≡ s → Counted lim (run_content r)
    go true e = subst (Counted lim) (sym (run_several r e)) tt
    go false e = subst (Counted lim) (sym (run_alone r e)) tt

-- runs as contents
abbrev contents_of : List Run → List Content
contents_of rs = map run_content rs

runs_types : (rs : List Run) → types_in_all (operands (contents_of rs)) ≡ map (λ (r : Run). r.type) rs
unfolding operands types_in_all
runs_types [] = refl
runs_types (r ∷ rs) =
    ap (λ (l : List ℕ). l ++ types_in_all (operands (contents_of rs))) (run_types r) ∙ ap (λ (l : List ℕ). r.type ∷ l) (runs_types rs)

runs_counted : (lim : Limits) (rs : List Run) → AllCounted lim (operands (contents_of rs))
unfolding operands
runs_counted lim [] = tt
runs_counted lim (r ∷ rs) = (run_counted lim r, runs_counted lim rs)

-- one child more, by whether it is of the first run's type
child_joins : (k : ℕ) (r : Run) (rs : List Run) → eqb k r.type ≡ true → with_child k (r ∷ rs) ≡ record { type = k; several = true } ∷ rs
unfolding with_child
child_joins k r rs e = rw (with_child, e) refl

child_alone : (k : ℕ) (r : Run) (rs : List Run) → eqb k r.type ≡ false
    → with_child k (r ∷ rs) ≡ record { type = k; several = false } ∷ r ∷ rs
unfolding with_child
child_alone k r rs e = rw (with_child, e) refl

module _ (k : ℕ) where
  -- a word with the child in front
  with_child_word : (rs : List Run) (w : List ℕ) → InTurn (operands (contents_of rs)) w
      → InTurn (operands (contents_of (with_child k rs))) (k ∷ w)
  unfolding operands with_child run_content
  with_child_word [] w v = record { front = k ∷ []; back = w; joined = refl; front_in = refl; back_in = v }
  with_child_word (r ∷ rs) w v = go (eqb k r.type) refl
    where
      go : (t : Bool) → eqb k r.type ≡ t → InTurn (operands (contents_of (with_child k (r ∷ rs)))) (k ∷ w)
      go true e =
          let same = sym (eqb-true k r.type e) in
          subst (λ (l : List Run). InTurn (operands (contents_of l)) (k ∷ w)) (sym (child_joins k r rs e))
          (record {
            front = k ∷ v.front;
            back = v.back;
            joined = ap (λ (l : List ℕ). k ∷ l) v.joined;
            front_in =
                record {
                  front = k ∷ [];
                  back = v.front;
                  joined = refl;
                  front_in = refl;
                  back_in = subst (λ (j : ℕ). RepeatedWords (Word (type j)) v.front) same (run_repeats r v.front_in);
                };
            back_in = v.back_in;
          })
      go false e =
          subst (λ (l : List Run). InTurn (operands (contents_of l)) (k ∷ w)) (sym (child_alone k r rs e))
          (record { front = k ∷ []; back = w; joined = refl; front_in = refl; back_in = v })

  -- its types are the child's and those before
  with_child_type : (rs : List Run) (j : ℕ) → Memᴰ j (map (λ (r : Run). r.type) (with_child k rs))
      → Memᴰ j (k ∷ map (λ (r : Run). r.type) rs)
  unfolding with_child
  with_child_type [] j m = m
  with_child_type (r ∷ rs) j m = go (eqb k r.type) refl
    where
      go : (t : Bool) → eqb k r.type ≡ t → Memᴰ j (k ∷ map (λ (r : Run). r.type) (r ∷ rs))
      go true e =
          ⊎_elim Memᴰ.head (λ n. Memᴰ.tail (Memᴰ.tail n))
          (Memᴰ.cases_cons (subst (λ (l : List Run). Memᴰ j (map (λ (r : Run). r.type) l)) (child_joins k r rs e) m))
      go false e = subst (λ (l : List Run). Memᴰ j (map (λ (r : Run). r.type) l)) (child_alone k r rs e) m

  -- and there is at most one run more
  with_child_few : (rs : List Run) → length (with_child k rs) ≤ suc (length rs)
  unfolding with_child
  with_child_few [] = omega arith
  with_child_few (r ∷ rs) = go (eqb k r.type) refl
    where
      go : (t : Bool) → eqb k r.type ≡ t → length (with_child k (r ∷ rs)) ≤ suc (length (r ∷ rs))
      go true e = let n = ap length (child_joins k r rs e) in omega arith
      go false e = let n = ap length (child_alone k r rs e) in omega arith

runs_word : (ks : List ℕ) → InTurn (operands (contents_of (runs_of ks))) ks
unfolding runs_of operands
runs_word [] = refl
runs_word (k ∷ ks) = with_child_word k (runs_of ks) ks (runs_word ks)

runs_type : (ks : List ℕ) (j : ℕ) → Memᴰ j (map (λ (r : Run). r.type) (runs_of ks)) → Memᴰ j ks
unfolding runs_of
runs_type [] j m = m
runs_type (k ∷ ks) j m =
    ⊎_elim Memᴰ.head (λ n. Memᴰ.tail (runs_type ks j n)) (Memᴰ.cases_cons (with_child_type k (runs_of ks) j m))

pub runs_few : (ks : List ℕ) → length (runs_of ks) ≤ length ks
unfolding runs_of
runs_few [] = omega arith
runs_few (k ∷ ks) =
    let a = with_child_few k (runs_of ks) in
    let b = runs_few ks in
    omega arith

pub sequence_word : (ks : List ℕ) → Word (sequence_of ks) ks
unfolding sequence_of
sequence_word ks = turn_word (contents_of (runs_of ks)) ks (runs_word ks)

pub sequence_type : (ks : List ℕ) (k : ℕ) → Memᴰ k (types_in (sequence_of ks)) → Memᴰ k ks
unfolding sequence_of
sequence_type ks k m =
    runs_type ks k (subst (Memᴰ k) (runs_types (runs_of ks)) (turn_type (contents_of (runs_of ks)) k m))

pub sequence_counted : (lim : Limits) (ks : List ℕ) → length ks ≤ lim.operands → Counted lim (sequence_of ks)
unfolding sequence_of
sequence_counted lim ks h =
    let few = runs_few ks in
    let long = length-map (runs_of ks) run_content in
    turn_counted lim (contents_of (runs_of ks)) (omega arith) (runs_counted lim (runs_of ks))
