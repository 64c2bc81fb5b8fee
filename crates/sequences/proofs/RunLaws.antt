-- The runs of children, found and written child by child:
--   runs_on, runs_end : how many runs there are from a child on
--   run_room, run_next : room for the run that begins at a child ; it is written
--   put_empty, put_alone, put_several : the sequence's bytes by the number of runs
use Prim.Native.Nat.{ℕ, suc, ◌+◌, ◌-◌, ◌*◌, ◌≤◌, ◌<◌}
use native.Mathlib.Omega.{arith}
use mathlib.Core.Bool.{Bool, true, false, not, ◌&&◌, true≢false, false≢true}
use mathlib.Core.List.{List, [], ◌∷◌, ◌++◌, map, append-nil, append_assoc}
use mathlib.Core.Path.{◌≡◌, refl, sym, ◌∙◌, ap, subst}
use lib.Dec.{eqb, ltb}
use lib.ListN.{length, length-append, length-map, get_or, set, drop, drop_of_length-le}
use borrow.Author.Tests.{lt-ltb, le-ltb, ltb-true, ltb-false}
use Rattle.grammar.specs.Content.{operands}
use Rattle.grammar.specs.ReadContent.{content_bytes, operand_bytes}
use Rattle.grammar.specs.Sample.{Run, with_child, runs_of, run_content, as_sequence, sequence_of}
use Rattle.theory.specs.Alternatives.{only_if}
use Rattle.theory.proofs.Contents.CountedContents.{operands_count}
use Rattle.basis.proofs.FromPlaces.{from_place}
use Rattle.writer.specs.Writing.{Put}
use Rattle.writer.proofs.PutLaws.{put_none, put_one, put_two, put_three, put_join, put_length}
use Rattle.sequences.specs.SampleContents.{goes_on, run, runs_bytes}

-- the next child is of this type
pub next_is : ℕ → List ℕ → Bool
next_is k [] = false
next_is k (l ∷ ls) = eqb k l

-- the runs that begin in these children, the first of which begins one or not
pub runs_from : Bool → List ℕ → List Run
unfolding next_is only_if
runs_from begins [] = []
runs_from begins (k ∷ ks) = only_if begins (run k (next_is k ks) ∷ []) ++ runs_from (not (next_is k ks)) ks

runs_cons : (k : ℕ) (ks : List ℕ) → runs_of (k ∷ ks) ≡ run k (next_is k ks) ∷ runs_from (not (next_is k ks)) ks
unfolding runs_of with_child runs_from next_is only_if
runs_cons k [] = refl
runs_cons k (l ∷ ls) = ap (with_child k) (runs_cons l ls) ∙ go (eqb k l) refl
  where
    go : (b : Bool) → eqb k l ≡ b
        → with_child k (run l (next_is l ls) ∷ runs_from (not (next_is l ls)) ls) ≡ run k (eqb k l) ∷ runs_from (not (eqb k l)) (l ∷ ls)
    go true e = rw (with_child, e) refl
    go false e = rw (with_child, e) refl

runs_from_lem : (ks : List ℕ) → runs_from true ks ≡ runs_of ks
unfolding runs_from runs_of only_if
runs_from_lem [] = refl
runs_from_lem (k ∷ ks) = sym (runs_cons k ks)

goes_on_lem : (ks : List ℕ) (p : ℕ) → p < length ks → goes_on ks p ≡ next_is (get_or ks p 0) (drop (p + 1) ks)
unfolding next_is
goes_on_lem ks p h = go (ltb (p + 1) (length ks)) refl
  where
    go : (b : Bool) → ltb (p + 1) (length ks) ≡ b → goes_on ks p ≡ next_is (get_or ks p 0) (drop (p + 1) ks)
    go true e =
        ap (λ (t : Bool). t && eqb (get_or ks p 0) (get_or ks (p + 1) 0)) e
        ∙ sym (ap (next_is (get_or ks p 0)) (from_place ks (p + 1) (ltb-true (p + 1) (length ks) e)))
    go false e =
        ap (λ (t : Bool). t && eqb (get_or ks p 0) (get_or ks (p + 1) 0)) e
        ∙ sym (ap (next_is (get_or ks p 0)) (drop_of_length-le ks (ltb-false (p + 1) (length ks) e)))

-- how many runs
count_on : (k : ℕ) (ks : List ℕ) → next_is k ks ≡ true → length (runs_of (k ∷ ks)) ≡ length (runs_of ks)
unfolding next_is runs_from only_if
count_on k [] e = absurd (false≢true e)
count_on k (l ∷ ls) e =
    ap length (runs_cons k (l ∷ ls))
    ∙ ap (λ (b : Bool). suc (length (runs_from (not b) (l ∷ ls)))) e
    ∙ ap length (sym (runs_cons l ls))

count_end : (k : ℕ) (ks : List ℕ) → next_is k ks ≡ false → length (runs_of (k ∷ ks)) ≡ suc (length (runs_of ks))
count_end k ks e =
    ap length (runs_cons k ks)
    ∙ ap (λ (b : Bool). suc (length (runs_from (not b) ks))) e
    ∙ ap (λ (rs : List Run). suc (length rs)) (runs_from_lem ks)

module _ (ks : List ℕ) (p : ℕ) (h : p < length ks) where
  pub runs_on : goes_on ks p ≡ true → length (runs_of (drop p ks)) ≡ length (runs_of (drop (p + 1) ks))
  runs_on e =
      ap (λ (l : List ℕ). length (runs_of l)) (from_place ks p h) ∙ count_on (get_or ks p 0) (drop (p + 1) ks) (sym (goes_on_lem ks p h) ∙ e)

  pub runs_end : goes_on ks p ≡ false → length (runs_of (drop p ks)) ≡ suc (length (runs_of (drop (p + 1) ks)))
  runs_end e =
      ap (λ (l : List ℕ). length (runs_of l)) (from_place ks p h) ∙ count_end (get_or ks p 0) (drop (p + 1) ks) (sym (goes_on_lem ks p h) ∙ e)

pub runs_passed : (ks : List ℕ) (p : ℕ) → length ks ≤ p → length (runs_of (drop p ks)) ≡ 0
unfolding runs_of
runs_passed ks p h = ap (λ (l : List ℕ). length (runs_of l)) (drop_of_length-le ks h)

-- the bytes of runs
bytes_append : (rs ss : List Run) → runs_bytes (rs ++ ss) ≡ runs_bytes rs ++ runs_bytes ss
unfolding operands operand_bytes
bytes_append [] ss = refl
bytes_append (r ∷ rs) ss =
    ap (λ (l : List ℕ). content_bytes (run_content r) ++ l) (bytes_append rs ss)
    ∙ sym (append_assoc (content_bytes (run_content r)) (runs_bytes rs) (runs_bytes ss))

bytes_if : (b : Bool) (r : Run) → runs_bytes (only_if b (r ∷ [])) ≡ only_if b (content_bytes (run_content r))
unfolding only_if operands operand_bytes
bytes_if true r = append-nil (content_bytes (run_content r))
bytes_if false r = refl

abbrev pub bytes_from : Bool → List ℕ → List ℕ
bytes_from begins ks = runs_bytes (runs_from begins ks)

bytes_cons : (b : Bool) (k : ℕ) (ks : List ℕ)
    → bytes_from b (k ∷ ks) ≡ only_if b (content_bytes (run_content (run k (next_is k ks)))) ++ bytes_from (not (next_is k ks)) ks
unfolding runs_from
bytes_cons b k ks =
    bytes_append (only_if b (run k (next_is k ks) ∷ [])) (runs_from (not (next_is k ks)) ks)
    ∙ ap (λ (l : List ℕ). l ++ bytes_from (not (next_is k ks)) ks) (bytes_if b (run k (next_is k ks)))

bytes_step : (ks : List ℕ) (p : ℕ) → p < length ks → (b : Bool)
    → bytes_from b (drop p ks)
    ≡ only_if b (content_bytes (run_content (run (get_or ks p 0) (goes_on ks p)))) ++ bytes_from (not (goes_on ks p)) (drop (p + 1) ks)
bytes_step ks p h b =
    ap (bytes_from b) (from_place ks p h)
    ∙ bytes_cons b (get_or ks p 0) (drop (p + 1) ks)
    ∙ ap (λ (t : Bool). only_if b (content_bytes (run_content (run (get_or ks p 0) t))) ++ bytes_from (not t) (drop (p + 1) ks))
    (sym (goes_on_lem ks p h))

-- two bytes for each child are enough
next_some : (k : ℕ) (ks : List ℕ) → next_is k ks ≡ true → 1 ≤ length ks
unfolding next_is
next_some k [] e = absurd (false≢true e)
next_some k (l ∷ ls) e = omega arith

several_long : (k : ℕ) → length (content_bytes (run_content (run k true))) ≡ 3
unfolding content_bytes run_content
several_long k = refl

alone_long : (k : ℕ) → length (content_bytes (run_content (run k false))) ≡ 2
unfolding content_bytes run_content
alone_long k = refl

record Short (ks : List ℕ) : Type 0 where
  beginning : length (bytes_from true ks) ≤ 2 * length ks
  going_on : length (bytes_from false ks) ≤ 2 * (length ks - 1)

short : (ks : List ℕ) → Short ks
unfolding runs_from operands operand_bytes only_if
short [] = record { beginning = omega arith; going_on = omega arith }
short (k ∷ ks) = go (short ks) (next_is k ks) refl
  where
    long : (b t : Bool) → next_is k ks ≡ t
        → length (bytes_from b (k ∷ ks)) ≡ length (only_if b (content_bytes (run_content (run k t)))) + length (bytes_from (not t) ks)
    long b t e =
        ap length (bytes_cons b k ks)
        ∙ ap (λ (t : Bool). length (only_if b (content_bytes (run_content (run k t))) ++ bytes_from (not t) ks)) e
        ∙ length-append (only_if b (content_bytes (run_content (run k t)))) (bytes_from (not t) ks)

    go : Short ks → (t : Bool) → next_is k ks ≡ t → Short (k ∷ ks)
    go rest true e =
        let some = next_some k ks e in
        let three = several_long k in
        let less = rest.going_on in
        let a : length (bytes_from true (k ∷ ks)) ≡ length (content_bytes (run_content (run k true))) + length (bytes_from false ks) =
        long true true e in
        let b : length (bytes_from false (k ∷ ks)) ≡ 0 + length (bytes_from false ks) = long false true e in
        record { beginning = omega arith; going_on = omega arith }
    go rest false e =
        let two = alone_long k in
        let less = rest.beginning in
        let a : length (bytes_from true (k ∷ ks)) ≡ length (content_bytes (run_content (run k false))) + length (bytes_from true ks) =
        long true false e in
        let b : length (bytes_from false (k ∷ ks)) ≡ 0 + length (bytes_from true ks) = long false false e in
        record { beginning = omega arith; going_on = omega arith }

-- the runs that begin before a child are written
pub record RunsPut (before ks scratch : List ℕ) (at end p : ℕ) (begins : Bool) : Type 0 where
  pub bytes : List ℕ
  pub put : Put before at bytes scratch end
  pub rest : bytes ++ bytes_from begins (drop p ks) ≡ runs_bytes (runs_of ks)

pub put_no_run : (before ks : List ℕ) (at : ℕ) → at ≤ length before → RunsPut before ks before at at 0 true
put_no_run before ks at h = record { bytes = []; put = put_none before at h; rest = ap runs_bytes (runs_from_lem ks) }

module _ {before ks scratch : List ℕ} {at end p : ℕ} {begins : Bool} (so_far : RunsPut before ks scratch at end p begins) where
  pub runs_length : length scratch ≡ length before
  runs_length = put_length so_far.put

  module _ (h : p < length ks) (on : Bool) (is : on ≡ goes_on ks p) where
    abbrev here : List ℕ
    here = only_if begins (content_bytes (run_content (run (get_or ks p 0) on)))

    rest_is : so_far.bytes ++ here ++ bytes_from (not on) (drop (p + 1) ks) ≡ runs_bytes (runs_of ks)
    rest_is =
        append_assoc so_far.bytes here (bytes_from (not on) (drop (p + 1) ks))
        ∙ ap (λ (t : Bool). so_far.bytes ++ (only_if begins (content_bytes (run_content (run (get_or ks p 0) t))) ++ bytes_from (not t) (drop (p + 1) ks))) is
        ∙ ap (λ (l : List ℕ). so_far.bytes ++ l) (sym (bytes_step ks p h begins))
        ∙ so_far.rest

    pub run_room : at + 2 * length ks ≤ length before → end + length here ≤ length scratch
    run_room room =
        let whole = ap length rest_is ∙ ap (λ (rs : List Run). length (runs_bytes rs)) (sym (runs_from_lem ks)) in
        let a = length-append (so_far.bytes ++ here) (bytes_from (not on) (drop (p + 1) ks)) in
        let b = length-append so_far.bytes here in
        let few = (short ks).beginning in
        let same = runs_length in
        let next = so_far.put.next_is in
        omega arith

    pub run_next : {more : List ℕ} {next : ℕ} → Put scratch end here more next → RunsPut before ks more at next (p + 1) (not on)
    run_next q = record { bytes = so_far.bytes ++ here; put = put_join so_far.put q; rest = rest_is }

  pub all_runs : length ks ≤ p → Put before at (runs_bytes (runs_of ks)) scratch end
  unfolding runs_from operands operand_bytes
  all_runs h =
      subst (λ (l : List ℕ). Put before at l scratch end)
      (sym (append-nil so_far.bytes)
      ∙ ap (λ (l : List ℕ). so_far.bytes ++ bytes_from begins l) (sym (drop_of_length-le ks h))
      ∙ so_far.rest)
      so_far.put

-- whether a run goes on, as it is tested
pub on_last : (ks : List ℕ) (p : ℕ) → length ks - p < 2 → false ≡ goes_on ks p
on_last ks p h = sym (ap (λ (t : Bool). t && eqb (get_or ks p 0) (get_or ks (p + 1) 0)) (le-ltb (p + 1) (length ks) (omega arith)))

pub on_before : (ks : List ℕ) (p : ℕ) → 2 ≤ length ks - p → eqb (get_or ks p 0) (get_or ks (p + 1) 0) ≡ goes_on ks p
on_before ks p h = sym (ap (λ (t : Bool). t && eqb (get_or ks p 0) (get_or ks (p + 1) 0)) (lt-ltb (p + 1) (length ks) (omega arith)))

-- a run is written, by its bytes
module _ (before : List ℕ) (at k : ℕ) where
  abbrev RunPut : Bool → Bool → List ℕ → ℕ → Type 0
  RunPut begins several = Put before at (only_if begins (content_bytes (run_content (run k several))))

  pub put_nothing : (begins several : Bool) → at ≤ length before → not begins ≡ true → RunPut begins several before at
  unfolding only_if
  put_nothing true several h e = absurd (false≢true e)
  put_nothing false several h e = put_none before at h

  pub put_more : (begins several : Bool) → at + 3 ≤ length before → not begins ≡ false → several ≡ true
      → RunPut begins several (set (set (set before at 6) (at + 1) 2) (at + 2) k) (at + 3)
  unfolding only_if content_bytes run_content
  put_more true true h e f = put_three before at 6 2 k h
  put_more true false h e f = absurd (false≢true f)
  put_more false several h e f = absurd (true≢false e)

  pub put_one_child : (begins several : Bool) → at + 2 ≤ length before → not begins ≡ false → several ≡ false
      → RunPut begins several (set (set before at 2) (at + 1) k) (at + 2)
  unfolding only_if content_bytes run_content
  put_one_child true false h e f = put_two before at 2 k h
  put_one_child true true h e f = absurd (true≢false f)
  put_one_child false several h e f = absurd (true≢false e)

  -- and its room
  pub more_room : (begins several : Bool) → at + length (only_if begins (content_bytes (run_content (run k several)))) ≤ length before
      → not begins ≡ false → several ≡ true → at + 3 ≤ length before
  unfolding only_if content_bytes run_content
  more_room true true h e f = h
  more_room true false h e f = absurd (false≢true f)
  more_room false several h e f = absurd (true≢false e)

  pub one_room : (begins several : Bool) → at + length (only_if begins (content_bytes (run_content (run k several)))) ≤ length before
      → not begins ≡ false → several ≡ false → at + 2 ≤ length before
  unfolding only_if content_bytes run_content
  one_room true false h e f = h
  one_room true true h e f = absurd (true≢false f)
  one_room false several h e f = absurd (true≢false e)

-- the sequence by the number of runs
module _ (ks : List ℕ) where
  sequence_none : length (runs_of ks) ≡ 0 → content_bytes (sequence_of ks) ≡ 1 ∷ []
  unfolding sequence_of as_sequence content_bytes
  sequence_none = go (runs_of ks)
    where
      go : (rs : List Run) → length rs ≡ 0 → content_bytes (as_sequence (map run_content rs)) ≡ 1 ∷ []
      go [] e = refl
      go (r ∷ rs) e = absurd (omega arith)

  sequence_one : length (runs_of ks) ≡ 1 → runs_bytes (runs_of ks) ≡ content_bytes (sequence_of ks)
  unfolding sequence_of as_sequence operand_bytes operands
  sequence_one = go (runs_of ks)
    where
      go : (rs : List Run) → length rs ≡ 1 → runs_bytes rs ≡ content_bytes (as_sequence (map run_content rs))
      go [] e = absurd (omega arith)
      go (r ∷ []) e = append-nil (content_bytes (run_content r))
      go (r ∷ q ∷ rs) e = absurd (omega arith)

  sequence_more : (m : ℕ) → 2 ≤ m → length (runs_of ks) ≡ m → (3 ∷ m ∷ []) ++ runs_bytes (runs_of ks) ≡ content_bytes (sequence_of ks)
  unfolding sequence_of as_sequence content_bytes
  sequence_more m h = go (runs_of ks)
    where
      go : (rs : List Run) → length rs ≡ m → 3 ∷ m ∷ runs_bytes rs ≡ content_bytes (as_sequence (map run_content rs))
      go [] e = absurd (omega arith)
      go (r ∷ []) e = absurd (omega arith)
      go (r ∷ q ∷ rs) e =
          ap (λ (x : ℕ). 3 ∷ x ∷ runs_bytes (r ∷ q ∷ rs))
          (sym (operands_count (map run_content (r ∷ q ∷ rs)) ∙ length-map (r ∷ q ∷ rs) run_content ∙ e))

  pub put_empty : (before : List ℕ) (at : ℕ) → length (runs_of ks) ≡ 0 → at + 1 ≤ length before
      → Put before at (content_bytes (sequence_of ks)) (set before at 1) (at + 1)
  put_empty before at e h =
      subst (λ (l : List ℕ). Put before at l (set before at 1) (at + 1)) (sym (sequence_none e)) (put_one before at 1 h)

  pub put_alone : {before after : List ℕ} {at next : ℕ} → length (runs_of ks) ≡ 1 → Put before at (runs_bytes (runs_of ks)) after next
      → Put before at (content_bytes (sequence_of ks)) after next
  put_alone {before} {after} {at} {next} e p = subst (λ (l : List ℕ). Put before at l after next) (sequence_one e) p

  pub put_several : (before : List ℕ) {after : List ℕ} (at : ℕ) {next : ℕ} (m : ℕ) → 2 ≤ m → length (runs_of ks) ≡ m → at + 2 ≤ length before
      → Put (set (set before at 3) (at + 1) m) (at + 2) (runs_bytes (runs_of ks)) after next
      → Put before at (content_bytes (sequence_of ks)) after next
  put_several before {after} at {next} m h e r p =
      subst (λ (l : List ℕ). Put before at l after next) (sequence_more m h e) (put_join (put_two before at 3 m r) p)

-- the same children, the same sequence
pub put_same : {before after ks ls : List ℕ} {at next : ℕ} → ks ≡ ls → Put before at (content_bytes (sequence_of ks)) after next
    → Put before at (content_bytes (sequence_of ls)) after next
put_same {before} {after} {at = at} {next = next} e p = subst (λ (l : List ℕ). Put before at (content_bytes (sequence_of l)) after next) e p
