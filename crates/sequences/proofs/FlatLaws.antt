-- A choice of child sequences nests little, and is as wide as there are sequences: what makes it too large are its bytes or its operands.
use Prim.Native.Nat.{ℕ, ◌+◌, ◌≤◌, ◌<◌}
use native.Mathlib.Omega.{arith}
use mathlib.Core.Bool.{Bool, true, false, ◌||◌}
use mathlib.Core.List.Memᴰ
use mathlib.Core.List.{List, [], ◌∷◌, map, append-nil, Memᴰ}
use mathlib.Core.Option.{some as just}
use mathlib.Core.Path.{◌≡◌, refl, subst}
use lib.Dec.{eqb, ltb}
use borrow.Author.Tests.{lt-ltb, le-ltb}
use lib.ListN.{length, get_or}
use Rattle.grammar.specs.Lists.{keep, numbers_below}
use Rattle.grammar.specs.Limits.{standard, large, content_limit, operand_limit, nesting_limit}
use Rattle.grammar.specs.Content.{Content, operands, choice_of, nesting, deepest}
use Rattle.grammar.specs.ReadContent.{content_bytes, same_content}
use Rattle.grammar.specs.Size.{widest_choice, widest_of, content_too_large}
use Rattle.grammar.specs.Sample.{Run, runs_of, run_content, as_sequence, sequence_of}
use Rattle.theory.specs.Alternatives.{gathered, one_content}
use Rattle.theory.proofs.Lists.BoolLaws.{or_left, or_none}
use Rattle.theory.proofs.Lists.ListLaws.{distinct_was}
use Rattle.theory.proofs.Emission.GatheringLaws.{written_gathered}
use Rattle.theory.proofs.Contents.CountedContents.{operands_count}
use Rattle.reader.specs.ExprAt.{◌up_to◌, expr_at}
use Rattle.reader.proofs.ExprLaws.{expr_written}
use Rattle.operands.specs.Drafts.{Row, TooWide}
use Rattle.sequences.specs.SampleContents.{sequence_in, sequences_among, content_in}
use Rattle.operands.proofs.KeptLaws.{row_count}
use Rattle.operands.proofs.WideLaws.{too_large}

record Flat (c : Content) : Type 0 where
  shallow : nesting c ≤ 3
  narrow : widest_choice c ≡ 0

run_flat : (r : Run) → (nesting (run_content r) ≤ 2) × (widest_choice (run_content r) ≡ 0)
unfolding nesting widest_choice run_content
run_flat r = go r.several refl
  where
    go : (s : Bool) → r.several ≡ s → (nesting (run_content r) ≤ 2) × (widest_choice (run_content r) ≡ 0)
    go true e = rw (run_content, e) (omega arith, refl)
    go false e = rw (run_content, e) (omega arith, refl)

runs_flat : (rs : List Run) → (deepest (operands (map run_content rs)) ≤ 2) × (widest_of (operands (map run_content rs)) ≡ 0)
unfolding deepest widest_of operands
runs_flat [] = (omega arith, refl)
runs_flat (r ∷ rs) =
    let f = run_flat r in
    let h = runs_flat rs in
    (omega arith, omega arith)

turn_flat : (rs : List Run) → Flat (as_sequence (map run_content rs))
unfolding as_sequence nesting widest_choice operands
turn_flat [] = record { shallow = omega arith; narrow = refl }
turn_flat (r ∷ []) = let f = run_flat r in record { shallow = omega arith; narrow = f.1 }
turn_flat (r ∷ q ∷ rs) = let h = runs_flat (r ∷ q ∷ rs) in record { shallow = omega arith; narrow = h.1 }

sequence_flat : (ks : List ℕ) → Flat (sequence_of ks)
unfolding sequence_of
sequence_flat ks = turn_flat (runs_of ks)

all_flat : (ds : List Content) → ((c : Content) → Memᴰ c ds → Flat c) → (deepest (operands ds) ≤ 3) × (widest_of (operands ds) ≡ 0)
unfolding deepest widest_of operands
all_flat [] h = (omega arith, refl)
all_flat (d ∷ ds) h =
    let f = h d (Memᴰ.head refl) in
    let a = f.shallow in
    let b = f.narrow in
    let r = all_flat ds (λ c m. h c (Memᴰ.tail m)) in
    (omega arith, omega arith)

choice_flat : (ds : List Content) → ((c : Content) → Memᴰ c ds → Flat c) → (nesting (choice_of ds) ≤ 4) × (widest_choice (choice_of ds) ≤ length ds)
unfolding choice_of nesting widest_choice operands
choice_flat [] h = (omega arith, omega arith)
choice_flat (c ∷ []) h =
    let f = h c (Memᴰ.head refl) in
    let a = f.shallow in
    let b = f.narrow in
    (omega arith, omega arith)
choice_flat (c ∷ d ∷ ds) h =
    let r = all_flat (c ∷ d ∷ ds) h in
    let n = operands_count (c ∷ d ∷ ds) in
    (omega arith, omega arith)

module _ (parents types : List ℕ) (n k : ℕ) where
  abbrev among : List Content
  among = sequences_among parents types n k (numbers_below n)

  gathered_flat : (c : Content) → Memᴰ c (gathered [] among) → Flat c
  unfolding gathered
  gathered_flat c m =
      let (i, o, e) = Memᴰ.of_map (sequence_in parents types n) (keep (λ (j : ℕ). eqb (get_or types j 0) k) (numbers_below n)) (distinct_was same_content among m) in
      subst Flat e (sequence_flat _)

  -- few enough bytes, and few enough operands
  pub content_fits : {d : List ℕ} {c end : ℕ} → Row d 4 c (gathered [] among) end → length (content_bytes (content_in parents types n k)) ≤ content_limit
      → content_too_large large (content_in parents types n k) ≡ false
  unfolding content_too_large large
  content_fits {d} {c} {end} r h =
      let f = choice_flat (gathered [] among) gathered_flat in
      let m = (row_count d 4 c end (gathered [] among) r).0 in
      let few = r.few in
      let x = content_in parents types n k in
      or_none (ltb content_limit (length (content_bytes x)) || ltb nesting_limit (nesting x)) (ltb operand_limit (widest_choice x))
      (or_none (ltb content_limit (length (content_bytes x))) (ltb nesting_limit (nesting x)) (le-ltb content_limit (length (content_bytes x)) h) (le-ltb nesting_limit (nesting x) (omega arith)))
      (le-ltb operand_limit (widest_choice x) (omega arith))

  pub content_over : content_limit < length (content_bytes (content_in parents types n k))
      → content_too_large large (content_in parents types n k) ≡ true
  unfolding content_too_large large
  content_over h =
      let x = content_in parents types n k in
      or_left (ltb content_limit (length (content_bytes x)) || ltb nesting_limit (nesting x)) (ltb operand_limit (widest_choice x))
      (or_left (ltb content_limit (length (content_bytes x))) (ltb nesting_limit (nesting x)) (lt-ltb content_limit (length (content_bytes x)) h))

  pub content_wide : TooWide content_limit (gathered [] among) → content_too_large large (content_in parents types n k) ≡ true
  unfolding content_too_large standard large
  content_wide w =
      subst (λ (x : Content). content_too_large large x ≡ true) (written_gathered among)
      (subst (λ (xs : List Content). content_too_large large (one_content xs) ≡ true) (append-nil among) (too_large among [] w))

  pub content_length : (d : List ℕ) (stop : ℕ) → expr_at d 2 ≡ just (content_in parents types n k up_to stop)
      → stop ≡ 2 + length (content_bytes (content_in parents types n k))
  content_length d stop e = (expr_written d 2 (content_in parents types n k) stop e).next_is
