-- The words before i are joined, the others are as they came.
use Rattle.std.specs.Prelude.{◌≡◌, ℕ, ◌<◌, ◌≤◌, List, length, slice_index, bit_or}
use Rattle.sets.proofs.set.Set.insert_all.Given as goal

pub record IsJoinedBelow (i : ℕ) (old other new : List ℕ) : Type 0 where
  pub as_long : length new ≡ length old
  pub below : (k : ℕ) → k < i → slice_index new k ≡ bit_or (slice_index old k) (slice_index other k)
  pub rest : (k : ℕ) → i ≤ k → slice_index new k ≡ slice_index old k

abbrev pub invariant-loop-i : goal.invariant-loop-i
invariant-loop-i g l = IsJoinedBelow l.i l.fn.self.words l.other.words l.self.words
