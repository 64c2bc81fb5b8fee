-- The open levels as the array holds them: closing those with none to come, and a node on the innermost.
use Prim.Native.Nat.{ℕ, zero, suc, ◌+◌, ◌-◌, ◌≤◌, ◌<◌}
use native.Mathlib.Numerals.{add-one}
use native.Mathlib.Omega.{arith}
use mathlib.Core.List.{List, ◌∷◌}
use mathlib.Core.Path.{◌≡◌, refl, sym, ◌∙◌, ap, ap₂}
use lib.ListN.{length, get_or, set, length-set}
use lib.Seq.{get_or-set_same, get_or-set_other}
use Rattle.grammar.specs.ReadDocument.{closed, after_node}
use Rattle.documents.specs.DocumentSteps.{open_levels, Open}

pub levels_length : (coming : List ℕ) (depth : ℕ) → length (open_levels coming depth) ≡ depth
unfolding open_levels
levels_length coming zero = refl
levels_length coming (suc d) = ap suc (levels_length coming d)

closed_zero : (n : ℕ) (outer : List ℕ) → n ≡ 0 → closed (n ∷ outer) ≡ closed outer
unfolding closed
closed_zero n outer e = ap (λ (k : ℕ). closed (k ∷ outer)) e

closed_some : (n : ℕ) (outer : List ℕ) → 0 < n → closed (n ∷ outer) ≡ n ∷ outer
unfolding closed
closed_some zero outer h = absurd (omega arith)
closed_some (suc n) outer h = refl

module _ (coming : List ℕ) where
  pub none_open : closed (open_levels coming 0) ≡ open_levels coming 0
  unfolding open_levels closed
  none_open = refl

  -- the innermost of some levels
  pub closes : (d : ℕ) → 0 < d → get_or coming (d - 1) 0 ≡ 0 → closed (open_levels coming d) ≡ closed (open_levels coming (d - 1))
  unfolding open_levels
  closes zero h e = absurd (omega arith)
  closes (suc d) h e = let p : suc d - 1 ≡ d = omega arith in
      closed_zero (get_or coming d 0) (open_levels coming d) (ap (λ (k : ℕ). get_or coming k 0) (sym p) ∙ e)
      ∙ ap (λ (k : ℕ). closed (open_levels coming k)) (sym p)

  pub stays_open : (d : ℕ) → 0 < d → (get_or coming (d - 1) 0 ≡ 0 → ⊥) → closed (open_levels coming d) ≡ open_levels coming d
  unfolding open_levels
  stays_open zero h e = absurd (omega arith)
  stays_open (suc d) h e = let p : suc d - 1 ≡ d = omega arith in
      let q = ap (λ (k : ℕ). get_or coming k 0) p in
      closed_some (get_or coming d 0) (open_levels coming d) (omega arith)

  pub some_to_come : (d : ℕ) → (get_or coming (d - 1) 0 ≡ 0 → ⊥) → (k : ℕ) → d ≡ suc k → 0 < get_or coming k 0
  some_to_come d e k q = let p : d - 1 ≡ k = omega arith in
      let r = ap (λ (k : ℕ). get_or coming k 0) p in omega arith

  -- a level further in does not matter
  pub levels_set : (d i v : ℕ) → d ≤ i → open_levels (set coming i v) d ≡ open_levels coming d
  unfolding open_levels
  levels_set zero i v h = refl
  levels_set (suc d) i v h =
      ap₂ (λ (n : ℕ) (l : List ℕ). n ∷ l) (get_or-set_other coming i d v 0 (λ e. omega arith)) (levels_set d i v (omega arith))

one_more : (coming : List ℕ) (d : ℕ) → open_levels coming (d + 1) ≡ get_or coming d 0 ∷ open_levels coming d
unfolding open_levels
one_more coming d = ap (open_levels coming) (add-one d)

peeled : (coming : List ℕ) (d : ℕ) → 0 < d → open_levels coming d ≡ get_or coming (d - 1) 0 ∷ open_levels coming (d - 1)
peeled coming d h = let p : d ≡ d - 1 + 1 = omega arith in ap (open_levels coming) p ∙ one_more coming (d - 1)

-- a node with so many children on the innermost level
after_some : (n children : ℕ) (outer : List ℕ) → 0 < n → after_node children (n ∷ outer) ≡ closed (children ∷ (n - 1) ∷ outer)
unfolding after_node
after_some zero children outer h = absurd (omega arith)
after_some (suc n) children outer h = let p : n ≡ suc n - 1 = omega arith in ap (λ (k : ℕ). closed (children ∷ k ∷ outer)) p

module _ (coming : List ℕ) (depth children : ℕ) (some : 0 < depth) (room : depth < length coming) (come : 0 < get_or coming (depth - 1) 0) where
  abbrev stored : List ℕ
  stored = set (set coming (depth - 1) (get_or coming (depth - 1) 0 - 1)) depth children

  stored_levels : open_levels stored (depth + 1) ≡ children ∷ (get_or coming (depth - 1) 0 - 1) ∷ open_levels coming (depth - 1)
  stored_levels =
      let once = set coming (depth - 1) (get_or coming (depth - 1) 0 - 1) in
      let n = length-set coming (depth - 1) (get_or coming (depth - 1) 0 - 1) in
      one_more stored depth
      ∙ ap₂ (λ (k : ℕ) (l : List ℕ). k ∷ l) (get_or-set_same once depth children 0 (omega arith)) (levels_set once depth depth children (omega arith))
      ∙ ap (λ (l : List ℕ). children ∷ l) (peeled once depth some)
      ∙ ap₂
      (λ (k : ℕ) (l : List ℕ). children ∷ k ∷ l)
      (get_or-set_same coming (depth - 1) (get_or coming (depth - 1) 0 - 1) 0 (omega arith))
      (levels_set coming (depth - 1) (depth - 1) (get_or coming (depth - 1) 0 - 1) (omega arith))

  pub node_opens : closed (open_levels stored (depth + 1)) ≡ after_node children (open_levels coming depth)
  node_opens =
      ap closed stored_levels
      ∙ sym (after_some (get_or coming (depth - 1) 0) children (open_levels coming (depth - 1)) come)
      ∙ ap (after_node children) (sym (peeled coming depth some))

pub inner : (coming : List ℕ) (depth : ℕ) → 0 < depth → Open coming depth → 0 < get_or coming (depth - 1) 0
inner coming depth h o = o.innermost (depth - 1) (omega arith)
