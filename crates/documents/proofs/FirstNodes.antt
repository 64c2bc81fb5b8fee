-- The first nodes that arrays hold: how many they are, each by its place, and what storing changes.
use Prim.Native.Nat.{ℕ, zero, suc, ◌+◌, ◌≤◌, ◌<◌}
use native.Mathlib.Numerals.{add-one}
use native.Mathlib.Omega.{arith}
use mathlib.Core.Bool.{Bool, true, false}
use mathlib.Core.List.{List, [], ◌∷◌, ◌++◌}
use mathlib.Core.Option.{some as just}
use mathlib.Core.Path.{◌≡◌, refl, sym, ◌∙◌, ap, ap₂, subst}
use lib.Dec.{ltb}
use lib.ListN.{length, get_or, set, get_elem?, length-append}
use lib.Seq.{get_or_at, get_or-set_same, get_or-set_other, set-append_left, set-append_seam}
use borrow.Author.Count.{below_more}
use borrow.Author.Tests.{ltb-true, ltb-false}
use Rattle.grammar.specs.ReadDocument.{Node}
use Rattle.theory.proofs.Lists.ListLaws.{at_joined, at_or_else, just_eq}
use Rattle.documents.specs.DocumentNodes.{node_from, node_at, first_nodes}

module _ (s names sizes shapes : List ℕ) where
  pub nodes_length : (n : ℕ) → length (first_nodes s names sizes shapes n) ≡ n
  unfolding first_nodes
  nodes_length zero = refl
  nodes_length (suc n) =
      let e = length-append (first_nodes s names sizes shapes n) (node_at s names sizes shapes n ∷ []) in
      let ih = nodes_length n in
      omega arith

  -- what is stored behind the first nodes does not matter
  pub nodes_kept : (n i a b k : ℕ) → n ≤ i
      → first_nodes s (set names i a) (set sizes i b) (set shapes i k) n ≡ first_nodes s names sizes shapes n
  unfolding first_nodes
  nodes_kept zero i a b k h = refl
  nodes_kept (suc n) i a b k h =
      ap₂ (λ (l : List Node) (x : Node). l ++ (x ∷ [])) (nodes_kept n i a b k (omega arith)) node_kept
    where
      node_kept : node_at s (set names i a) (set sizes i b) (set shapes i k) n ≡ node_at s names sizes shapes n
      node_kept =
          rw (
            get_or-set_other names i n a 0 (λ e. omega arith),
            get_or-set_other sizes i n b 0 (λ e. omega arith),
            get_or-set_other shapes i n k 0 (λ e. omega arith),
          )

  -- one node more
  pub nodes_more : (n a b k : ℕ) → n < length names → n < length sizes → n < length shapes
      → first_nodes s (set names n a) (set sizes n b) (set shapes n k) (n + 1)
      ≡ first_nodes s names sizes shapes n ++ (node_from s a b k ∷ [])
  unfolding first_nodes
  nodes_more n a b k p q r =
      ap (first_nodes s (set names n a) (set sizes n b) (set shapes n k)) (add-one n)
      ∙ ap₂ (λ (l : List Node) (x : Node). l ++ (x ∷ [])) (nodes_kept n n a b k (omega arith)) node_stored
    where
      node_stored : node_at s (set names n a) (set sizes n b) (set shapes n k) n ≡ node_from s a b k
      node_stored = rw (get_or-set_same names n a 0 p, get_or-set_same sizes n b 0 q, get_or-set_same shapes n k 0 r)

at_last : {A : Type 0} (l : List A) (x : A) (i : ℕ) → i ≡ length l → get_elem? (l ++ (x ∷ [])) i ≡ just x
at_last l x i h =
    let n = length-append l (x ∷ []) in
    at_or_else (l ++ (x ∷ [])) i x (omega arith) ∙ ap just (get_or_at l x [] x i (sym h))

pub node_at_lem : (s names sizes shapes : List ℕ) (n i : ℕ) → i < n
    → get_elem? (first_nodes s names sizes shapes n) i ≡ just (node_at s names sizes shapes i)
unfolding first_nodes
node_at_lem s names sizes shapes zero i h = absurd (omega arith)
node_at_lem s names sizes shapes (suc n) i h = go (ltb i n) refl (λ k. node_at_lem s names sizes shapes n i k)
  where
    long : length (first_nodes s names sizes shapes n) ≡ n
    long = nodes_length s names sizes shapes n

    go : (b : Bool) → ltb i n ≡ b
        → (i < n → get_elem? (first_nodes s names sizes shapes n) i ≡ just (node_at s names sizes shapes i))
        → get_elem? (first_nodes s names sizes shapes n ++ (node_at s names sizes shapes n ∷ [])) i ≡ just (node_at s names sizes shapes i)
    go true e ih =
        let k = ltb-true i n e in
        let l = long in
        at_joined (first_nodes s names sizes shapes n) (node_at s names sizes shapes n ∷ []) i (omega arith) ∙ ih k
    go false e ih =
        let k = ltb-false i n e in
        let l = long in
        let p : n ≡ i = omega arith in
        at_last (first_nodes s names sizes shapes n) (node_at s names sizes shapes n) i (omega arith)
        ∙ ap (λ (j : ℕ). just (node_at s names sizes shapes j)) p

-- the node where the nodes are split
pub node_there : (s names sizes shapes : List ℕ) (n : ℕ) (xs : List Node) (y : Node) (ys : List Node)
    → first_nodes s names sizes shapes n ≡ xs ++ (y ∷ ys)
    → (length xs < n) × (node_at s names sizes shapes (length xs) ≡ y)
node_there s names sizes shapes n xs y ys e =
    let long = nodes_length s names sizes shapes n in
    let count = length-append xs (y ∷ ys) in
    let same = ap length e in
    let here : length xs < n = omega arith in
    let at = at_or_else (xs ++ (y ∷ ys)) (length xs) y (omega arith) in
    let seam = get_or_at xs y ys y (length xs) refl in
    let found : get_elem? (first_nodes s names sizes shapes n) (length xs) ≡ just y =
    ap (λ (l : List Node). get_elem? l (length xs)) e ∙ at ∙ ap just seam in
    (here, just_eq (sym found ∙ node_at_lem s names sizes shapes n (length xs) here))

-- another shape stored for one of them
module _ (s names sizes shapes : List ℕ) where
  shapes_kept : (n i v : ℕ) → n ≤ i → first_nodes s names sizes (set shapes i v) n ≡ first_nodes s names sizes shapes n
  unfolding first_nodes
  shapes_kept zero i v h = refl
  shapes_kept (suc n) i v h =
      ap₂ (λ (l : List Node) (x : Node). l ++ (x ∷ [])) (shapes_kept n i v (omega arith))
      (ap (node_from s (get_or names n 0) (get_or sizes n 0)) (get_or-set_other shapes i n v 0 (λ e. omega arith)))

  shape_set : (n i v : ℕ) → i < n → i < length shapes
      → first_nodes s names sizes (set shapes i v) n
      ≡ set (first_nodes s names sizes shapes n) i (node_from s (get_or names i 0) (get_or sizes i 0) v)
  unfolding first_nodes
  shape_set zero i v h room = absurd (omega arith)
  shape_set (suc n) i v h room = go (ltb i n) refl (λ k. shape_set n i v k room)
    where
      first : List Node
      first = first_nodes s names sizes shapes n

      new : Node
      new = node_from s (get_or names i 0) (get_or sizes i 0) v

      go : (b : Bool) → ltb i n ≡ b → (i < n → first_nodes s names sizes (set shapes i v) n ≡ set first i new)
          → first_nodes s names sizes (set shapes i v) n ++ (node_at s names sizes (set shapes i v) n ∷ [])
          ≡ set (first ++ (node_at s names sizes shapes n ∷ [])) i new
      go true e ih =
          let k = ltb-true i n e in
          let long = nodes_length s names sizes shapes n in
          ap₂ (λ (l : List Node) (x : Node). l ++ (x ∷ [])) (ih k)
          (ap (node_from s (get_or names n 0) (get_or sizes n 0)) (get_or-set_other shapes i n v 0 (λ q. omega arith)))
          ∙ sym (set-append_left first (node_at s names sizes shapes n ∷ []) i new (omega arith))
      go false e ih =
          let k = ltb-false i n e in
          let same : n ≡ i = omega arith in
          let long = nodes_length s names sizes shapes n in
          let seam : length first ≡ i = omega arith in
          ap₂ (λ (l : List Node) (x : Node). l ++ (x ∷ [])) (shapes_kept n i v (omega arith))
          (ap (λ (j : ℕ). node_at s names sizes (set shapes i v) j) same
          ∙ ap (node_from s (get_or names i 0) (get_or sizes i 0)) (get_or-set_same shapes i v 0 room))
          ∙ sym
          (ap (λ (j : ℕ). set (first ++ (node_at s names sizes shapes n ∷ [])) j new) (sym seam)
          ∙ set-append_seam first (node_at s names sizes shapes n) [] new)

  -- where the nodes are split, the one there is another
  pub nodes_with : (n : ℕ) (xs : List Node) (y : Node) (ys : List Node) → first_nodes s names sizes shapes n ≡ xs ++ (y ∷ ys)
      → (i : ℕ) → i ≡ length xs → i < length shapes → (v : ℕ)
      → first_nodes s names sizes (set shapes i v) n ≡ xs ++ (node_from s (get_or names i 0) (get_or sizes i 0) v ∷ ys)
  nodes_with n xs y ys e i p room v =
      let there = node_there s names sizes shapes n xs y ys e in
      let new = node_from s (get_or names i 0) (get_or sizes i 0) v in
      shape_set n i v (subst (λ (k : ℕ). k < n) (sym p) there.0) room
      ∙ ap₂ (λ (l : List Node) (j : ℕ). set l j new) e p
      ∙ set-append_seam xs y ys new

-- one name more lies within the input
pub within_more : (s names sizes : List ℕ) (n a b : ℕ) → n < length names → n < length sizes → a + b ≤ length s
    → ((i : ℕ) → i < n → get_or names i 0 + get_or sizes i 0 ≤ length s)
    → (i : ℕ) → i < n + 1 → get_or (set names n a) i 0 + get_or (set sizes n b) i 0 ≤ length s
within_more s names sizes n a b p q new old =
    below_more (λ i. get_or (set names n a) i 0 + get_or (set sizes n b) i 0 ≤ length s) n
    (λ i h.
    let was = old i h in
    let x = get_or-set_other names n i a 0 (λ e. omega arith) in
    let y = get_or-set_other sizes n i b 0 (λ e. omega arith) in
    omega arith)
    (let x = get_or-set_same names n a 0 p in let y = get_or-set_same sizes n b 0 q in omega arith)
