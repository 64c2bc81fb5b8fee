-- The place of the first that is the same (`place_first`, `place_nowhere`), searching names by where they stand (`found_here`,
-- `found_nowhere`), and the labels and starts of an index.
use Rattle.reader.specs.declared.index.TableIndex.{TableIndex}
use Prim.Native.Nat.{ℕ, zero, suc, ◌+◌, ◌<◌}
use native.Mathlib.Omega.{arith}
use mathlib.Core.Bool.{Bool, true, false}
use mathlib.Core.List.{List, [], ◌∷◌}
use mathlib.Core.Option.{some as just}
use mathlib.Core.Path.{◌≡◌, refl, sym, ◌∙◌, ap}
use lib.Dec.{ltb}
use lib.ListN.{length, get_or, get_elem?}
use borrow.Author.Tests.{ltb-true, ltb-false}
use Rattle.grammar.specs.Lists.{any_pass, place}
use Rattle.grammar.specs.Names.{Name, same_name}
use Rattle.grammar.specs.Table.{Table}
use Rattle.theory.proofs.Lists.BoolLaws.{false_of, not_both}
use Rattle.theory.proofs.Lists.PlaceLaws.{place_some, place_none}
use Rattle.theory.proofs.Lists.ListLaws.{any_found, any_of, mem_at, at_mem, at_below, below_at, just_eq}
use Rattle.reader.specs.NamePlaces.{NamesAt}
use Rattle.reader.specs.TableIndex.{label_count, start_type, start_count, part, BytesStand, Indexes}
use Rattle.reader.proofs.TableIndexLaws.{start_at}

-- places
module _ {A : Type 0} (same : A → A → Bool) (x : A) where
  pub place_first : (xs : List A) (i : ℕ) {y : A} → get_elem? xs i ≡ just y → same x y ≡ true
      → ((j : ℕ) (z : A) → j < i → get_elem? xs j ≡ just z → same x z ≡ false)
      → place same x xs ≡ i
  unfolding place
  place_first [] i e t h = let z : ◌≡◌ {A = ℕ} 0 1 = cc in absurd (omega arith)
  place_first (y ∷ ys) zero e t h = rw (ap (same x) (sym (just_eq e)) ∙ t, place)
  place_first (y ∷ ys) (suc i) e t h =
      let f = h zero y (omega arith) refl in
      rw (f, place) (ap suc (place_first ys i e t (λ j z k p. h (suc j) z (omega arith) p)))

  pub place_nowhere : (xs : List A) → ((j : ℕ) (z : A) → get_elem? xs j ≡ just z → same x z ≡ false) → place same x xs ≡ length xs
  unfolding place
  place_nowhere [] h = refl
  place_nowhere (y ∷ ys) h =
      let f = h zero y refl in
      rw (f, place) (ap suc (place_nowhere ys (λ j z p. h (suc j) z p)))

-- names by where they stand
module _ {s places : List ℕ} {count : ℕ} {list : List Name} (x : NamesAt s places count list) where
  pub name_at : (i : ℕ) → i < count → (n : Name) × (get_elem? list i ≡ just n) × BytesStand s (get_or places i 0) (get_or places (128 + i) 0) n
  name_at i h =
      let p = below_at list i (omega (arith, x.count)) in
      (p.0, p.1, x.name i p.0 p.1)

  module _ (name : Name) where
    pub found_here : (i : ℕ) → i < count
        → ((j : ℕ) → j < i → same_name name (part s (get_or places j 0) (get_or places (128 + j) 0)) ≡ false)
        → same_name name (part s (get_or places i 0) (get_or places (128 + i) 0)) ≡ true
        → i ≡ place same_name name list
    found_here i h before e =
        let p = name_at i h in
        sym
        (place_first same_name name list i p.1 (ap (same_name name) (sym p.2.bytes_are) ∙ e)
        (λ j z k q. ap (same_name name) (sym (x.name j z q).bytes_are) ∙ before j k))

    pub found_nowhere : ((j : ℕ) → j < count → same_name name (part s (get_or places j 0) (get_or places (128 + j) 0)) ≡ false)
        → count ≡ place same_name name list
    found_nowhere before =
        x.count
        ∙ sym
        (place_nowhere same_name name list
        (λ j z q.
        let b = at_below list j q in
        ap (same_name name) (sym (x.name j z q).bytes_are) ∙ before j (omega (arith, x.count))))

    -- a name is among the others if its place is below their number
    pub found_among : (p : ℕ) → p ≡ place same_name name list → ltb p count ≡ any_pass (same_name name) list
    found_among p e = go (ltb p count) refl
      where
        go : (b : Bool) → ltb p count ≡ b → b ≡ any_pass (same_name name) list
        go true t =
            let h = ltb-true p count t in
            let n = x.count in
            sym (place_some same_name name list (omega arith))
        go false t =
            let h = ltb-false p count t in
            let n = x.count in
            sym (place_none same_name name list (omega arith))

module _ {s : List ℕ} {index : TableIndex} {g : Table} (x : Indexes s index g) where
  -- the names of the labels
  pub index_names : {n : ℕ} → n ≡ label_count index → NamesAt s index.names n g.labels
  index_names e =
      let few = x.few_labels in
      let room = x.room.names in
      record { count = e ∙ x.labels; name = x.label; few = omega arith; room = omega arith }

  module _ (test : ℕ → Bool) where
    pub start_passes : (i : ℕ) → i < start_count index → test (start_type index i) ≡ true → any_pass test g.starts ≡ true
    start_passes i h e = any_of test (at_mem g.starts i (start_at x i h)) e

    pub no_start_passes : ((i : ℕ) → i < start_count index → test (start_type index i) ≡ false) → any_pass test g.starts ≡ false
    no_start_passes h =
        false_of
        (any_pass test g.starts)
        (λ e.
        let r = any_found test g.starts e in
        let p = mem_at r.1 in
        let b = at_below g.starts p.0 p.1 in
        not_both r.2 (ap test (sym (x.start p.0 r.0 p.1)) ∙ h p.0 (omega (arith, x.starts))))
