-- Names by where they stand: adding one (`names_more`), and the number of a label of the addition among the names of the union
-- (`label_old`, `label_new`, `label_below`).
use Rattle.reader.specs.declared.index.TableIndex.{TableIndex}
use Prim.Native.Nat.{ℕ, suc, ◌+◌, ◌≤◌, ◌<◌}
use native.Mathlib.Omega.{arith}
use native.Mathlib.Numerals.{add-one}
use mathlib.Core.Bool.{Bool, true, false, not}
use mathlib.Core.List.{List, [], ◌∷◌, ◌++◌, append-nil}
use mathlib.Core.Logic.{⊎_elim}
use mathlib.Core.Option.{some as just}
use mathlib.Core.Path.{◌≡◌, refl, sym, ◌∙◌, ap, subst}
use lib.ListN.{length, get_or, get_elem?, set, take, length-append, length-set}
use lib.Seq.{take-suc, take_all, get_or-set_other}
use lib.Dec.{leb}
use borrow.Author.Tests.{leb-true, leb-false}
use Rattle.grammar.specs.Lists.{any_pass, keep, place}
use Rattle.grammar.specs.Names.{Name, same_name}
use Rattle.grammar.specs.Table.{Table}
use Rattle.theory.proofs.Trees.NameLaws.{name_refl}
use Rattle.theory.proofs.Lists.ListLaws.{at_else, at_mem, at_below, any_of, keep_yes, keep_no, keep_mem}
use Rattle.theory.proofs.Lists.PlaceLaws.{place_some, place_none, place_front, place_found}
use Rattle.theory.proofs.Lists.DistinctLaws.{keep_append}
use Rattle.reader.specs.TableIndex.{label_from, label_to, label_count, part, BytesStand, Indexes, TableIndexed}
use Rattle.reader.proofs.TableIndexLaws.{at_end, put, stands_so, label_at}
use Rattle.union.specs.declared.labels.Names.{Names}
use Rattle.union.specs.UnitedLabels.{NamesHeld, names_if, new_names, united_names}

-- the name of each label of a table stands within its bytes
module _ {s : List ℕ} {index : TableIndex} (x : TableIndexed s index) (i : ℕ) (h : i < label_count index) where
  pub label_order : label_from index i ≤ label_to index i
  label_order = (label_at x.indexes i h).2.inside.order

  pub label_within : label_to index i ≤ length s
  label_within = (label_at x.indexes i h).2.inside.within

-- the place in joined lists
module _ {A : Type 0} (same : A → A → Bool) (x : A) where
  pub place_back : (xs ys : List A) → length xs ≤ place same x xs → place same x (xs ++ ys) ≡ length xs + place same x ys
  unfolding place
  place_back [] ys h = omega arith
  place_back (z ∷ zs) ys h = go (same x z) refl (place_back zs ys)
    where
      go : (b : Bool) → same x z ≡ b → (length zs ≤ place same x zs → place same x (zs ++ ys) ≡ length zs + place same x ys)
          → place same x (z ∷ zs ++ ys) ≡ length (z ∷ zs) + place same x ys
      go true e ih = let p : place same x (z ∷ zs) ≡ 0 = rw (e, place) in absurd (omega arith)
      go false e ih =
          let p : place same x (z ∷ zs) ≡ suc (place same x zs) = rw (e, place) in
          let q : place same x (z ∷ zs ++ ys) ≡ suc (place same x (zs ++ ys)) = rw (e, place) in
          let r = ih (omega arith) in
          omega arith

-- where one name more stands, and the others
module _ (places : List ℕ) (n from to : ℕ) (few : n < 128) (room : 256 ≤ length places) where
  abbrev longer : List ℕ
  longer = set (set places n from) (128 + n) to

  place_kept : (i : ℕ) → (i ≡ n → ⊥) → (i ≡ 128 + n → ⊥) → get_or longer i 0 ≡ get_or places i 0
  place_kept i p q = get_or-set_other (set places n from) (128 + n) i to 0 q ∙ get_or-set_other places n i from 0 p

  begins_put : (i : ℕ) → i ≡ n → get_or longer i 0 ≡ from
  begins_put i e = get_or-set_other (set places n from) (128 + n) i to 0 (λ h. omega arith) ∙ put places n i from (omega arith) e

  ends_put : (i : ℕ) → i ≡ n → get_or longer (128 + i) 0 ≡ to
  ends_put i e =
      let long = length-set places n from in
      put (set places n from) (128 + n) (128 + i) to (omega arith) (ap (λ (k : ℕ). 128 + k) e)

  longer_room : 256 ≤ length longer
  longer_room =
      let long = length-set (set places n from) (128 + n) to ∙ length-set places n from in
      omega arith

-- one name more
module _ {s : List ℕ} (names : Names) {list : List Name} (x : NamesHeld s names list) where
  pub names_more : (from to : ℕ) (n : Name) → names.count < 128 → BytesStand s from to n → (new : Bool) (more : List Name)
      → (new ≡ true → more ≡ list ++ (n ∷ []))
      → (new ≡ false → more ≡ list)
      → NamesHeld s (names_if new names from to) more
  unfolding names_if
  names_more from to n few st true more p q =
      let l = length-append list (n ∷ []) in
      let c = x.count in
      let m = names.count in
      let places = names.places in
      subst (λ (ms : List Name). NamesHeld s (names_if true names from to) ms) (sym (p refl))
      (record {
        count = omega arith;
        name =
            λ i k e.
            ⊎_elim
            (λ h.
            let b = at_below list i h in
            stands_so (x.name i k h)
            (place_kept places m from to few x.room i (λ z. omega arith) (λ z. omega arith))
            (place_kept places m from to few x.room (128 + i) (λ z. omega arith) (λ z. omega arith))
            refl)
            (λ h.
            let at : i ≡ m = h.0 ∙ sym c in
            stands_so st (begins_put places m from to few x.room i at) (ends_put places m from to few x.room i at) h.1)
            (at_end list n i k e);
        few = omega arith;
        room = longer_room places m from to few x.room;
      })
  names_more from to n few st false more p q = subst (λ (ms : List Name). NamesHeld s names ms) (sym (q refl)) x

-- the addition's names one by one
module _ (old added : List Name) where
  new_step : (i : ℕ) {n : Name} → get_elem? added i ≡ just n
      → new_names old (take (i + 1) added) ≡ new_names old (take i added) ++ new_names old (n ∷ [])
  unfolding new_names
  new_step i {n} e =
      let h = at_below added i e in
      ap (λ (k : ℕ). keep (λ m. not (any_pass (same_name m) old)) (take k added)) (add-one i)
      ∙ ap (keep (λ m. not (any_pass (same_name m) old))) (take-suc added i [] h ∙ ap (λ (m : Name). take i added ++ (m ∷ [])) (at_else added i [] e))
      ∙ keep_append (λ m. not (any_pass (same_name m) old)) (take i added) (n ∷ [])

  pub new_more : (i : ℕ) {n : Name} → get_elem? added i ≡ just n → length old ≤ place same_name n old
      → new_names old (take (i + 1) added) ≡ new_names old (take i added) ++ (n ∷ [])
  unfolding new_names
  new_more i {n} e h =
      new_step i e
      ∙ ap (λ (l : List Name). new_names old (take i added) ++ l)
      (keep_yes (λ m. not (any_pass (same_name m) old)) n [] (ap not (place_none same_name n old h)))

  pub new_same : (i : ℕ) {n : Name} → get_elem? added i ≡ just n → place same_name n old < length old
      → new_names old (take (i + 1) added) ≡ new_names old (take i added)
  unfolding new_names
  new_same i {n} e h =
      new_step i e
      ∙ ap (λ (l : List Name). new_names old (take i added) ++ l)
      (keep_no (λ m. not (any_pass (same_name m) old)) n [] (ap not (place_some same_name n old h)))
      ∙ append-nil (new_names old (take i added))

  pub new_none : new_names old (take 0 added) ≡ []
  unfolding new_names keep
  new_none = refl

  pub new_all : (i : ℕ) → length added ≤ i → new_names old (take i added) ≡ new_names old added
  new_all i h = ap (new_names old) (take_all i added h)

pub no_names : (s : List ℕ) (names : Names) → names.count ≡ 0 → length names.places ≡ 256 → NamesHeld s names []
no_names s names e long =
    record {
      count = e;
      name = λ i n q. let z : ◌≡◌ {A = ℕ} 0 1 = cc in absurd (omega arith);
      few = omega arith;
      room = omega arith;
    }

pub names_count : (b : Bool) (names : Names) (from to : ℕ) → (names_if b names from to).count ≤ names.count + 1
unfolding names_if
names_count true names from to = omega arith
names_count false names from to = omega arith

-- a label of the addition: where it stands, and its name's place among the old
module _ {old : List ℕ} {olds : TableIndex} {add : List ℕ} {adds : TableIndex} {g h : Table} (x : Indexes old olds g) (y : Indexes add adds h) (label : ℕ)
    (below : label < label_count adds) (from to count p : ℕ) (begins : from ≡ label_from adds label) (ends : to ≡ label_to adds label)
    (counted : count ≡ label_count olds) (placed : p ≡ place same_name (part add from to) g.labels) where
  abbrev news : List Name
  news = new_names g.labels h.labels

  name_of : (n : Name) × (get_elem? h.labels label ≡ just n) × BytesStand add from to n
  name_of =
      let a = label_at y label below in
      (a.0, a.1, stands_so a.2 begins ends refl)

  -- it is one name more, or none
  pub new_names_step : (fresh r : Names) → NamesHeld add fresh (new_names g.labels (take label h.labels))
      → fresh.count < 128
      → r ≡ names_if (leb count p) fresh (label_from adds label) (label_to adds label)
      → NamesHeld add r (new_names g.labels (take (label + 1) h.labels))
  new_names_step fresh r f room q =
      let a = name_of in
      let at : p ≡ place same_name a.0 g.labels = placed ∙ ap (λ (m : Name). place same_name m g.labels) a.2.bytes_are in
      let c = x.labels in
      subst (λ (names : Names). NamesHeld add names (new_names g.labels (take (label + 1) h.labels))) (sym q)
      (names_more fresh f (label_from adds label) (label_to adds label) a.0 room (stands_so a.2 (sym begins) (sym ends) refl)
      (leb count p)
      (new_names g.labels (take (label + 1) h.labels))
      (λ t. let l = leb-true count p t in new_more g.labels h.labels label a.1 (omega arith))
      (λ t. let l = leb-false count p t in new_same g.labels h.labels label a.1 (omega arith)))

  -- its number in the union
  name_is : part add from to ≡ get_or h.labels label []
  name_is =
      let a = name_of in
      a.2.bytes_are ∙ sym (at_else h.labels label [] a.1)

  pub label_old : p < count → p ≡ place same_name (get_or h.labels label []) (united_names g.labels h.labels)
  label_old l =
      let q = placed ∙ ap (λ (m : Name). place same_name m g.labels) name_is in
      let c = x.labels in
      let name = get_or h.labels label [] in
      q ∙ sym (place_front same_name name g.labels news (place_some same_name name g.labels (omega arith)))

  module _ (q : ℕ) (l : count ≤ p) (among : q ≡ place same_name (part add from to) (new_names g.labels h.labels)) where
    pub label_new : count + q ≡ place same_name (get_or h.labels label []) (united_names g.labels h.labels)
    label_new =
        let a = placed ∙ ap (λ (m : Name). place same_name m g.labels) name_is in
        let b = among ∙ ap (λ (m : Name). place same_name m news) name_is in
        let c = x.labels in
        let d = place_back same_name (get_or h.labels label []) g.labels news (omega arith) in
        omega arith

    -- a name that is not among the old is among the new ones
    pub label_below : (fresh : Names) → NamesHeld add fresh (new_names g.labels h.labels) → q < fresh.count
    unfolding new_names
    label_below fresh z =
        let a = name_of in
        let name = a.0 in
        let c = x.labels in
        let out = placed ∙ ap (λ (m : Name). place same_name m g.labels) a.2.bytes_are in
        let none = place_none same_name name g.labels (omega arith) in
        let new = keep_mem (λ (n : Name). not (any_pass (same_name n) g.labels)) (at_mem h.labels label a.1) (ap not none) in
        let found = place_found same_name name news (any_of (same_name name) new (name_refl name)) in
        let inside = at_below news (place same_name name news) found.1 in
        let at = among ∙ ap (λ (m : Name). place same_name m news) a.2.bytes_are in
        let n = z.count in
        omega arith

pub names_same : {s : List ℕ} (names : Names) {xs ys : List Name} → xs ≡ ys → NamesHeld s names xs → NamesHeld s names ys
names_same {s} names e x = subst (λ (l : List Name). NamesHeld s names l) e x

pub names_grow : (b : Bool) (names r : Names) (from to : ℕ) → r ≡ names_if b names from to → r.count ≤ names.count + 1
names_grow b names r from to e =
    let c = names_count b names from to in
    let d = ap (λ (n : Names). n.count) e in
    omega arith
