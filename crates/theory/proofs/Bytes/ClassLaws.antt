-- Names and the classes of their bytes.
--     all_classed      classes that load are 256
--     name_small       a name under so many classes is of bytes
--     never_named      no name has a byte that is never in names
--     table_letters    a table whose names are names under them is one whose names are names where every byte is a letter
use Prim.Native.Nat.{ℕ, zero, suc, ◌≤◌, ◌<◌}
use native.Mathlib.Omega.{arith}
use mathlib.Core.Bool.{true, ◌&&◌}
use mathlib.Core.List.Memᴰ
use mathlib.Core.List.{[], ◌∷◌, Memᴰ}
use mathlib.Core.Logic.{⊎_elim}
use mathlib.Core.Path.{◌≡◌, refl, ap, ◌∙◌}
use lib.ListN.{length, get_or, get_or-replicate}
use lib.Dec.{eqb, leb}
use borrow.Author.Tests.{eqb-true, leb-true}
use Rattle.grammar.specs.Lists.{all_pass, any_pass, is_in}
use Rattle.grammar.specs.Limits.{Limits}
use Rattle.grammar.specs.Names.{Name, Classes, is_name, never_in_names, loads, Loads}
use Rattle.grammar.specs.Table.{Table}
use Rattle.grammar.specs.WithinLimits.{TableWithin}
use Rattle.theory.specs.Conditions.{all_letters}
use Rattle.theory.proofs.Lists.BoolLaws.{and_left, and_right, and_intro}
use Rattle.theory.proofs.Lists.ListLaws.{all_at, all_of, in_mem}
use Rattle.theory.proofs.Bytes.FieldBytes.{AreBytes}

-- what loading asks of the bytes that are never in names
never_class : (classes : Classes) → Loads classes → (b : ℕ) → is_in b never_in_names ≡ true → get_or classes b 0 ≡ 0
unfolding loads
never_class classes l b e =
    eqb-true (get_or classes b 0) 0
    (all_at (λ c. eqb (get_or classes c 0) 0)
    (and_right (eqb (length classes) 256 && all_pass (λ c. leb c 2) classes && any_pass (λ c. eqb c 2) classes)
    (all_pass (λ c. eqb (get_or classes c 0) 0) never_in_names)
    l)
    (in_mem b never_in_names e))

pub never_named : (classes : Classes) → Loads classes → (n : Name) → is_name classes n ≡ true → (b : ℕ) → is_in b never_in_names ≡ true
    → Memᴰ b n → ⊥
unfolding is_name
never_named classes l [] e b never m = elim m [ ]
never_named classes l (c ∷ cs) e b never m = ⊎_elim first later (Memᴰ.cases_cons m)
  where
    first : b ≡ c → ⊥
    first q =
        let zero_class = never_class classes l b never in
        let two = eqb-true (get_or classes c 0) 2 (and_left (eqb (get_or classes c 0) 2) (all_pass (λ c. leb 1 (get_or classes c 0)) cs) e) in
        let same = ap (λ (x : ℕ). get_or classes x 0) q in
        omega arith

    later : Memᴰ b cs → ⊥
    later i =
        let zero_class = never_class classes l b never in
        let one =
        leb-true 1 (get_or classes b 0)
        (all_at (λ c. leb 1 (get_or classes c 0))
        (and_right (eqb (get_or classes c 0) 2) (all_pass (λ c. leb 1 (get_or classes c 0)) cs) e)
        i) in
        omega arith

pub all_classed : (classes : Classes) → Loads classes → length classes ≡ 256
unfolding loads
all_classed classes l =
    let of_three = and_left _ (all_pass (λ b. eqb (get_or classes b 0) 0) never_in_names) l in
    let of_two = and_left _ (any_pass (λ c. eqb c 2) classes) of_three in
    eqb-true (length classes) 256 (and_left (eqb (length classes) 256) (all_pass (λ c. leb c 2) classes) of_two)

-- a number with a class above 0 is among those that have a class
has_class : (classes : Classes) (b : ℕ) → 1 ≤ get_or classes b 0 → b < length classes
has_class [] b h = absurd (omega arith)
has_class (c ∷ cs) zero h = omega arith
has_class (c ∷ cs) (suc b) h = let r = has_class cs b h in omega arith

pub name_small : (classes : Classes) (n : Name) → length classes ≤ 256 → is_name classes n ≡ true → AreBytes n
unfolding is_name
name_small classes [] l e b m = elim m [ ]
name_small classes (b ∷ bs) l e c m = ⊎_elim (λ same. let h = first in omega arith) (rest c) (Memᴰ.cases_cons m)
  where
    first : b < 256
    first =
        let q =
        eqb-true (get_or classes b 0) 2 (and_left (eqb (get_or classes b 0) 2) (all_pass (λ c. leb 1 (get_or classes c 0)) bs) e) in
        let r = has_class classes b (omega arith) in
        omega arith

    rest : AreBytes bs
    rest c m =
        let q =
        all_at (λ c. leb 1 (get_or classes c 0))
        (and_right (eqb (get_or classes b 0) 2) (all_pass (λ c. leb 1 (get_or classes c 0)) bs) e)
        m in
        let r = has_class classes c (leb-true 1 (get_or classes c 0) q) in
        omega arith

-- every byte is a letter there
letter : (b : ℕ) → b < 256 → get_or all_letters b 0 ≡ 2
unfolding all_letters
letter b h = get_or-replicate 256 b 2 0 h

name_letters : (classes : Classes) (n : Name) → length classes ≤ 256 → is_name classes n ≡ true → is_name all_letters n ≡ true
unfolding is_name
name_letters classes [] l e = e
name_letters classes (b ∷ bs) l e =
    let small = name_small classes (b ∷ bs) l e in
    and_intro (eqb (get_or all_letters b 0) 2) (all_pass (λ c. leb 1 (get_or all_letters c 0)) bs)
    (ap (λ (k : ℕ). eqb k 2) (letter b (small b (Memᴰ.head refl))))
    (all_of (λ c. leb 1 (get_or all_letters c 0)) bs (λ c m. ap (λ (k : ℕ). leb 1 k) (letter c (small c (Memᴰ.tail m)))))

pub table_letters : {lim : Limits} {classes : Classes} {g : Table} → length classes ≤ 256 → TableWithin lim classes g
    → TableWithin lim all_letters g
table_letters {lim} {classes} few within =
    record {
      names = λ n m. record { rule = name_letters classes n few (within.names n m).rule; size = (within.names n m).size };
      labels_differ = within.labels_differ;
      labels = within.labels;
      start_types = within.start_types;
      starts_differ = within.starts_differ;
      starts = within.starts;
      each_rule = within.each_rule;
      rules = within.rules;
      size = within.size;
    }
