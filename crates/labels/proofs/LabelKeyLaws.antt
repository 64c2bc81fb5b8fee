-- Labels by the keys of their names. Equal names have one key (`key_same`), so the labels that a chain passes over have not the name that
-- is sought (`sought_first`, `sought_next`).
use Rattle.reader.specs.declared.index.TableIndex.{TableIndex}
use Prim.Native.Nat.{ℕ, ◌+◌, ◌/◌, ◌%◌, ◌<◌, ◌≤◌}
use native.Mathlib.Omega.{arith}
use mathlib.Core.Bool.{false}
use mathlib.Core.List.{List, [], ◌∷◌, map}
use mathlib.Core.Logic.{⊎_elim}
use mathlib.Core.Path.{◌≡◌, refl, sym, ◌∙◌, ap, subst}
use lib.Dec.{ltb}
use lib.ListN.{length, get_or, length-map, get_or-map}
use borrow.Author.Count.{below_none, below_more}
use borrow.Author.Tests.{ltb-true, ltb-false}
use Rattle.grammar.specs.Names.{Name, small_letter, same_name, SameName}
use Rattle.grammar.specs.Table.{Table}
use Rattle.theory.proofs.Lists.BoolLaws.{false_of, passes_or_fails}
use Rattle.theory.proofs.Trees.NameLaws.{name_small_letters}
use Rattle.basis.proofs.LetterLaws.{small_remainder}
use Rattle.reader.specs.TableIndex.{part, label_from, label_to, label_count, Indexes, TableIndexed}
use Rattle.reader.proofs.TableIndexLaws.{label_at}
use Rattle.labels.specs.Chains.{Keyed, PlaceFrom}
use Rattle.labels.specs.LabelKeys.{name_key, label_key, LabelsChained}

pub key_below : (n : Name) → name_key n < 64
unfolding name_key
key_below n = omega arith

pub key_empty : (n : Name) → length n ≡ 0 → name_key n ≡ 0
unfolding name_key
key_empty [] e = refl
key_empty (x ∷ xs) e = absurd (omega arith)

-- the byte at a place, and the length, as the key counts them, are those of the name in small letters
byte_key : (n : Name) (i : ℕ) → get_or (map small_letter n) i 0 % 32 ≡ get_or n i 0 % 32
unfolding small_letter
byte_key n i = ap (λ (b : ℕ). b % 32) (get_or-map small_letter n i 0) ∙ small_remainder (get_or n i 0)

small_letters_key : (n : Name) → name_key (map small_letter n) ≡ name_key n
unfolding name_key
small_letters_key n =
    let long = length-map n small_letter in
    let first = byte_key n 0 in
    let middle = ap (λ (l : ℕ). get_or (map small_letter n) (l / 2) 0 % 32) long ∙ byte_key n (length n / 2) in
    cc

pub key_same : (m n : Name) → SameName m n → name_key m ≡ name_key n
key_same m n e = sym (small_letters_key m) ∙ ap name_key (name_small_letters m n e) ∙ small_letters_key n

pub labels_keyed : {s : List ℕ} {index : TableIndex} {g : Table} → Indexes s index g → Keyed (label_key s index) (label_count index)
labels_keyed {s} {index} x =
    record {
      few = x.few_labels;
      small = λ i h. let b = key_below (part s (label_from index i) (label_to index i)) in omega arith;
    }

-- the name that an index says a label has
abbrev name_of : (s : List ℕ) (index : TableIndex) → ℕ → Name
name_of s index i = part s (label_from index i) (label_to index i)

-- the name of each label stands within the bytes
module _ {s : List ℕ} {index : TableIndex} (x : TableIndexed s index) (i : ℕ) (h : i < label_count index) where
  pub label_order : label_from index i ≤ label_to index i
  label_order = (label_at x.indexes i h).2.inside.order

  pub label_within : label_to index i ≤ length s
  label_within = (label_at x.indexes i h).2.inside.within

-- a name that is sought among the labels is none of those before `i`, and has the key of the name at `i`
pub record SoughtTo (name s : List ℕ) (index : TableIndex) (i : ℕ) : Type 0 where
  pub passed : (j : ℕ) → j < i → same_name name (name_of s index j) ≡ false
  pub found : i < label_count index → label_key s index i ≡ name_key name

module _ {name s : List ℕ} {index : TableIndex} {next : List ℕ} (chain : LabelsChained s index next) where
  sought_on : {i p : ℕ} → ((j : ℕ) → j < i → same_name name (name_of s index j) ≡ false)
      → PlaceFrom (label_key s index) (label_count index) (name_key name) i p
      → SoughtTo name s index p
  sought_on {i} {p} before at =
      record {
        passed =
            λ j h.
            ⊎_elim
            (λ q. before j (ltb-true j i q))
            (λ q.
            let l = ltb-false j i q in
            false_of (same_name name (name_of s index j)) (λ e. at.passed j l h (sym (key_same name (name_of s index j) e))))
            (passes_or_fails (ltb j i));
        found = at.found;
      }

  pub sought_first : {k p : ℕ} → k ≡ name_key name → p ≡ get_or next (128 + k) 0 → SoughtTo name s index p
  sought_first {k} {p} e is =
      let b = key_below name in
      let first = chain.first (name_key name) (omega arith) in
      sought_on (below_none _)
      (subst
      (PlaceFrom (label_key s index) (label_count index) (name_key name) 0)
      (sym (is ∙ ap (λ (j : ℕ). get_or next (128 + j) 0) e))
      first)

  pub sought_next : {i p : ℕ} → i < label_count index → same_name name (name_of s index i) ≡ false → p ≡ get_or next i 0
      → SoughtTo name s index i
      → SoughtTo name s index p
  sought_next {i} {p} h e is so_far =
      let after = chain.after i h in
      sought_on (below_more _ i so_far.passed e)
      (subst (PlaceFrom (label_key s index) (label_count index) (name_key name) (i + 1)) (sym is)
      (subst (λ (k : ℕ). PlaceFrom (label_key s index) (label_count index) k (i + 1) (get_or next i 0)) (so_far.found h) after))
