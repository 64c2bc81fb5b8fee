-- The name of a label stands in its table behind the fields of the labels before it:
--   label_part_lem : AreBytes s → read_table lim classes s ≡ given g → get_elem? g.labels i ≡ just n
--       → part_bytes (given (part_of_label g.labels i)) s ≡ n
use Prim.Native.Nat.{ℕ, zero, suc, ◌+◌, ◌≤◌, ◌<◌}
use native.Mathlib.Omega.{arith}
use mathlib.Core.Bool.{not, false}
use mathlib.Core.List.{List, [], ◌∷◌, ◌++◌, append_assoc}
use mathlib.Core.Option.{some as just}
use mathlib.Core.Path.{◌≡◌, refl, sym, ◌∙◌, ap, ap₂, subst}
use lib.Dec.{leb}
use lib.ListN.{length, get_or, get_elem?, take, drop, length-append, length-drop}
use lib.Seq.{drop-drop, drop-append-add, take-append_seam}
use borrow.Author.Tests.{le-leb, lt-leb}
use Rattle.grammar.specs.Lists.{joined_of}
use Rattle.grammar.specs.Limits.{Limits}
use Rattle.grammar.specs.Names.{Name, Classes, loads, Loads}
use Rattle.grammar.specs.Table.{Table}
use Rattle.std.specs.Prelude.{Result, Ok, Err}
use Rattle.grammar.specs.Outcome.{◌>>=◌, ◌>>◌, turn_back}
use Rattle.grammar.specs.Fields.{field_bytes}
use Rattle.grammar.specs.ReadTable.{label_tag, start_tag, table_end_tag, read_table}
use Rattle.grammar.specs.WriteTable.{table_bytes, rule_field}
use Rattle.grammar.specs.Calls.{part_bytes, part_of_label}
use Rattle.grammar.specs.declared.Refusal.{Refusal}
use Rattle.grammar.specs.declared.Refusal.TheVariants.{BadClasses, OutOfRange}
use Rattle.theory.proofs.Bytes.FieldBytes.{AreBytes}
use Rattle.theory.proofs.Lists.ListLaws.{mem_at, just_eq, at_else}
use Rattle.theory.proofs.Bytes.OutcomeLaws.{given_then, no_fault}
use Rattle.theory.proofs.Bytes.ReadWithin.{read_was}
use Rattle.theory.proofs.Theorems.CallPromises.{loaded_is}
use Rattle.reader.specs.LabelPlaces.{label_part}
use Rattle.reader.proofs.AnswerLaws.{fault}
use Rattle.reader.proofs.FieldReading.{field_length}

-- bytes, one by one
pub are_bytes : (s : List ℕ) → ((i : ℕ) → get_or s i 0 < 256) → AreBytes s
are_bytes s h b m = let p = mem_at m in subst (λ (n : ℕ). n < 256) (at_else s p.0 0 p.1) (h p.0)

-- what the elements before a place give stands in front of what that element gives
joined_at : {A B : Type 0} (f : A → List B) (xs : List A) (i : ℕ) (x : A) (rest : List B) → get_elem? xs i ≡ just x
    → (after : List B) × (drop (length (joined_of f (take i xs))) (joined_of f xs ++ rest) ≡ f x ++ after)
unfolding joined_of
joined_at f [] i x rest e = let z : ◌≡◌ {A = ℕ} 0 1 = cc in absurd (omega arith)
joined_at {A} {B} f (y ∷ xs) zero x rest e =
    (joined_of f xs ++ rest, append_assoc (f y) (joined_of f xs) rest ∙ ap (λ (z : A). f z ++ (joined_of f xs ++ rest)) (sym (just_eq e)))
joined_at {A} {B} f (y ∷ xs) (suc i) x rest e =
    let p = joined_at f xs i x rest e in (
      p.0,
      ap₂ (λ (n : ℕ) (l : List B). drop n l) (length-append (f y) (joined_of f (take i xs))) (append_assoc (f y) (joined_of f xs) rest)
          ∙ drop-append-add (f y) (joined_of f xs ++ rest) (length (joined_of f (take i xs)))
          ∙ p.1,
    )

module _ (lim : Limits) (classes : Classes) (s : List ℕ) (g : Table) (small : AreBytes s) (read : read_table lim classes s ≡ Ok g) where
  labels_first : (rest : List ℕ) × (s ≡ joined_of (field_bytes label_tag) g.labels ++ rest)
  unfolding table_bytes
  labels_first =
      let labels = joined_of (field_bytes label_tag) g.labels in
      let starts = joined_of (λ k. field_bytes start_tag (k ∷ [])) g.starts in
      let rules = joined_of rule_field g.rules in
      let end = field_bytes table_end_tag [] in
      (starts ++ (rules ++ end), sym (read_was lim classes s g read small) ∙ apart labels starts rules end)
    where
      apart : (a b c d : List ℕ) → a ++ b ++ c ++ d ≡ a ++ (b ++ (c ++ d))
      apart a b c d = simp append_assoc

  pub label_part_lem : (i : ℕ) (n : Name) → get_elem? g.labels i ≡ just n → part_bytes (Ok (part_of_label g.labels i)) s ≡ n
  unfolding part_bytes part_of_label
  label_part_lem i n e =
      let p = joined_at (field_bytes label_tag) g.labels i n labels_first.0 e in
      let k = length (joined_of (field_bytes label_tag) (take i g.labels)) in
      let front : drop (k + 3) s ≡ n ++ p.0 =
      sym (drop-drop 3 k s) ∙ ap (λ (l : List ℕ). drop 3 (drop k l)) labels_first.1 ∙ ap (drop 3) p.1 ∙ behind n p.0 in
      ap₂ take (ap length (at_else g.labels i [] e)) front ∙ take-append_seam n p.0
    where
      behind : (m after : List ℕ) → drop 3 (field_bytes label_tag m ++ after) ≡ m ++ after
      behind m after = refl

  pub label_inside : (i : ℕ) (n : Name) → get_elem? g.labels i ≡ just n
      → length (joined_of (field_bytes label_tag) (take i g.labels)) + 3 + length n ≤ length s
  label_inside i n e =
      let k = length (joined_of (field_bytes label_tag) (take i g.labels)) in
      let p = joined_at (field_bytes label_tag) g.labels i n labels_first.0 e in
      let rest : length (drop k s) ≡ length (field_bytes label_tag n ++ p.0) = ap length (ap (drop k) labels_first.1 ∙ p.1) in
      let whole = length-append (field_bytes label_tag n) p.0 in
      let field = field_length label_tag n in
      let left = length-drop k s in
      omega arith

-- the ways of looking for a label
module _ (lim : Limits) (classes : Classes) (s : List ℕ) (label : ℕ) where
  pub label_unloaded : loads classes ≡ false → label_part lim classes s label ≡ Err BadClasses
  unfolding label_part
  label_unloaded e = fault (not (loads classes)) BadClasses _ (ap not e)

  module _ (load : Loads classes) where
    pub label_unread : (r : Refusal) → read_table lim classes s ≡ Err r → label_part lim classes s label ≡ Err r
    unfolding label_part
    label_unread r e =
        loaded_is classes _ load
        ∙ ap
        (λ (o : Result Table Refusal). o >>= (λ g. turn_back (leb (length g.labels) label) OutOfRange >> Ok (part_of_label g.labels label)))
        e

    module _ (g : Table) (e : read_table lim classes s ≡ Ok g) where
      pub label_past : length g.labels ≤ label → label_part lim classes s label ≡ Err OutOfRange
      unfolding label_part
      label_past h =
          loaded_is classes _ load
          ∙ given_then (read_table lim classes s) g _ e
          ∙ fault _ OutOfRange _ (le-leb (length g.labels) label h)

      pub label_found : label < length g.labels → label_part lim classes s label ≡ Ok (part_of_label g.labels label)
      unfolding label_part
      label_found h =
          loaded_is classes _ load
          ∙ given_then (read_table lim classes s) g _ e
          ∙ no_fault _ OutOfRange _ (lt-leb (length g.labels) label h)
