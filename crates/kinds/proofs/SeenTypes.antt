-- The set of types at the front of words: no type is in it once the words are cleared (`none_seen`), and the starts put in one after the
-- other are the starts of the table (`seen_first`, `seen_next`, `seen_starts`).
use Rattle.reader.specs.declared.index.TableIndex.{TableIndex}
use Prim.Native.Nat.{ℕ, ◌+◌, ◌/◌, ◌<◌}
use native.Mathlib.Omega.{arith}
use native.Mathlib.Numerals.{add-one}
use mathlib.Core.Bool.{Bool, true, ◌||◌}
use mathlib.Core.List.{List}
use mathlib.Core.Path.{◌≡◌, sym, ◌∙◌, ap}
use lib.Dec.{eqb}
use lib.ListN.{length, replicate}
use borrow.Author.Tests.{eqb-true, eq-eqb}
use Rattle.grammar.specs.Lists.{is_in}
use Rattle.grammar.specs.Table.{Table}
use Rattle.theory.proofs.Lists.BoolLaws.{same_test}
use Rattle.theory.proofs.Lists.ListLaws.{in_mem, mem_in, mem_at, at_mem, at_below}
use Rattle.sets.specs.Sets.{member, put_at, nothing}
use Rattle.sets.proofs.SetLaws.{member_put, member_zeros}
use Rattle.reader.specs.TableIndex.{start_type, start_count, Indexes}
use Rattle.reader.proofs.TableIndexLaws.{start_at}
use Rattle.kinds.specs.RulesAt.{any_below, Holds}
use Rattle.kinds.proofs.BelowLaws.{one_below, below_found}

pub none_seen : (words : List ℕ) (n : ℕ) → words ≡ replicate n 0 → member words 0 ≡ nothing
none_seen words n e = ap (λ (l : List ℕ). member l 0) e ∙ member_zeros n 0

-- the types seen are the first i starts of the index
abbrev pub SeenBelow : (seen : List ℕ) (index : TableIndex) → ℕ → Type 0
SeenBelow seen index i = (k : ℕ) → member seen 0 k ≡ any_below (λ j. eqb k (start_type index j)) i

pub seen_first : (seen : List ℕ) (index : TableIndex) → member seen 0 ≡ nothing → SeenBelow seen index 0
unfolding any_below
seen_first seen index none k = ap (λ (p : ℕ → Bool). p k) none

pub seen_next : (seen : List ℕ) (index : TableIndex) (i : ℕ) → SeenBelow seen index i → 0 + start_type index i / 32 < length seen
    → SeenBelow (put_at seen 0 (start_type index i)) index (i + 1)
unfolding any_below
seen_next seen index i w h k =
    ap (λ (p : ℕ → Bool). p k) (member_put seen 0 (start_type index i) h)
    ∙ ap (λ (b : Bool). eqb k (start_type index i) || b) (w k)
    ∙ ap (any_below (λ j. eqb k (start_type index j))) (sym (add-one i))

pub seen_starts : {s : List ℕ} {index : TableIndex} {g : Table} → Indexes s index g → (seen : List ℕ) → SeenBelow seen index (start_count index)
    → Holds seen g.starts
seen_starts {index = index} {g = g} x seen w k = w k ∙ same_test (any_below here (start_count index)) (is_in k g.starts) (there, back)
  where
    here : ℕ → Bool
    here j = eqb k (start_type index j)

    there : any_below here (start_count index) ≡ true → is_in k g.starts ≡ true
    there e =
        let (i, below, q) = below_found here (start_count index) e in
        ap (λ (n : ℕ). is_in n g.starts) (eqb-true k (start_type index i) q) ∙ mem_in (at_mem g.starts i (start_at x i below))

    back : is_in k g.starts ≡ true → any_below here (start_count index) ≡ true
    back e =
        let (i, at_i) = mem_at (in_mem k g.starts e) in
        one_below here (start_count index) i
        (omega (arith, at_below g.starts i at_i, x.starts))
        (eq-eqb k (start_type index i) (sym (x.start i k at_i)))
