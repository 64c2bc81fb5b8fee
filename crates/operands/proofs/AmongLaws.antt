-- The question whether an equal one is among the operands, note by note:
--   among_all    all of them are still to be asked; among_first : the first of those, with its note; among_none : none is left
--   same_noted  what is_same answers of an operand and its note
use Prim.Native.Nat.{ℕ, zero, suc, ◌+◌, ◌-◌, ◌/◌, ◌%◌, ◌≤◌, ◌<◌}
use native.Mathlib.Omega.{arith}
use mathlib.Core.Bool.{Bool, true, false, ◌||◌}
use mathlib.Core.List.{List, [], ◌∷◌}
use mathlib.Core.Logic.{◌↔◌}
use mathlib.Core.Option.{some as just}
use mathlib.Core.Path.{◌≡◌, refl, sym, ◌∙◌, ap}
use lib.ListN.{length, get_or, take, drop}
use lib.Seq.{drop-drop, get_or-drop, take-take}
use Rattle.grammar.specs.Limits.{content_limit}
use Rattle.grammar.specs.Lists.{any_pass}
use Rattle.grammar.specs.Content.{Content, operands}
use Rattle.grammar.specs.ReadContent.{content_bytes, same_content}
use Rattle.reader.specs.ExprAt.{◌up_to◌, expr_at, exprs_at}
use Rattle.reader.proofs.ExprLaws.{expr_written, exprs_forward}
use Rattle.operands.specs.Drafts.{Row}
use Rattle.operands.specs.Notes.{prints, fingerprint, note, notes_of, Noted}
use Rattle.operands.proofs.RowLaws.{exprs_uncons, exprs_none_left}
use Rattle.operands.proofs.KeptLaws.{equal_bytes, same_there, row_count}
use Rattle.operands.proofs.NoteLaws.{note_print, note_before}

-- the operands from a place on are those among which an equal one is still to be found
pub record StillAmong (s notes : List ℕ) (base k left end : ℕ) (x : Content) (all : List Content) : Type 0 where
  pub before : ℕ
  pub others : List Content
  pub inside : base + before ≤ end
  pub stand : exprs_at s (base + before) left ≡ just (operands others up_to end)
  pub noted : take (length others) (drop k notes) ≡ notes_of before others
  pub same : any_pass (same_content x) all ≡ any_pass (same_content x) others

pub record FirstAmong (s notes : List ℕ) (base k left end : ℕ) (x : Content) (all : List Content) : Type 0 where
  pub before : ℕ
  pub first : Content
  pub middle : ℕ
  pub inside : base + before ≤ end
  pub first_at : expr_at s (base + before) ≡ just (first up_to middle)
  pub note_is : get_or notes k 0 ≡ note before (content_bytes first)
  pub here : same_content x first ≡ true → true ≡ any_pass (same_content x) all
  pub later : same_content x first ≡ false → (less : ℕ) → less ≡ left - 1 → StillAmong s notes base (k + 1) less end x all

pub among_all : {s notes : List ℕ} {base count end : ℕ} {x : Content} {all : List Content} → Row s base count all end → Noted notes all
    → StillAmong s (take count notes) base 0 (count - 0) end x all
among_all {s} {notes} {base} {count} {end} {all = all} r m =
    let f = r.forward in
    let many = row_count s base count end all r in
    let z : base + 0 ≡ base = omega arith in
    let c : count - 0 ≡ count = omega arith in
    record {
      before = 0;
      others = all;
      inside = omega arith;
      stand = ap (λ (i : ℕ). exprs_at s i (count - 0)) z ∙ ap (exprs_at s base) c ∙ r.stand;
      noted = take-take (length all) count notes (omega arith) ∙ m.there;
      same = refl;
    }

pub among_none : {s notes : List ℕ} {base k left end : ℕ} {x : Content} {all : List Content} → left ≤ 0
    → StillAmong s notes base k left end x all → false ≡ any_pass (same_content x) all
unfolding any_pass
among_none {s} {base = base} {left = left} {end = end} {x = x} h a =
    let z : left ≡ 0 = omega arith in
    let n = (exprs_none_left s (base + a.before) a.others end (ap (exprs_at s (base + a.before)) (sym z) ∙ a.stand)).0 in
    ap (any_pass (same_content x)) (sym n) ∙ sym a.same

-- the first of some notes
first_note : (notes : List ℕ) (k m : ℕ) (ms : List ℕ) (n : ℕ) → take (suc n) (drop k notes) ≡ m ∷ ms
    → (get_or notes k 0 ≡ m) × (take n (drop (k + 1) notes) ≡ ms)
first_note notes k m ms n e = go (drop k notes) refl e
  where
    go : (l : List ℕ) → drop k notes ≡ l → take (suc n) l ≡ m ∷ ms → (get_or notes k 0 ≡ m) × (take n (drop (k + 1) notes) ≡ ms)
    go [] q f = let z : ◌≡◌ {A = ℕ} 0 1 = cc f in absurd (omega arith)
    go (y ∷ ys) q f =
        let y_is : y ≡ m = cc f in
        let rest : take n ys ≡ ms = cc f in
        let z : k ≡ k + 0 = omega arith in
        let o : drop (k + 1) notes ≡ ys = sym (drop-drop 1 k notes) ∙ ap (drop 1) q in (
          ap (λ (i : ℕ). get_or notes i 0) z ∙ sym (get_or-drop k notes 0 0) ∙ ap (λ (l : List ℕ). get_or l 0 0) q ∙ y_is,
          ap (take n) o ∙ rest,
        )

is_here : (a b : Bool) → a ≡ true → true ≡ (a || b)
is_here a b e = ap (λ (x : Bool). true || b) e ∙ sym (ap (λ (x : Bool). x || b) e)

is_other : (a b : Bool) → a ≡ false → (a || b) ≡ b
is_other a b e = ap (λ (x : Bool). x || b) e

pub among_first : (s notes : List ℕ) (base k left end : ℕ) (x : Content) (all : List Content) → 0 < left → end ≤ length s
    → StillAmong s notes base k left end x all → FirstAmong s notes base k left end x all
unfolding any_pass notes_of
among_first s notes base k zero end x all h l a = absurd (omega arith)
among_first s notes base k (suc n) end x all h l a =
    let i = a.inside in
    let q = exprs_uncons s (base + a.before) n a.others end a.stand in
    let z : suc n - 1 ≡ n = omega arith in
    let w = expr_written s (base + a.before) q.first q.middle q.first_at in
    let past : base + (a.before + length (content_bytes q.first)) ≡ q.middle = omega arith in
    let f = exprs_forward s q.middle n (operands q.others) end (omega arith) q.others_at in
    let split : any_pass (same_content x) all ≡ (same_content x q.first || any_pass (same_content x) q.others) =
    a.same ∙ ap (any_pass (same_content x)) q.both in
    let m = first_note notes k (note a.before (content_bytes q.first))
    (notes_of (a.before + length (content_bytes q.first)) q.others)
    (length q.others)
    (ap (λ (ds : List Content). take (length ds) (drop k notes)) (sym q.both) ∙ a.noted ∙ ap (notes_of a.before) q.both) in
    record {
      before = a.before;
      first = q.first;
      middle = q.middle;
      inside = i;
      first_at = q.first_at;
      note_is = m.0;
      here = λ e. is_here (same_content x q.first) (any_pass (same_content x) q.others) e ∙ sym split;
      later =
          λ e less c.
          record {
            before = a.before + length (content_bytes q.first);
            others = q.others;
            inside = omega arith;
            stand = ap (λ (p : ℕ). exprs_at s p less) past ∙ ap (exprs_at s q.middle) (c ∙ z) ∙ q.others_at;
            noted = m.1;
            same = split ∙ is_other (same_content x q.first) (any_pass (same_content x) q.others) e;
          };
    }

-- equal fingerprints and equal bytes
pub same_noted : (s notes : List ℕ) (base k left end fresh print : ℕ) (x : Content) (all : List Content) (r : Bool)
    → expr_at s end ≡ just (x up_to fresh) → print ≡ fingerprint (content_bytes x) → end ≤ base + content_limit
    → (f : FirstAmong s notes base k left end x all)
    → (r ≡ true) ↔ ((get_or notes k 0 / prints ≡ print)
    × (take (fresh - end) (drop (base + get_or notes k 0 % prints) s) ≡ take (fresh - end) (drop end s)))
    → r ≡ same_content x f.first
same_noted s notes base k left end fresh print x all r e p small f t =
    let i = f.inside in
    let m = get_or notes k 0 in
    let at : base + m % prints ≡ base + f.before =
    ap (λ (b : ℕ). base + b) (note_before m f.before (content_bytes f.first) f.note_is (omega arith)) in
    same_there s (base + f.before) f.middle end fresh x f.first e f.first_at r (
      λ h. ap (λ (b : ℕ). take (fresh - end) (drop b s)) (sym at) ∙ (t.0 h).1,
      λ b.
          t.1 (
            note_print m f.before (content_bytes f.first) f.note_is (omega arith)
                ∙ ap (λ (c : Content). fingerprint (content_bytes c))
                (sym (equal_bytes s (base + f.before) f.middle end fresh x f.first e f.first_at b))
                ∙ sym p,
            ap (λ (b : ℕ). take (fresh - end) (drop b s)) at ∙ b,
          ),
    )
