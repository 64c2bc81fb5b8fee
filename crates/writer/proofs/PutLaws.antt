-- Bytes written one after the other:
--   put_join : after some bytes, some more ; put_none, put_sets, put_paste : nothing, single stores, a copy
--   put_field : a field's three first bytes and its value
use Prim.Native.Nat.{ℕ, suc, ◌+◌, ◌-◌, ◌/◌, ◌%◌, ◌≤◌}
use native.Mathlib.Omega.{arith}
use native.Mathlib.Numerals.{add-one, add-two}
use mathlib.Core.List.{List, [], ◌∷◌, ◌++◌, append_assoc, append-nil}
use mathlib.Core.Path.{◌≡◌, refl, sym, ◌∙◌, ap, subst}
use lib.ListN.{length, length-append, length-set, length-drop, set, take, drop, take-append-drop}
use lib.Seq.{sets, sets-eq, paste, take-length, length-take-le, take_at, drop_at, drop-drop}
use Rattle.grammar.specs.Fields.{field_bytes}
use Rattle.writer.specs.Writing.{Put}

module _ {before : List ℕ} {at : ℕ} {bytes after : List ℕ} {next : ℕ} (p : Put before at bytes after next) where
  front_long : length (take at before ++ bytes) ≡ next
  front_long =
      let a = length-append (take at before) bytes in
      let b = p.next_is in
      let c = p.room in
      let d = length-take-le at before (omega arith) in
      omega arith

  pub put_length : length after ≡ length before
  put_length =
      let a = ap length p.is in
      let b = length-append (take at before ++ bytes) (drop next before) in
      let c = front_long in
      let d = length-drop next before in
      let e = p.room in
      omega arith

  pub put_front : take next after ≡ take at before ++ bytes
  put_front = ap (take next) p.is ∙ take_at (take at before ++ bytes) (drop next before) next front_long

  pub put_rest : drop next after ≡ drop next before
  put_rest = ap (drop next) p.is ∙ drop_at (take at before ++ bytes) (drop next before) next front_long

  pub put_kept : take at after ≡ take at before
  put_kept =
      let c = p.next_is in
      let d = p.room in
      ap (take at) (p.is ∙ append_assoc (take at before) bytes (drop next before))
      ∙ take_at (take at before) (bytes ++ drop next before) at (length-take-le at before (omega arith))

  pub put_there : drop at after ≡ bytes ++ drop next after
  put_there =
      let c = p.next_is in
      let d = p.room in
      ap (drop at) (p.is ∙ append_assoc (take at before) bytes (drop next before))
      ∙ drop_at (take at before) (bytes ++ drop next before) at (length-take-le at before (omega arith))
      ∙ ap (λ (l : List ℕ). bytes ++ l) (sym put_rest)

  pub put_join : {more last : List ℕ} {end : ℕ} → Put after next more last end → Put before at (bytes ++ more) last end
  put_join {more} {last} {end} q =
      let a = p.next_is in
      let b = q.next_is in
      let c = length-append bytes more in
      let l = put_length in
      let r = q.room in
      let z : next + (end - next) ≡ end = omega arith in
      let later : drop end after ≡ drop end before =
      ap (λ (k : ℕ). drop k after) (sym z)
      ∙ sym (drop-drop (end - next) next after)
      ∙ ap (drop (end - next)) put_rest
      ∙ drop-drop (end - next) next before
      ∙ ap (λ (k : ℕ). drop k before) z in
      record {
        is =
            q.is
            ∙ ap (λ (x : List ℕ). x ++ more ++ drop end after) put_front
            ∙ ap (λ (x : List ℕ). take at before ++ bytes ++ more ++ x) later
            ∙ ap (λ (x : List ℕ). x ++ drop end before) (append_assoc (take at before) bytes more);
        next_is = omega arith;
        room = omega arith;
      }

pub put_none : (before : List ℕ) (at : ℕ) → at ≤ length before → Put before at [] before at
put_none before at h =
    record {
      is = sym (ap (λ (x : List ℕ). x ++ drop at before) (append-nil (take at before)) ∙ take-append-drop at before);
      next_is = omega arith;
      room = h;
    }

pub put_sets : (before : List ℕ) (at : ℕ) (bytes : List ℕ) → at + length bytes ≤ length before
    → Put before at bytes (sets before at bytes) (at + length bytes)
put_sets before at bytes h = record { is = sets-eq bytes before at h; next_is = refl; room = h }

pub put_one : (before : List ℕ) (at a : ℕ) → at + 1 ≤ length before → Put before at (a ∷ []) (set before at a) (at + 1)
put_one before at a h = put_sets before at (a ∷ []) h

pub put_two : (before : List ℕ) (at a b : ℕ) → at + 2 ≤ length before → Put before at (a ∷ b ∷ []) (set (set before at a) (at + 1) b) (at + 2)
put_two before at a b h =
    subst (λ (k : ℕ). Put before at (a ∷ b ∷ []) (set (set before at a) k b) (at + 2)) (sym (add-one at)) (put_sets before at (a ∷ b ∷ []) h)

pub put_three : (before : List ℕ) (at a b c : ℕ) → at + 3 ≤ length before
    → Put before at (a ∷ b ∷ c ∷ []) (set (set (set before at a) (at + 1) b) (at + 2) c) (at + 3)
put_three before at a b c h =
    subst (λ (m : ℕ). Put before at (a ∷ b ∷ c ∷ []) (set (set (set before at a) m b) (at + 2) c) (at + 3)) (sym (add-one at))
    (subst (λ (m : ℕ). Put before at (a ∷ b ∷ c ∷ []) (set (set (set before at a) (suc at) b) m c) (at + 3)) (sym (add-two at))
    (put_sets before at (a ∷ b ∷ c ∷ []) h))

pub put_paste : (before : List ℕ) (at : ℕ) (value after : List ℕ) → at + length value ≤ length before → after ≡ paste before at value (length value)
    → Put before at value after (at + length value)
put_paste before at value after h e =
    record {
      is = e ∙ ap (λ (x : List ℕ). take at before ++ x ++ drop (at + length value) before) (take-length value);
      next_is = refl;
      room = h;
    }

pub put_field : (before : List ℕ) (at tag : ℕ) (value after : List ℕ) → at + 3 + length value ≤ length before
    → after ≡ paste (set (set (set before at tag) (at + 1) (length value / 256)) (at + 2) (length value % 256)) (at + 3) value (length value)
    → Put before at (field_bytes tag value) after (at + 3 + length value)
unfolding field_bytes
put_field before at tag value after h e =
    let high = length value / 256 in
    let low = length value % 256 in
    let p : Put before at (tag ∷ high ∷ low ∷ []) (set (set (set before at tag) (at + 1) high) (at + 2) low) (at + 3) =
    subst (λ (k : ℕ). Put before at (tag ∷ high ∷ low ∷ []) (set (set (set before at tag) (at + 1) high) k low) (at + 3)) (sym (add-two at))
    (subst (λ (k : ℕ). Put before at (tag ∷ high ∷ low ∷ []) (set (set (set before at tag) k high) (suc (suc at)) low) (at + 3)) (sym (add-one at))
    (put_sets before at (tag ∷ high ∷ low ∷ []) (omega arith))) in
    let l = put_length p in
    put_join p (put_paste (set (set (set before at tag) (at + 1) high) (at + 2) low) (at + 3) value after (omega arith) e)

pub stored_length : (l : List ℕ) (i a j b k c : ℕ) → length (set (set (set l i a) j b) k c) ≡ length l
stored_length l i a j b k c = length-set (set (set l i a) j b) k c ∙ length-set (set l i a) j b ∙ length-set l i a
