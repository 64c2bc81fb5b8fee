-- The lines of a column:
--   product_small : a line begins before so many bytes
--   piece_is, line_filled, line_end : the bytes of a line, the spaces behind them, and where it ends
use Prim.Native.Nat.{ℕ, ◌+◌, ◌-◌, ◌*◌, ◌≤◌, ◌<◌, min}
use native.Mathlib.Omega.{arith}
use native.Mathlib.Nat.{mul-le-mul}
use mathlib.Core.List.{List, ◌++◌}
use mathlib.Core.Path.{◌≡◌, refl, ◌∙◌, ap, subst}
use lib.ListN.{length, take, drop, replicate, length-take, length-drop, length-replicate}
use borrow.Rule.Slice.PartMut.{put_mid}
use Rattle.std.proofs.lemmas.List.{take_min, drop_min}
use Rattle.std.proofs.lemmas.Slice.{put_mid-paste}
use Rattle.grammar.specs.Listing.{Text}
use Rattle.grammar.specs.Pages.{space, padded, line_of}
use Rattle.theory.proofs.Bytes.PageRows.{line_size}
use Rattle.writer.specs.Writing.{Put}
use Rattle.writer.proofs.PutLaws.{put_join, put_length, put_paste}
use Rattle.lister_lines.proofs.PrintSteps.{put_as}

pub product_small : (i w : ℕ) → i < 4096 → w < 128 → i * w ≤ 520065
product_small i w h l =
    let a : i ≤ 4095 = omega arith in
    let b : w ≤ 127 = omega arith in
    mul-le-mul a b

module _ (width : ℕ) (text : Text) (i : ℕ) where
  abbrev pub piece : Text
  piece = take width (drop (i * width) text)

  -- the bytes of the line
  pub piece_is : {from to : ℕ} → from ≡ min (i * width) (length text) → to ≡ min (from + width) (length text) → take (to - from) (drop from text) ≡ piece
  piece_is {from} {to} f t =
      let size = length-drop from text in
      let n : to - from ≡ min width (length (drop from text)) = omega arith in
      ap (λ (k : ℕ). take k (drop from text)) n
      ∙ take_min width (drop from text)
      ∙ ap (λ (k : ℕ). take width (drop k text)) f
      ∙ ap (take width) (drop_min (i * width) text)

  -- and the spaces behind them
  pub line_filled : {before mid after filled : List ℕ} {at behind : ℕ} → at + width ≤ length before → Put before at piece mid behind
      → filled ≡ replicate (length (take (at + width - behind) (drop behind mid))) space → after ≡ put_mid behind (at + width - behind) mid filled
      → Put before at (line_of width text i) after (at + width)
  unfolding line_of padded
  line_filled {before} {mid} {after} {filled} {at} {behind} room p s e =
      let long = length-take width (drop (i * width) text) in
      let next = p.next_is in
      let same = put_length p in
      let m = at + width - behind in
      let inside = length-take m (drop behind mid) in
      let rest = length-drop behind mid in
      let fits : length filled ≡ m = ap length s ∙ length-replicate (length (take m (drop behind mid))) space ∙ omega arith in
      let q = put_paste mid behind filled after (omega arith) (e ∙ put_mid-paste behind m mid filled filled (length filled) refl fits refl) in
      let spaces : length (take m (drop behind mid)) ≡ width - length piece = omega arith in
      let end : behind + length filled ≡ at + width = omega arith in
      subst (λ (n : ℕ). Put before at (piece ++ replicate (width - length piece) space) after n) end
      (put_as (ap (λ (l : List ℕ). piece ++ l) (s ∙ ap (λ (n : ℕ). replicate n space) spaces)) (put_join p q))

pub line_end : (width : ℕ) (text : Text) (i : ℕ) {before : List ℕ} {at : ℕ} {after : List ℕ} {r : ℕ}
    → Put before at (line_of width text i) after r → r ≡ at + width
line_end width text i {at = at} p = p.next_is ∙ ap (λ (n : ℕ). at + n) (line_size width text i)
