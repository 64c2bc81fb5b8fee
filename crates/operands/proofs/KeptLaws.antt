-- One more expression after the operands kept so far:
--   same_there : byte for byte the same at two places, as far as the one reaches, is the same content at both
--   old_row, more_row, more_noted : after the question, the operands without it or with it; too_long, too_many : or they do not fit
use Prim.Native.Nat.{ℕ, ◌+◌, ◌-◌, ◌*◌, ◌≤◌, ◌<◌}
use native.Mathlib.Omega.{arith}
use mathlib.Core.Bool.{Bool, true, false}
use mathlib.Core.List.{List, [], ◌∷◌, ◌++◌}
use mathlib.Core.Logic.{◌↔◌}
use mathlib.Core.Option.{some as just}
use mathlib.Core.Path.{◌≡◌, refl, sym, ◌∙◌, ap, ap₂, subst}
use lib.ListN.{length, take, drop, set, take-append-drop}
use Rattle.grammar.specs.Limits.{operand_limit}
use Rattle.grammar.specs.Lists.{any_pass}
use Rattle.grammar.specs.Content.{Content, operands}
use Rattle.grammar.specs.ReadContent.{content_bytes, operand_bytes, same_content}
use Rattle.theory.specs.Alternatives.{gathered}
use Rattle.theory.proofs.Lists.BoolLaws.{same_test}
use Rattle.theory.proofs.Contents.ContentBytes.{same_content_lem}
use Rattle.theory.proofs.Emission.GatheringLaws.{gathered_so, gather_old, gather_new}
use Rattle.theory.proofs.Contents.CountedContents.{operands_count}
use Rattle.reader.specs.ExprAt.{◌up_to◌, expr_at, exprs_at}
use Rattle.reader.proofs.ExprLaws.{same_placed, expr_written, expr_of, expr_bytes, expr_forward, exprs_written}
use Rattle.operands.specs.declared.drafts.OperandRow.{OperandRow}
use Rattle.operands.specs.Drafts.{Row, long, TooWide, unfit, many, OperandsAdded, Newest}
use Rattle.operands.specs.Notes.{prints, fingerprint, note, Noted}
use Rattle.operands.proofs.RowLaws.{exprs_one_more}
use Rattle.operands.proofs.NoteLaws.{noted_more}

module _ (s : List ℕ) (i middle end fresh : ℕ) (x y : Content) (e : expr_at s end ≡ just (x up_to fresh)) (f : expr_at s i ≡ just (y up_to middle)) where
  pub equal_bytes : take (fresh - end) (drop i s) ≡ take (fresh - end) (drop end s) → x ≡ y
  equal_bytes b =
      let n = fresh - end in
      let d : drop i s ≡ content_bytes x ++ drop n (drop i s) =
      sym (take-append-drop n (drop i s)) ∙ ap (λ (l : List ℕ). l ++ drop n (drop i s)) (b ∙ expr_bytes s end x fresh e) in
      (same_placed (sym (expr_of s i x (drop n (drop i s)) d) ∙ f)).0

  equal_contents : x ≡ y → take (fresh - end) (drop i s) ≡ take (fresh - end) (drop end s)
  equal_contents p =
      let v = expr_written s end x fresh e in
      let w = expr_written s i y middle f in
      let l : length (content_bytes x) ≡ length (content_bytes y) = ap (λ (c : Content). length (content_bytes c)) p in
      let n : fresh - end ≡ middle - i = omega arith in
      ap (λ (k : ℕ). take k (drop i s)) n
      ∙ expr_bytes s i y middle f
      ∙ ap content_bytes (sym p)
      ∙ sym (expr_bytes s end x fresh e)

  pub same_there : (r : Bool) → (r ≡ true) ↔ (take (fresh - end) (drop i s) ≡ take (fresh - end) (drop end s))
      → r ≡ same_content x y
  same_there r t =
      same_test r (same_content x y)
      ((λ h. (same_content_lem x y).1 (equal_bytes (t.0 h))), (λ h. t.1 (equal_contents ((same_content_lem x y).0 h))))

-- how many operands there are, and their bytes
pub row_count : (d : List ℕ) (base count end : ℕ) (ds : List Content) → Row d base count ds end
    → (count ≡ length ds) × (end ≡ base + length (operand_bytes (operands ds)))
row_count d base count end ds r =
    let w = exprs_written d base count (operands ds) end (omega arith) r.stand in
    (w.0 ∙ operands_count ds, w.1.next_is)

module _ (d : List ℕ) (row : OperandRow) (fresh : ℕ) (q : Newest d row fresh) (fits : row.end ≤ row.limit) where
  abbrev ds : List Content
  ds = q.kept.list

  abbrev x : Content
  x = q.newest

  pub old_row : any_pass (same_content x) ds ≡ true → OperandsAdded d d row.base row.end (gathered ds (x ∷ [])) row.limit row.count row.end
  old_row t =
      record {
        row = subst (λ (l : List Content). Row d row.base row.count l row.end) (sym (gather_old ds q.kept.row.apart x t)) q.kept.row;
        fits = fits;
        grows = omega arith;
        keeps = refl;
      }

  module _ (t : any_pass (same_content x) ds ≡ false) where
    is_more : ds ++ (x ∷ []) ≡ gathered ds (x ∷ [])
    is_more = sym (gather_new ds q.kept.row.apart x t)

    more_stand : exprs_at d row.base (row.count + 1) ≡ just (operands (gathered ds (x ∷ [])) up_to fresh)
    more_stand =
        exprs_one_more d row.count row.base row.end fresh ds x q.kept.row.stand q.stands
        ∙ ap (λ (l : List Content). just (operands l up_to fresh)) is_more

    pub more_row : fresh ≤ row.limit → row.count < operand_limit → OperandsAdded d d row.base row.end (gathered ds (x ∷ [])) row.limit (row.count + 1) fresh
    more_row h k =
        let f = expr_forward d row.end x fresh q.stands in
        let r = q.kept.row in
        record {
          row =
              record {
                stand = more_stand;
                apart = gathered_so ds (x ∷ []);
                forward = omega arith;
                inside = omega arith;
                few = omega arith;
              };
          fits = h;
          grows = omega arith;
          keeps = refl;
        }

    more_count : (row.count + 1 ≡ length (gathered ds (x ∷ []))) × (fresh ≡ row.base + length (operand_bytes (operands (gathered ds (x ∷ [])))))
    more_count =
        let r = q.kept.row in
        let w = exprs_written d row.base (row.count + 1) (operands (gathered ds (x ∷ []))) fresh (omega arith) more_stand in
        (w.0 ∙ operands_count (gathered ds (x ∷ [])), w.1.next_is)

    pub more_noted : {notes : List ℕ} {print : ℕ} → Noted notes ds → row.count < operand_limit → print ≡ fingerprint (take (fresh - row.end) (drop row.end d))
        → Noted (set notes row.count (print * prints + (row.end - row.base))) (gathered ds (x ∷ []))
    unfolding note
    more_noted {notes} {print} m h p =
        let r = row_count d row.base row.count row.end ds q.kept.row in
        let z : row.end - row.base ≡ length (operand_bytes (operands ds)) = omega arith in
        subst (Noted (set notes row.count (print * prints + (row.end - row.base)))) is_more
        (noted_more notes ds m row.count (print * prints + (row.end - row.base)) x r.0 h
        (ap₂ (λ (f before : ℕ). f * prints + before) (p ∙ ap fingerprint (expr_bytes d row.end x fresh q.stands)) z))

    pub too_long : row.limit < fresh → TooWide (row.limit - row.base) (gathered ds (x ∷ []))
    too_long h =
        let m = more_count in
        let r = q.kept.row in
        unfit (long (omega arith))

    pub too_many : operand_limit ≤ row.count → TooWide (row.limit - row.base) (gathered ds (x ∷ []))
    too_many h =
        let m = more_count in
        many (omega arith)
