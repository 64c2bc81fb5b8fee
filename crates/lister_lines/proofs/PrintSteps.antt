-- What each step of the printers asks and leaves: for an operator's byte the room that its text takes and the text that is then written,
-- for a row its first content and the others.
use Prim.Native.Nat.{ℕ, ◌+◌, ◌-◌, ◌≤◌, ◌<◌}
use native.Mathlib.Omega.{arith}
use mathlib.Core.List.{List, [], ◌∷◌, ◌++◌}
use mathlib.Core.Path.{◌≡◌, refl, sym, ◌∙◌, ap, subst}
use lib.ListN.{length, get_or, length-append}
use Rattle.grammar.specs.Limits.{large}
use Rattle.grammar.specs.Listing.{Text, type_text, content_text}
use Rattle.reader.specs.ExprAt.{exprs_at}
use Rattle.reader.specs.ContentAt.{ContentAt, ContentsAt}
use Rattle.reader.proofs.ContentAtLaws.{FirstThere, operands_there, operand_there, first_of, none_there}
use Rattle.writer.specs.Writing.{Put}
use Rattle.writer.proofs.PutLaws.{put_length, put_join, put_none}
use Rattle.lister_lines.specs.declared.content_text.Ends.{Ends}
use Rattle.lister_lines.specs.Printing.{mark_of, row_text, Printable, RowPrintable, Printed}
use Rattle.lister_lines.proofs.ContentTextLaws.{
  none_text,
  empty_text,
  type_text_lem,
  list_text,
  suffix_text,
  row_text_lem,
}

-- other words for the bytes that were written
pub put_as : {before : List ℕ} {at : ℕ} {x y : Text} {after : List ℕ} {r : ℕ} → x ≡ y → Put before at x after r → Put before at y after r
put_as {before} {at} {x} {y} {after} {r} e p = subst (λ (z : Text). Put before at z after r) e p

-- so many contents from the same place, told otherwise
abbrev moved : {s : List ℕ} {at to m n : ℕ} → at ≡ to → m ≡ n → ContentsAt large s at m → ContentsAt large s to n
moved {s} {at} {to} {m} {n} e h q =
    record {
      contents = q.contents;
      next = q.next;
      inside = subst (λ (k : ℕ). k ≤ length s) e q.inside;
      stand = ap (exprs_at s to) (sym h) ∙ ap (λ (k : ℕ). exprs_at s k m) (sym e) ∙ q.stand;
      proper = q.proper;
    }

module _ {s : List ℕ} {at : ℕ} {text : List ℕ} {end : ℕ} (q : Printable s at text end) where
  pub none_room : get_or s at 0 ≡ 0 → end < length text
  none_room e =
      let l = ap length (none_text q.there e).0 in
      let h = q.room in
      omega arith

  pub none_done : get_or s at 0 ≡ 0 → {after : List ℕ} {r : ℕ} → Put text end (0x21 ∷ []) after r
      → Printed text end (content_text q.there.content) q.there.next after (record { content = at + 1; text = r })
  none_done e p =
      let t = none_text q.there e in
      record { content = sym t.1; put = put_as (sym t.0) p }

  pub empty_room : get_or s at 0 ≡ 1 → end + 2 ≤ length text
  empty_room e =
      let l = ap length (empty_text q.there e).0 in
      let h = q.room in
      omega arith

  pub empty_done : get_or s at 0 ≡ 1 → {after : List ℕ} {r : ℕ} → Put text end (0x28 ∷ 0x29 ∷ []) after r
      → Printed text end (content_text q.there.content) q.there.next after (record { content = at + 1; text = r })
  empty_done e p =
      let t = empty_text q.there e in
      record { content = sym t.1; put = put_as (sym t.0) p }

  module _ (e : get_or s at 0 ≡ 2) (k : ℕ) (same : k ≡ get_or s (at + 1) 0) where
    type_is : content_text q.there.content ≡ type_text k
    type_is = (type_text_lem q.there e).0 ∙ ap type_text (sym same)

    pub type_room : end + length (type_text k) ≤ length text
    type_room =
        let l = ap length type_is in
        let h = q.room in
        omega arith

    pub type_done : {after : List ℕ} {r : ℕ} → Put text end (type_text k) after r
        → Printed text end (content_text q.there.content) q.there.next after (record { content = at + 2; text = r })
    type_done p = record { content = sym (type_text_lem q.there e).1; put = put_as (sym type_is) p }

  -- operands in brackets
  module _ (low : 3 ≤ get_or s at 0) (high : get_or s at 0 ≤ 4) (n : ℕ) (counts : n ≡ get_or s (at + 1) 0) (mark : ℕ)
      (marks : mark ≡ mark_of (get_or s at 0)) where
    list_there : ContentsAt large s (at + 2) n
    list_there = moved refl (sym counts) (operands_there large s at q.there low high)

    list_is : content_text q.there.content ≡ row_text 0x28 mark list_there.contents ++ (0x29 ∷ [])
    list_is =
        (list_text q.there list_there counts low high).0
        ∙ ap (λ (m : ℕ). row_text 0x28 m list_there.contents ++ (0x29 ∷ [])) (sym marks)

    list_room : end + length (row_text 0x28 mark list_there.contents) + 1 ≤ length text
    list_room =
        let l = ap length list_is in
        let m = length-append (row_text 0x28 mark list_there.contents) (0x29 ∷ []) in
        let h = q.room in
        omega arith

    pub list_asks : RowPrintable s (at + 2) n 0x28 mark text end
    list_asks = record { there = list_there; room = let h = list_room in omega arith }

    module _ {after : List ℕ} {ends : Ends}
        (row : (p : RowPrintable s (at + 2) n 0x28 mark text end)
        → Printed text end (row_text 0x28 mark p.there.contents) p.there.next after ends) where
      list_row : Printed text end (row_text 0x28 mark list_there.contents) list_there.next after ends
      list_row = row (record { there = list_there; room = let h = list_room in omega arith })

      pub list_mark : ends.text < length after
      list_mark =
          let l = put_length list_row.put in
          let h = list_row.put.next_is in
          let m = list_room in
          omega arith

      pub list_done : {last : List ℕ} {r : Ends} → Printed after ends.text (0x29 ∷ []) ends.content last r
          → Printed text end (content_text q.there.content) q.there.next last r
      list_done p =
          record {
            content = p.content ∙ list_row.content ∙ (list_text q.there list_there counts low high).1;
            put = put_as (sym list_is) (put_join list_row.put p.put);
          }

  -- one operand and its mark
  module _ (low : 5 ≤ get_or s at 0) (mark : ℕ) (marks : mark ≡ mark_of (get_or s at 0)) where
    operand : ContentAt large s (at + 1)
    operand = operand_there large s at q.there low

    operand_is : content_text q.there.content ≡ content_text operand.content ++ (mark ∷ [])
    operand_is =
        (suffix_text q.there operand low).0 ∙ ap (λ (m : ℕ). content_text operand.content ++ (m ∷ [])) (sym marks)

    operand_room : end + length (content_text operand.content) + 1 ≤ length text
    operand_room =
        let l = ap length operand_is in
        let m = length-append (content_text operand.content) (mark ∷ []) in
        let h = q.room in
        omega arith

    pub operand_asks : Printable s (at + 1) text end
    operand_asks = record { there = operand; room = let h = operand_room in omega arith }

    module _ {after : List ℕ} {ends : Ends}
        (walk : (p : Printable s (at + 1) text end)
        → Printed text end (content_text p.there.content) p.there.next after ends) where
      operand_done : Printed text end (content_text operand.content) operand.next after ends
      operand_done = walk (record { there = operand; room = let h = operand_room in omega arith })

      pub operand_mark : ends.text < length after
      operand_mark =
          let l = put_length operand_done.put in
          let h = operand_done.put.next_is in
          let m = operand_room in
          omega arith

      pub suffix_done : {last : List ℕ} {r : Ends} → Printed after ends.text (mark ∷ []) ends.content last r
          → Printed text end (content_text q.there.content) q.there.next last r
      suffix_done p =
          record {
            content = p.content ∙ operand_done.content ∙ (suffix_text q.there operand low).1;
            put = put_as (sym operand_is) (put_join operand_done.put p.put);
          }

module _ {s : List ℕ} {at n first mark : ℕ} {text : List ℕ} {end : ℕ} (q : RowPrintable s at n first mark text end) where
  pub row_end : n ≡ 0
      → Printed text end (row_text first mark q.there.contents) q.there.next text (record { content = at; text = end })
  unfolding row_text
  row_end e =
      let w = none_there large s at n q.there e in
      let h = q.room in
      record { content = w.1; put = put_as (sym (ap (row_text first mark) w.0)) (put_none text end (omega arith)) }

  module _ (some : n ≡ 0 → ⊥) where
    parts : FirstThere large s at n q.there
    parts = first_of large s at n q.there some

    row_room : end + 1 + length (content_text parts.first.content) + length (row_text mark mark parts.others.contents) ≤ length text
    row_room =
        let c = content_text parts.first.content in
        let l = ap length (row_text_lem first mark parts) in
        let m = length-append ((first ∷ []) ++ c) (row_text mark mark parts.others.contents) in
        let h = q.room in
        omega arith

    pub row_byte : end < length text
    row_byte = let h = row_room in omega arith

    module _ {text₁ : List ℕ} {start : ℕ} (p : Put text end (first ∷ []) text₁ start) where
      first_room : start + length (content_text parts.first.content) ≤ length text₁
      first_room =
          let l = put_length p in
          let n = p.next_is in
          let h = row_room in
          omega arith

      pub first_asks : Printable s at text₁ start
      first_asks = record { there = parts.first; room = first_room }

      module _ {text₂ : List ℕ} {ends : Ends}
          (walk : (f : Printable s at text₁ start)
          → Printed text₁ start (content_text f.there.content) f.there.next text₂ ends) where
        first_done : Printed text₁ start (content_text parts.first.content) parts.first.next text₂ ends
        first_done = walk (record { there = parts.first; room = first_room })

        others_room : ends.text + length (row_text mark mark parts.others.contents) ≤ length text₂
        others_room =
            let l = put_length p in
            let m = put_length first_done.put in
            let a = p.next_is in
            let b = first_done.put.next_is in
            let h = row_room in
            omega arith

        pub row_forward : (at < ends.content) × (ends.content ≤ length s)
        row_forward =
            let e = first_done.content in
            let f = parts.forward in
            let i = parts.others.inside in
            (omega arith, omega arith)

        pub others_ask : RowPrintable s ends.content (n - 1) mark mark text₂ ends.text
        others_ask = record { there = moved (sym first_done.content) refl parts.others; room = others_room }

        pub row_done : {text₃ : List ℕ} {r : Ends}
            → ((f : RowPrintable s ends.content (n - 1) mark mark text₂ ends.text)
            → Printed text₂ ends.text (row_text mark mark f.there.contents) f.there.next text₃ r)
            → Printed text end (row_text first mark q.there.contents) q.there.next text₃ r
        row_done rest =
            let o = rest (record { there = moved (sym first_done.content) refl parts.others; room = others_room }) in
            record {
              content = o.content ∙ parts.ends;
              put = put_as (sym (row_text_lem first mark parts)) (put_join (put_join p first_done.put) o.put);
            }
