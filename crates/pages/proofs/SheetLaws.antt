-- The rows of a table's rules and the blank rows behind them:
--   rows_all, rows_more, rows_end, rows_within : rule by rule ; blank_rows : the rows of no texts ; pages_joined, pages_size : the whole
--   blanks_few : how many are blank ; rows_whole : where the others end ; too_short, handed_over : by the room that there is
use Prim.Native.Nat.{ℕ, ◌+◌, ◌*◌, ◌≤◌, ◌<◌}
use native.Mathlib.Omega.{arith}
use mathlib.Core.Bool.{Bool}
use mathlib.Core.List.{List, [], ◌∷◌, ◌++◌}
use mathlib.Core.Path.{◌≡◌, refl, sym, ◌∙◌, ap, subst}
use lib.ListN.{length, take, drop, replicate, length-append, length-map, take-append-drop}
use lib.Seq.{take_all}
use borrow.Author.Tests.{lt-ltb, le-ltb}
use Rattle.grammar.specs.Lists.{joined_of, numbers_from, numbers_below}
use Rattle.grammar.specs.Table.{Rule, Table}
use Rattle.grammar.specs.Listing.{Text}
use Rattle.grammar.specs.Pages.{
  page_layout,
  RuleTexts,
  texts_of,
  no_texts,
  row_of,
  rows_of,
  rule_rows,
  table_rows,
  blank_row,
  blanks_after,
  page_rows,
  pages,
}
use Rattle.std.specs.Prelude.{Result, Ok, Err}
use Rattle.grammar.specs.Outcome.{◌>>◌, turn_back}
use Rattle.grammar.specs.declared.Refusal.{Refusal}
use Rattle.grammar.specs.Answers.{written}
use Rattle.grammar.specs.Calls.{out_after, room_for}
use Rattle.grammar.specs.declared.Refusal.TheVariants.{OutputTooShort}
use Rattle.theory.proofs.Lists.ListLaws.{joined_append, numbers_length}
use Rattle.theory.proofs.Emission.EmittedContent.{joined_map}
use Rattle.theory.proofs.Bytes.PageRows.{past_rows}
use Rattle.union.specs.PairNumbers.{rule_numbered, no_rule}
use Rattle.writer.specs.Writing.{Put}
use Rattle.writer.proofs.PutLaws.{put_join}
use Rattle.lister_lines.proofs.LineLaws.{joined_place}
use Rattle.lister_lines.proofs.PrintSteps.{put_as}
use Rattle.pages.specs.Printing.{HandedOver}
use Rattle.pages.proofs.RowLaws.{row_long}

abbrev joined : List Text → Text
joined rows = joined_of (λ row. row) rows

-- so many rows of one rule
rows_size : (t : RuleTexts) (ns : List ℕ) → length (joined_of (row_of page_layout t) ns) ≡ 73 * length ns
unfolding joined_of
rows_size t [] = refl
rows_size t (n ∷ ns) =
    let a = length-append (row_of page_layout t n) (joined_of (row_of page_layout t) ns) in
    let b = row_long t n in
    let c = rows_size t ns in
    omega arith

below_length : (n : ℕ) → length (numbers_below n) ≡ n
unfolding numbers_below
below_length n = numbers_length 0 n

pub rule_rows_length : (t : RuleTexts) → length (rule_rows page_layout t) ≡ rows_of page_layout t
unfolding rule_rows
rule_rows_length t = length-map (numbers_below (rows_of page_layout t)) (row_of page_layout t) ∙ below_length (rows_of page_layout t)

rule_rows_joined : (t : RuleTexts) → joined (rule_rows page_layout t) ≡ joined_of (row_of page_layout t) (numbers_below (rows_of page_layout t))
unfolding rule_rows
rule_rows_joined t = joined_map (λ row. row) (row_of page_layout t) (numbers_below (rows_of page_layout t))

module _ (g : Table) where
  abbrev pub rows_of_rule : Rule → List Text
  rows_of_rule r = rule_rows page_layout (texts_of g r)

  -- the rows of the rules before one
  abbrev pub rows_before : ℕ → List Text
  rows_before i = joined_of rows_of_rule (take i g.rules)

  abbrev texts_at : ℕ → RuleTexts
  texts_at i = texts_of g (rule_numbered g i)

  pub rows_all : (i : ℕ) → length g.rules ≤ i → rows_before i ≡ table_rows page_layout g
  unfolding table_rows
  rows_all i h = ap (joined_of rows_of_rule) (take_all i g.rules h)

  module _ (i : ℕ) (h : i < length g.rules) where
    rows_step : rows_before i ++ rows_of_rule (rule_numbered g i) ≡ rows_before (i + 1)
    rows_step = joined_place rows_of_rule g.rules i no_rule h

    pub rows_more : length (rows_before (i + 1)) ≡ length (rows_before i) + rows_of page_layout (texts_at i)
    rows_more =
        ap length (sym rows_step)
        ∙ length-append (rows_before i) (rows_of_rule (rule_numbered g i))
        ∙ ap (λ (n : ℕ). length (rows_before i) + n) (rule_rows_length (texts_at i))

    rows_put : {before mid after : List ℕ} {end last : ℕ} → Put before 0 (joined (rows_before i)) mid end
        → Put mid end (joined_of (row_of page_layout (texts_at i)) (numbers_below (rows_of page_layout (texts_at i)))) after last
        → Put before 0 (joined (rows_before (i + 1))) after last
    rows_put p q =
        put_as
        (ap (λ (x : Text). joined (rows_before i) ++ x) (sym (rule_rows_joined (texts_at i)))
        ∙ sym (joined_append (λ row. row) (rows_before i) (rows_of_rule (rule_numbered g i)))
        ∙ ap joined rows_step)
        (put_join p q)

    -- and where they end
    pub rows_end : {before mid after : List ℕ} {end last rows : ℕ} → rows ≡ rows_of page_layout (texts_at i) → end ≡ 73 * length (rows_before i)
        → Put before 0 (joined (rows_before i)) mid end → Put mid end (joined_of (row_of page_layout (texts_at i)) (numbers_below rows)) after last
        → (last ≡ 73 * length (rows_before (i + 1))) × Put before 0 (joined (rows_before (i + 1))) after last
    rows_end {before} {mid} {after} {end} {last} {rows} n e p q =
        let so = subst (λ (k : ℕ). Put mid end (joined_of (row_of page_layout (texts_at i)) (numbers_below k)) after last) n q in
        let a = q.next_is in
        let b = rows_size (texts_at i) (numbers_below rows) in
        let c = below_length rows in
        let d = rows_more in
        (omega arith, rows_put p so)

  pub rows_within : (i : ℕ) → length (rows_before i) ≤ length (table_rows page_layout g)
  unfolding table_rows
  rows_within i =
      let a = ap length (ap (joined_of rows_of_rule) (sym (take-append-drop i g.rules)) ∙ joined_append rows_of_rule (take i g.rules) (drop i g.rules)) in
      let b = length-append (rows_before i) (joined_of rows_of_rule (drop i g.rules)) in
      omega arith

-- fewer than a page
pub blanks_few : (rows : ℕ) {blanks : ℕ} → blanks ≡ blanks_after 60 rows → blanks < 60
unfolding blanks_after
blanks_few rows e = omega arith

-- the rows of no texts are blank
blank_rows : (n : ℕ) → joined_of (row_of page_layout no_texts) (numbers_below n) ≡ joined (replicate n (blank_row page_layout))
unfolding numbers_below page_layout rows_of
blank_rows n =
    sym (joined_map (λ row. row) (row_of page_layout no_texts) (numbers_from 0 n))
    ∙ ap joined (past_rows page_layout no_texts (omega arith) (omega arith) (omega arith) 0 n (omega arith))

module _ (g : Table) where
  table_size : (rs : List Rule) → length (joined (joined_of (rows_of_rule g) rs)) ≡ 73 * length (joined_of (rows_of_rule g) rs)
  unfolding joined_of
  table_size [] = refl
  table_size (r ∷ rs) =
      let t = texts_of g r in
      let a = ap length (joined_append (λ row. row) (rule_rows page_layout t) (joined_of (rows_of_rule g) rs)) in
      let b = length-append (joined (rule_rows page_layout t)) (joined (joined_of (rows_of_rule g) rs)) in
      let c = ap length (rule_rows_joined t) ∙ rows_size t (numbers_below (rows_of page_layout t)) in
      let d = below_length (rows_of page_layout t) in
      let e = rule_rows_length t in
      let f = length-append (rule_rows page_layout t) (joined_of (rows_of_rule g) rs) in
      let h = table_size rs in
      omega arith

  -- where the rows of the rules end
  pub rows_whole : {before after : List ℕ} {end : ℕ} → Put before 0 (joined (table_rows page_layout g)) after end
      → end ≡ 73 * length (table_rows page_layout g)
  unfolding table_rows
  rows_whole p =
      let size = table_size g.rules in
      let e = p.next_is in
      omega arith

  -- the rows of the rules, then the blank ones
  module _ {rows blanks : ℕ} (count : rows ≡ length (table_rows page_layout g)) (fill : blanks ≡ blanks_after 60 rows) where
    pages_joined : joined (table_rows page_layout g) ++ joined_of (row_of page_layout no_texts) (numbers_below blanks) ≡ pages page_layout g
    unfolding pages page_rows page_layout
    pages_joined =
        ap (λ (x : Text). joined (table_rows page_layout g) ++ x)
        (ap (λ (n : ℕ). joined_of (row_of page_layout no_texts) (numbers_below n)) (fill ∙ ap (blanks_after 60) count)
        ∙ blank_rows (blanks_after 60 (length (table_rows page_layout g))))
        ∙ sym (joined_append (λ row. row) (table_rows page_layout g) (replicate (blanks_after 60 (length (table_rows page_layout g))) (blank_row page_layout)))

    pub pages_size : length (pages page_layout g) ≡ (rows + blanks) * 73
    unfolding table_rows
    pages_size =
        let a = ap length pages_joined in
        let b = length-append (joined (table_rows page_layout g)) (joined_of (row_of page_layout no_texts) (numbers_below blanks)) in
        let c = table_size g.rules in
        let d = rows_size no_texts (numbers_below blanks) in
        let e = below_length blanks in
        omega arith

    pub too_short : {out : List ℕ} → length out < (rows + blanks) * 73 → HandedOver (pages page_layout g) out out (Err OutputTooShort)
    unfolding room_for written out_after
    too_short {out} h =
        let e : room_for out (pages page_layout g) ≡ Err OutputTooShort =
        ap (λ (b : Bool). turn_back b OutputTooShort >> Ok (pages page_layout g))
        (lt-ltb (length out) (length (pages page_layout g)) (subst (λ (n : ℕ). length out < n) (sym pages_size) h)) in
        record { answer = sym (ap written e); out = sym (ap (λ (o : Result (List ℕ) Refusal). out_after o out) e) }

    pub handed_over : {out mid left : List ℕ} {end last : ℕ} → (rows + blanks) * 73 ≤ length out
        → Put out 0 (joined (table_rows page_layout g)) mid end
        → Put mid end (joined_of (row_of page_layout no_texts) (numbers_below blanks)) left last
        → HandedOver (pages page_layout g) out left (Ok ((rows + blanks) * 73))
    unfolding room_for written out_after
    handed_over {out} {mid} {left} {end} {last} h p q =
        let whole : Put out 0 (pages page_layout g) left last = put_as pages_joined (put_join p q) in
        let size = pages_size in
        let e : room_for out (pages page_layout g) ≡ Ok (pages page_layout g) =
        ap (λ (b : Bool). turn_back b OutputTooShort >> Ok (pages page_layout g))
        (le-ltb (length out) (length (pages page_layout g)) (subst (λ (n : ℕ). n ≤ length out) (sym size) h)) in
        let z : last ≡ length (pages page_layout g) = omega (arith, whole.next_is) in
        record {
          answer = ap Ok (sym size) ∙ sym (ap written e);
          out = whole.is ∙ ap (λ (n : ℕ). pages page_layout g ++ drop n out) z ∙ sym (ap (λ (o : Result (List ℕ) Refusal). out_after o out) e);
        }
