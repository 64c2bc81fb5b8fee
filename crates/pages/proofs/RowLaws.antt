-- The rows of a rule's texts:
--   row_put : a row, column by column ; row_long : how long it is ; rows_next : one row more ; rows_counted : how many there are
use Prim.Native.Nat.{ℕ, ◌+◌, ◌-◌, ◌/◌, max}
use native.Mathlib.Omega.{arith}
use mathlib.Core.List.{List, [], ◌∷◌, ◌++◌}
use mathlib.Core.Path.{◌≡◌, sym, ◌∙◌, ap}
use lib.ListN.{length}
use Rattle.grammar.specs.Lists.{joined_of, numbers_below}
use Rattle.grammar.specs.Listing.{Text}
use Rattle.grammar.specs.Pages.{page_layout, RuleTexts, lines_of, line_of, row_of, rows_of}
use Rattle.grammar.specs.ReadPages.{row_size}
use Rattle.theory.proofs.Lists.ListLaws.{joined_next}
use Rattle.theory.proofs.Bytes.PageRows.{row_size_lem}
use Rattle.reader.proofs.TableFaults.{part_size}
use Rattle.writer.specs.Writing.{Put}
use Rattle.writer.proofs.PutLaws.{put_join}
use Rattle.lister_lines.proofs.PrintSteps.{put_as}
use Rattle.pages.specs.declared.texts.TextPlaces.{TextPlaces}
use Rattle.pages.specs.Printing.{TextsStand}

module _ (t : RuleTexts) (i : ℕ) where
  pub row_put : {T N C : Text} → T ≡ t.type → N ≡ t.name → C ≡ t.content → {before : List ℕ} {at : ℕ} {after : List ℕ} {end : ℕ}
      → Put before at (line_of 3 T i ++ (0x20 ∷ []) ++ line_of 23 N i ++ (0x20 ∷ []) ++ line_of 44 C i ++ (0x0A ∷ [])) after end
      → Put before at (row_of page_layout t i) after end
  unfolding row_of page_layout
  row_put {T} {N} {C} a b c p =
      put_as
      (ap (λ (x : Text). line_of 3 x i ++ (0x20 ∷ []) ++ line_of 23 N i ++ (0x20 ∷ []) ++ line_of 44 C i ++ (0x0A ∷ [])) a
      ∙ ap (λ (x : Text). line_of 3 t.type i ++ (0x20 ∷ []) ++ line_of 23 x i ++ (0x20 ∷ []) ++ line_of 44 C i ++ (0x0A ∷ [])) b
      ∙ ap (λ (x : Text). line_of 3 t.type i ++ (0x20 ∷ []) ++ line_of 23 t.name i ++ (0x20 ∷ []) ++ line_of 44 x i ++ (0x0A ∷ [])) c)
      p

  pub row_long : length (row_of page_layout t i) ≡ 73
  unfolding page_layout row_size
  row_long = row_size_lem page_layout t i

  -- one row more
  pub rows_next : {before mid : List ℕ} {at end : ℕ} {after : List ℕ} {last : ℕ}
      → Put before at (joined_of (row_of page_layout t) (numbers_below i)) mid end → Put mid end (row_of page_layout t i) after last
      → Put before at (joined_of (row_of page_layout t) (numbers_below (i + 1))) after last
  rows_next p q = put_as (sym (joined_next (row_of page_layout t) i)) (put_join p q)

-- as many rows as the longest text takes lines
pub rows_counted : (texts : List ℕ) (p : TextPlaces) (t : RuleTexts) → TextsStand texts p t
    → max ((p.name + 2) / 3) (max ((p.content - p.name + 22) / 23) ((p.end - p.content + 43) / 44)) ≡ rows_of page_layout t
unfolding rows_of page_layout
rows_counted texts p t w =
    let a = ap length (sym w.type.bytes_are) ∙ part_size texts 0 p.name w.type.inside in
    let b = ap length (sym w.name.bytes_are) ∙ part_size texts p.name p.content w.name.inside in
    let c = ap length (sym w.content.bytes_are) ∙ part_size texts p.content p.end w.content.inside in
    let z : p.name - 0 ≡ p.name = omega arith in
    sym
    (ap (λ (n : ℕ). max ((n + 2) / 3) (max (lines_of 23 t.name) (lines_of 44 t.content))) (a ∙ z)
    ∙ ap (λ (n : ℕ). max ((p.name + 2) / 3) (max ((n + 22) / 23) (lines_of 44 t.content))) b
    ∙ ap (λ (n : ℕ). max ((p.name + 2) / 3) (max ((p.content - p.name + 22) / 23) ((n + 43) / 44))) c)
