-- What the writing of an operator's first bytes makes of the operands after them:
--   alone_stands, single_stands, counted_stands : the bytes and the operands are the expression
--   finish_none, finish_one, finish_more : none, the one operand, the choice of them all
use Prim.Native.Nat.{ℕ, ◌+◌, ◌-◌, ◌≤◌, ◌<◌}
use native.Mathlib.Omega.{arith}
use mathlib.Core.List.{List, [], ◌∷◌, ◌++◌, append_assoc}
use mathlib.Core.Option.{some as just}
use mathlib.Core.Path.{◌≡◌, refl, sym, ◌∙◌, ap}
use lib.ListN.{length, get_or, get_elem?, take, drop, set, length-set}
use lib.Seq.{paste, take_at, drop_at, length-take-le, take-set-le, drop-set-lt, get_or-set_same, get_or-set_other}
use Rattle.grammar.specs.Content.{Content, none, choice, Contents, operands, choice_of}
use Rattle.grammar.specs.ReadContent.{content_bytes, alone, counted, single, operators}
use Rattle.reader.specs.ExprAt.{◌up_to◌, placed, expr_at, exprs_at}
use Rattle.reader.proofs.ExprLaws.{
  expr_alone,
  expr_single,
  expr_counted,
  expr_of,
  expr_bytes,
  expr_written,
  exprs_written,
  exprs_of,
  operator_none,
  operator_choice,
}
use Rattle.operands.specs.Drafts.{Row, Finished}
use Rattle.operands.proofs.RowLaws.{exprs_none_left, exprs_only}
use Rattle.operands.proofs.KeptLaws.{row_count}

module _ (d : List ℕ) (at : ℕ) where
  pub alone_stands : (b : ℕ) (c : Content) → at < length d → get_or d at 0 ≡ b → get_elem? operators b ≡ just (alone c)
      → expr_at d at ≡ just (c up_to (at + 1))
  alone_stands b c h e o = expr_alone d at h c (ap (get_elem? operators) e ∙ o)

  pub single_stands : (b : ℕ) (f : Content → Content) (c : Content) (end : ℕ) → at < length d → get_or d at 0 ≡ b
      → get_elem? operators b ≡ just (single f) → expr_at d (at + 1) ≡ just (c up_to end) → expr_at d at ≡ just (f c up_to end)
  single_stands b f c end h e o s = expr_single d at h f (ap (get_elem? operators) e ∙ o) ∙ ap (placed f) s

  pub counted_stands : (b n : ℕ) (f : Contents → Content) (cs : Contents) (end : ℕ) → at + 1 < length d → get_or d at 0 ≡ b
      → get_elem? operators b ≡ just (counted f) → get_or d (at + 1) 0 ≡ n → exprs_at d (at + 2) n ≡ just (cs up_to end)
      → expr_at d at ≡ just (f cs up_to end)
  counted_stands b n f cs end h e o m s =
      expr_counted d at h f (ap (get_elem? operators) e ∙ o) ∙ ap (placed f) (ap (exprs_at d (at + 2)) m ∙ s)

-- two bytes written one after the other
module _ (d : List ℕ) (at b n : ℕ) (h : at + 1 < length d) where
  abbrev pub headed : List ℕ
  headed = set (set d at b) (at + 1) n

  pub headed_first : get_or headed at 0 ≡ b
  headed_first =
      get_or-set_other (set d at b) (at + 1) at n 0 (λ e. omega arith) ∙ get_or-set_same d at b 0 (omega arith)

  pub headed_second : get_or headed (at + 1) 0 ≡ n
  headed_second =
      let l = length-set d at b in
      get_or-set_same (set d at b) (at + 1) n 0 (omega arith)

  pub headed_length_lem : length headed ≡ length d
  headed_length_lem = length-set (set d at b) (at + 1) n ∙ length-set d at b

  pub headed_before : take at headed ≡ take at d
  headed_before = take-set-le at (set d at b) (at + 1) n (omega arith) ∙ take-set-le at d at b (omega arith)

  pub headed_after : drop (at + 2) headed ≡ drop (at + 2) d
  headed_after = drop-set-lt (at + 2) (set d at b) (at + 1) n (omega arith) ∙ drop-set-lt (at + 2) d at b (omega arith)

-- expressions stand wherever their bytes do
pub exprs_same_drop : (s t : List ℕ) (at n : ℕ) (cs : Contents) (next : ℕ) → at ≤ length s → at ≤ length t → drop at s ≡ drop at t
    → exprs_at s at n ≡ just (cs up_to next) → exprs_at t at n ≡ just (cs up_to next)
exprs_same_drop s t at n cs next h k e f =
    let w = exprs_written s at n cs next h f in
    ap (exprs_at t at) w.0
    ∙ exprs_of t at cs (drop next s) k (sym e ∙ w.1.bytes_from)
    ∙ ap (λ (m : ℕ). just (cs up_to m)) (sym w.1.next_is)

module _ (d : List ℕ) (start n end : ℕ) (ds : List Content) (r : Row d (start + 2) n ds end) where
  pub finish_none : n ≡ 0 → Finished d (set d start 0) start (choice_of ds) (start + 1)
  unfolding choice_of
  finish_none z =
      let e = (exprs_none_left d (start + 2) ds end (ap (exprs_at d (start + 2)) (sym z) ∙ r.stand)).0 in
      let l = length-set d start 0 in
      record {
        stands =
            alone_stands (set d start 0) start 0 none (omega arith) (get_or-set_same d start 0 0 (omega arith)) operator_none
            ∙ ap (λ (l : List Content). just (choice_of l up_to (start + 1))) (sym e);
        keeps = take-set-le start d start 0 (omega arith);
      }

  pub finish_one : (d' : List ℕ) → n ≡ 1 → d' ≡ paste d start (drop (start + 2) d) (end - (start + 2))
      → Finished d d' start (choice_of ds) (end - 2)
  unfolding choice_of
  finish_one d' z p =
      let o = exprs_only d (start + 2) ds end (ap (exprs_at d (start + 2)) (sym z) ∙ r.stand) in
      let x = o.0 in
      let k = end - (start + 2) in
      let w = expr_written d (start + 2) x end o.2 in
      let b = expr_bytes d (start + 2) x end o.2 in
      let l = length-take-le start d (omega arith) in
      let to_end : start + length (content_bytes x) ≡ end - 2 = omega arith in
      let from : drop start d' ≡ content_bytes x ++ drop (start + k) d =
      ap (drop start) (p ∙ append_assoc (take start d) (take k (drop (start + 2) d)) (drop (start + k) d))
      ∙ drop_at (take start d) (take k (drop (start + 2) d) ++ drop (start + k) d) start l
      ∙ ap (λ (l : List ℕ). l ++ drop (start + k) d) b in
      record {
        stands =
            expr_of d' start x (drop (start + k) d) from
            ∙ ap (λ (m : ℕ). just (x up_to m)) to_end
            ∙ ap (λ (l : List Content). just (choice_of l up_to (end - 2))) (sym o.1);
        keeps =
            ap (take start) (p ∙ append_assoc (take start d) (take k (drop (start + 2) d)) (drop (start + k) d))
            ∙ take_at (take start d) (take k (drop (start + 2) d) ++ drop (start + k) d) start l;
      }

  choice_of_more : (xs : List Content) → 2 ≤ length xs → choice_of xs ≡ choice (operands xs)
  unfolding choice_of operands
  choice_of_more [] h = absurd (omega arith)
  choice_of_more (x ∷ []) h = absurd (omega arith)
  choice_of_more (x ∷ y ∷ ys) h = refl

  pub finish_more : 2 ≤ n → Finished d (set (set d start 4) (start + 1) n) start (choice_of ds) end
  finish_more h =
      let c = row_count d (start + 2) n end ds r in
      let i : start + 1 < length d = omega arith in
      let l = headed_length_lem d start 4 n i in
      record {
        stands =
            counted_stands (headed d start 4 n i) start 4 n choice (operands ds) end (omega arith) (headed_first d start 4 n i)
            operator_choice
            (headed_second d start 4 n i)
            (exprs_same_drop d (headed d start 4 n i) (start + 2) n (operands ds) end (omega arith) (omega arith)
            (sym (headed_after d start 4 n i))
            r.stand)
            ∙ ap (λ (c : Content). just (c up_to end)) (sym (choice_of_more ds (omega arith)));
        keeps = headed_before d start 4 n i;
      }
