-- The text of a content as its bytes are walked:
--   none_text, empty_text, type_text_lem, list_text, suffix_text : operator by operator ; row_text_lem : of so many, the first and the others
use Prim.Native.Nat.{ℕ, zero, suc, ◌+◌, ◌-◌, ◌≤◌}
use native.Mathlib.Omega.{arith}
use mathlib.Core.Bool.{true}
use mathlib.Core.List.{List, [], ◌∷◌, ◌++◌}
use mathlib.Core.Option.{some as just}
use mathlib.Core.Path.{◌≡◌, refl, sym, ◌∙◌, ap}
use lib.ListN.{get_or, get_elem?}
use Rattle.grammar.specs.Limits.{large}
use Rattle.grammar.specs.Content.{
  Content,
  none,
  empty,
  type,
  sequence,
  choice,
  any_number,
  one_or_more,
  optional,
  Contents,
  []ᶜ,
  ◌∷ᶜ◌,
  operand_count,
}
use Rattle.grammar.specs.ReadContent.{single, counted, operators, is_proper}
use Rattle.grammar.specs.Listing.{Text, type_text, content_text, separated, continued}
use Rattle.reader.specs.ExprAt.{exprs_at}
use Rattle.reader.proofs.ExprLaws.{
  same_placed,
  alone_was,
  numbered_was,
  counted_was,
  single_was,
  operator_none,
  operator_empty,
  operator_type,
  operator_sequence,
  operator_choice,
  operator_any_number,
  operator_one_or_more,
  operator_optional,
}
use Rattle.reader.proofs.ExtentLaws.{proper_sequence, proper_choice}
use Rattle.reader.specs.ContentAt.{ContentAt, ContentsAt}
use Rattle.reader.proofs.ContentAtLaws.{FirstThere, content_inside}
use Rattle.lister_lines.specs.Printing.{mark_of, row_text}

-- the first operand apart
row_separated : (first mark : ℕ) (cs : Contents) → 2 ≤ operand_count cs → first ∷ separated (mark ∷ []) cs ≡ row_text first mark cs
unfolding content_text row_text operand_count
row_separated first mark []ᶜ h = absurd (omega arith)
row_separated first mark (c ∷ᶜ cs) h = refl

row_continued : (mark : ℕ) (cs : Contents) → continued (mark ∷ []) cs ≡ row_text mark mark cs
unfolding content_text row_text
row_continued mark []ᶜ = refl
row_continued mark (c ∷ᶜ cs) = refl

row_cons : (first mark : ℕ) (c : Content) (cs : Contents)
    → row_text first mark (c ∷ᶜ cs) ≡ ((first ∷ []) ++ content_text c) ++ row_text mark mark cs
unfolding row_text
row_cons first mark c cs = ap (λ (x : Text). (first ∷ content_text c) ++ x) (row_continued mark cs)

module _ {s : List ℕ} {at : ℕ} (q : ContentAt large s at) where
  abbrev b : ℕ
  b = get_or s at 0

  pub none_text : b ≡ 0 → (content_text q.content ≡ 0x21 ∷ []) × (q.next ≡ at + 1)
  unfolding content_text
  none_text e =
      let w = alone_was s at q.content q.next q.stands none (ap (get_elem? operators) e ∙ operator_none) in
      (ap content_text (sym w.0), sym w.1)

  pub empty_text : b ≡ 1 → (content_text q.content ≡ 0x28 ∷ 0x29 ∷ []) × (q.next ≡ at + 1)
  unfolding content_text
  empty_text e =
      let w = alone_was s at q.content q.next q.stands empty (ap (get_elem? operators) e ∙ operator_empty) in
      (ap content_text (sym w.0), sym w.1)

  pub type_text_lem : b ≡ 2 → (content_text q.content ≡ type_text (get_or s (at + 1) 0)) × (q.next ≡ at + 2)
  unfolding content_text
  type_text_lem e =
      let w = numbered_was s at q.content q.next q.stands type (ap (get_elem? operators) e ∙ operator_type) in
      (ap content_text (sym w.0), sym w.1)

  -- operands in brackets
  module _ {n : ℕ} (o : ContentsAt large s (at + 2) n) (counts : n ≡ get_or s (at + 1) 0) where
    bracketed : (f : Contents → Content) (mark : ℕ) → get_elem? operators b ≡ just (counted f)
        → ((cs : Contents) → content_text (f cs) ≡ (0x28 ∷ separated (mark ∷ []) cs) ++ (0x29 ∷ []))
        → ((cs : Contents) → is_proper large (f cs) ≡ true → 2 ≤ operand_count cs)
        → (content_text q.content ≡ row_text 0x28 mark o.contents ++ (0x29 ∷ [])) × (o.next ≡ q.next)
    bracketed f mark i text two =
        let w = counted_was s at q.content q.next q.stands f i in
        let cs = w.0 in
        let p = same_placed (sym w.1 ∙ ap (exprs_at s (at + 2)) (sym counts) ∙ o.stand) in
        let some = two cs (ap (is_proper large) w.2 ∙ q.proper) in (
          ap content_text (sym w.2)
              ∙ text cs
              ∙ ap (λ (x : Text). x ++ (0x29 ∷ [])) (row_separated 0x28 mark cs some)
              ∙ ap (λ (ds : Contents). row_text 0x28 mark ds ++ (0x29 ∷ [])) p.0,
          sym p.1,
        )

    pub list_text : 3 ≤ b → b ≤ 4
        → (content_text q.content ≡ row_text 0x28 (mark_of b) o.contents ++ (0x29 ∷ [])) × (o.next ≡ q.next)
    unfolding content_text mark_of
    list_text low high = go (b - 3) refl
      where
        go : (k : ℕ) → b - 3 ≡ k
            → (content_text q.content ≡ row_text 0x28 (mark_of b) o.contents ++ (0x29 ∷ [])) × (o.next ≡ q.next)
        go zero e =
            let z : b ≡ 3 = omega arith in
            let r = bracketed sequence 0x2C (ap (get_elem? operators) z ∙ operator_sequence) (λ cs. refl) (λ cs p. (proper_sequence large cs p).0) in
            (r.0 ∙ ap (λ (m : ℕ). row_text 0x28 m o.contents ++ (0x29 ∷ [])) (sym (ap mark_of z)), r.1)
        go (suc zero) e =
            let z : b ≡ 4 = omega arith in
            let r = bracketed choice 0x7C (ap (get_elem? operators) z ∙ operator_choice) (λ cs. refl) (λ cs p. (proper_choice large cs p).0) in
            (r.0 ∙ ap (λ (m : ℕ). row_text 0x28 m o.contents ++ (0x29 ∷ [])) (sym (ap mark_of z)), r.1)
        go (suc (suc k)) e = absurd (omega arith)

  -- one operand and a mark
  module _ (o : ContentAt large s (at + 1)) where
    suffixed : (f : Content → Content) (mark : ℕ) → get_elem? operators b ≡ just (single f)
        → ((c : Content) → content_text (f c) ≡ content_text c ++ (mark ∷ [])) → mark_of b ≡ mark
        → (content_text q.content ≡ content_text o.content ++ (mark_of b ∷ [])) × (o.next ≡ q.next)
    suffixed f mark i text m =
        let w = single_was s at q.content q.next q.stands f i in
        let p = same_placed (sym w.1 ∙ o.stands) in (
          ap content_text (sym w.2)
              ∙ text w.0
              ∙ ap (λ (c : Content). content_text c ++ (mark ∷ [])) p.0
              ∙ ap (λ (n : ℕ). content_text o.content ++ (n ∷ [])) (sym m),
          sym p.1,
        )

    pub suffix_text : 5 ≤ b → (content_text q.content ≡ content_text o.content ++ (mark_of b ∷ [])) × (o.next ≡ q.next)
    unfolding content_text mark_of
    suffix_text low = go (b - 5) refl
      where
        high : b ≤ 7
        high = (content_inside large s at q).1

        go : (k : ℕ) → b - 5 ≡ k
            → (content_text q.content ≡ content_text o.content ++ (mark_of b ∷ [])) × (o.next ≡ q.next)
        go zero e =
            let z : b ≡ 5 = omega arith in
            suffixed any_number 0x2A (ap (get_elem? operators) z ∙ operator_any_number) (λ c. refl) (ap mark_of z)
        go (suc zero) e =
            let z : b ≡ 6 = omega arith in
            suffixed one_or_more 0x2B (ap (get_elem? operators) z ∙ operator_one_or_more) (λ c. refl) (ap mark_of z)
        go (suc (suc k)) e =
            let h = high in
            let z : b ≡ 7 = omega arith in
            suffixed optional 0x3F (ap (get_elem? operators) z ∙ operator_optional) (λ c. refl) (ap mark_of z)

-- of so many contents, the first and the others
pub row_text_lem : {s : List ℕ} {at n : ℕ} {q : ContentsAt large s at n} (first mark : ℕ) (p : FirstThere large s at n q)
    → row_text first mark q.contents ≡ ((first ∷ []) ++ content_text p.first.content) ++ row_text mark mark p.others.contents
row_text_lem first mark p = ap (row_text first mark) p.both ∙ row_cons first mark p.first.content p.others.contents
