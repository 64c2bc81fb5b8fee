-- The texts of a rule, written one after the other:
--   stands_in : bytes between others ; texts_stand : three texts, the last in two parts ; rule_texts : those of a rule ; no_texts_lem : none
--   places_inside : the order of the places
use Prim.Native.Nat.{ℕ, ◌+◌, ◌-◌, ◌≤◌}
use native.Mathlib.Omega.{arith}
use mathlib.Core.List.{List, [], ◌++◌, append_assoc}
use mathlib.Core.Path.{◌≡◌, refl, ◌∙◌, ap, subst}
use lib.ListN.{length, get_or, take, drop, length-append}
use lib.Seq.{take_at, drop_at}
use Rattle.grammar.specs.Table.{Rule, Table}
use Rattle.grammar.specs.Listing.{Text, type_text, content_text, text_mark}
use Rattle.grammar.specs.Pages.{RuleTexts, texts_of, no_texts}
use Rattle.reader.specs.TableIndex.{BytesStand}
use Rattle.writer.specs.Writing.{Put}
use Rattle.writer.proofs.PutLaws.{put_join}
use Rattle.pages.specs.declared.texts.TextPlaces.{TextPlaces}
use Rattle.pages.specs.Printing.{TextsStand}

-- bytes between others stand where these end
stands_in : (s front bytes rest : List ℕ) (from to : ℕ) → s ≡ front ++ (bytes ++ rest) → length front ≡ from → to ≡ from + length bytes
    → BytesStand s from to bytes
stands_in s front bytes rest from to e f t =
    let a = ap length e in
    let b = length-append front (bytes ++ rest) in
    let c = length-append bytes rest in
    record {
      inside = record { order = omega arith; within = omega arith };
      bytes_are =
          ap (λ (l : List ℕ). take (to - from) l) (ap (drop from) e ∙ drop_at front (bytes ++ rest) from f)
          ∙ take_at bytes rest (to - from) (omega arith);
    }

module _ {before t₁ t₂ t₃ t₄ : List ℕ} {name content mark end : ℕ} (T N C M : Text) (typed : Put before 0 T t₁ name)
    (named : Put t₁ name N t₂ content) (told : Put t₂ content C t₃ mark) (marked : Put t₃ mark M t₄ end) (short : end ≤ 3139) where
  abbrev rest : Text
  rest = drop end before

  joined : Put before 0 (T ++ N ++ (C ++ M)) t₄ end
  joined = put_join (put_join typed named) (put_join told marked)

  all_is : t₄ ≡ T ++ N ++ (C ++ M) ++ rest
  all_is = joined.is

  pub texts_stand : TextsStand t₄ (record { name = name; content = content; end = end }) (record { type = T; name = N; content = C ++ M })
  texts_stand =
      let a = typed.next_is in
      let b = named.next_is in
      let c = told.next_is in
      let d = marked.next_is in
      let l = length-append T N in
      let m = length-append C M in
      let second = all_is ∙ append_assoc (T ++ N) (C ++ M) rest in
      record {
        type = stands_in t₄ [] T (N ++ ((C ++ M) ++ rest)) 0 name (second ∙ append_assoc T N ((C ++ M) ++ rest)) refl (omega arith);
        name = stands_in t₄ T N ((C ++ M) ++ rest) name content (second ∙ append_assoc T N ((C ++ M) ++ rest)) (omega arith) (omega arith);
        content = stands_in t₄ (T ++ N) (C ++ M) rest content end second (omega arith) (omega arith);
        short = short;
      }

-- those of a rule, whose type and label are told as numbers
pub rule_texts : (g : Table) (x : Rule) (k l : ℕ) {s : List ℕ} {p : TextPlaces} → k ≡ x.type → l ≡ x.label
    → TextsStand s p (record { type = type_text k; name = get_or g.labels l []; content = content_text x.content ++ text_mark x.text })
    → TextsStand s p (texts_of g x)
unfolding texts_of
rule_texts g x k l {s} {p} a b w =
    subst
    (λ (m : ℕ). TextsStand s p (record { type = type_text m; name = get_or g.labels x.label []; content = content_text x.content ++ text_mark x.text }))
    a
    (subst
    (λ (m : ℕ). TextsStand s p (record { type = type_text k; name = get_or g.labels m []; content = content_text x.content ++ text_mark x.text }))
    b w)

-- no texts stand anywhere
pub no_texts_lem : (s : List ℕ) → TextsStand s (record { name = 0; content = 0; end = 0 }) no_texts
no_texts_lem s =
    let none : BytesStand s 0 0 [] = stands_in s [] [] s 0 0 refl refl refl in
    record { type = none; name = none; content = none; short = omega arith }

-- where the texts stand
pub places_inside : {s : List ℕ} {p : TextPlaces} {t : RuleTexts} → TextsStand s p t
    → (p.name ≤ p.content) × (p.content ≤ p.end) × (p.end ≤ 3139)
places_inside w = (w.name.inside.order, w.content.inside.order, w.short)
