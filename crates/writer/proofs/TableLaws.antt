-- Fields written one after the other by number, the fields of rules, and the parts of a table.
--   step_stop, step_more : one field more, where it does not fit or does
--   rule_puts : a rule's field
--   rules_stop, rules_more : one rule more
--   put_over, put_then, table_over, table_then : one part of a table after another
use Prim.Native.Nat.{ℕ, zero, suc, ◌+◌, ◌≤◌, ◌<◌}
use native.Mathlib.Omega.{arith}
use native.Mathlib.Numerals.{add-one}
use mathlib.Core.Bool.{Bool, true, false}
use mathlib.Core.List.{List, ◌++◌}
use mathlib.Core.Logic.{inl, inr, ⊎_elim}
use mathlib.Core.Path.{◌≡◌, refl, sym, ◌∙◌, ap, subst, ap₂}
use lib.Dec.{ltb}
use borrow.Author.Tests.{ltb-true, ltb-false}
use lib.ListN.{length, length-append}
use Rattle.std.specs.Prelude.{Err, Ok, Result}
use Rattle.grammar.specs.Lists.{joined_of, numbers_below}
use Rattle.grammar.specs.Limits.{large, input_limit}
use Rattle.grammar.specs.Table.{Rule}
use Rattle.grammar.specs.Fields.{field_bytes}
use Rattle.grammar.specs.ReadTable.{rule_tag}
use Rattle.grammar.specs.WriteTable.{rule_bytes, rule_field}
use Rattle.grammar.specs.Size.{content_too_large}
use Rattle.grammar.specs.declared.TooLarge.{TooLarge}
use Rattle.theory.proofs.Lists.ListLaws.{joined_next}
use Rattle.writer.specs.Writing.{Put, Puts}
use Rattle.writer.specs.Tables.{RulePuts, numbered_field, RulesPut, TablePut}
use Rattle.writer.proofs.PutLaws.{put_none, put_join}

module _ (f : ℕ → List ℕ) where
  abbrev first : ℕ → List ℕ
  first n = joined_of f (numbers_below n)

  up_over : (t n : ℕ) → t < n → length (first t) + length (f t) ≤ length (first n)
  up_over t zero h = absurd (omega arith)
  up_over t (suc n) h = go (ltb t n) refl (λ k. up_over t n k)
    where
      next : length (first (suc n)) ≡ length (first n) + length (f n)
      next = ap (λ (m : ℕ). length (first m)) (sym (add-one n)) ∙ ap length (joined_next f n) ∙ length-append (first n) (f n)

      go : (b : Bool) → ltb t n ≡ b → (t < n → length (first t) + length (f t) ≤ length (first n))
          → length (first t) + length (f t) ≤ length (first (suc n))
      go true e ih = let k = ih (ltb-true t n e) in let x = next in omega arith
      go false e ih =
          let k = ltb-false t n e in
          let z : n ≡ t = omega arith in
          subst (λ (m : ℕ). length (first m) + length (f m) ≤ length (first (suc n))) z (let x = next in omega arith)

  pub up_start : (before : List ℕ) (at : ℕ) → at ≤ length before → Put before at (first 0) before at
  unfolding joined_of numbers_below
  up_start before at h = put_none before at h

  module _ (t : ℕ) {before : List ℕ} {at : ℕ} {draft : List ℕ} {end : ℕ} (p : Put before at (joined_of f (numbers_below t)) draft end) where
    pub up_more : {after : List ℕ} {m : ℕ} → Put draft end (f t) after m → Put before at (first (t + 1)) after m
    up_more {after} {m} q = subst (λ (l : List ℕ). Put before at l after m) (sym (joined_next f t)) (put_join p q)

    pub up_stop : (n : ℕ) → input_limit < end + length (f t) → t < n → input_limit < at + length (first n)
    up_stop n h k = let o = up_over t n k in let e = p.next_is in omega arith

    module _ (bytes after : List ℕ) (r : Result ℕ TooLarge) (same : bytes ≡ f t) (g : Puts draft end bytes after r) where
      pub step_stop : r ≡ Err (record {}) → (n : ℕ) → t < n → input_limit < at + length (first n)
      step_stop e n h =
          up_stop n (subst (λ (l : List ℕ). input_limit < end + length l) same (subst (λ (x : Result ℕ TooLarge). Puts draft end bytes after x) e g)) h

      pub step_more : {m : ℕ} → r ≡ Ok m → Put before at (first (t + 1)) after m × (m ≤ input_limit)
      step_more {m} e =
          let x = subst (λ (x : Result ℕ TooLarge). Puts draft end bytes after x) e g in
          (up_more (subst (λ (l : List ℕ). Put draft end l after m) same x.0), x.1)

pub rule_puts : (before after : List ℕ) (at tag : ℕ) (value : List ℕ) (rule : Rule) (r : Result ℕ TooLarge) → tag ≡ rule_tag rule.text
    → value ≡ rule_bytes rule → content_too_large large rule.content ≡ false → Puts before at (field_bytes tag value) after r
    → RulePuts before at rule after r
unfolding rule_field
rule_puts before after at tag value rule (Ok n) t e f p =
    (subst (λ (v : List ℕ). Put before at v after n) (ap₂ field_bytes t e) p.0, p.1, f)
rule_puts before after at tag value rule (Err over) t e f p =
    inr (subst (λ (v : List ℕ). input_limit < at + length v) (ap₂ field_bytes t e) p)

-- one rule more
module _ (rule : ℕ → Rule) (t : ℕ) {before : List ℕ} {at : ℕ} {draft : List ℕ} {end : ℕ}
    (p : Put before at (joined_of (numbered_field rule) (numbers_below t)) draft end) (after : List ℕ) (r : Result ℕ TooLarge) (g : RulePuts draft end (rule t) after r) where
  pub rules_stop : r ≡ Err (record {}) → (n : ℕ) → t < n → RulesPut before at rule n after (Err (record {}))
  rules_stop e n h =
      ⊎_elim (λ x. inl (t, h, x)) (λ x. inr (up_stop (numbered_field rule) t p n x h)) (subst (λ (x : Result ℕ TooLarge). RulePuts draft end (rule t) after x) e g)

  pub rules_more : {m : ℕ} → r ≡ Ok m
      → Put before at (joined_of (numbered_field rule) (numbers_below (t + 1))) after m × (m ≤ input_limit) × (content_too_large large (rule t).content ≡ false)
  rules_more {m} e =
      let x = subst (λ (x : Result ℕ TooLarge). RulePuts draft end (rule t) after x) e g in
      (up_more (numbered_field rule) t p x.0, x.1, x.2)

-- one part of a table after another
module _ (before : List ℕ) (at : ℕ) (rule : ℕ → Rule) (count : ℕ) (xs ys mid after : List ℕ) (r : Result ℕ TooLarge) where
  pub put_over : Puts before at xs mid r → r ≡ Err (record {}) → TablePut before at rule count (xs ++ ys) after (Err (record {}))
  put_over p e =
      let h = subst (λ (x : Result ℕ TooLarge). Puts before at xs mid x) e p in
      let l = length-append xs ys in
      inr (omega arith)

  pub put_length_is : Puts before at xs mid r → {n : ℕ} → r ≡ Ok n → Put before at xs mid n × (n ≤ input_limit)
  put_length_is p e = subst (λ (x : Result ℕ TooLarge). Puts before at xs mid x) e p

  pub put_then : Puts before at xs mid r → {n : ℕ} → r ≡ Ok n → (z : Result ℕ TooLarge) → TablePut mid n rule count ys after z
      → TablePut before at rule count (xs ++ ys) after z
  put_then p {n} e (Ok m) q =
      let h = subst (λ (x : Result ℕ TooLarge). Puts before at xs mid x) e p in
      (put_join h.0 q.0, q.1, q.2)
  put_then p {n} e (Err over) q =
      let h = subst (λ (x : Result ℕ TooLarge). Puts before at xs mid x) e p in
      let a = h.0.next_is in
      let l = length-append xs ys in
      ⊎_elim inl (λ o. inr (omega arith)) q

  pub table_over : TablePut before at rule count xs mid r → r ≡ Err (record {}) → TablePut before at rule count (xs ++ ys) after (Err (record {}))
  table_over p e =
      let l = length-append xs ys in
      ⊎_elim inl (λ o. inr (omega arith)) (subst (λ (x : Result ℕ TooLarge). TablePut before at rule count xs mid x) e p)

  pub table_length_is : TablePut before at rule count xs mid r → {n : ℕ} → r ≡ Ok n
      → Put before at xs mid n × (n ≤ input_limit) × ((t : ℕ) → t < count → content_too_large large (rule t).content ≡ false)
  table_length_is p e = subst (λ (x : Result ℕ TooLarge). TablePut before at rule count xs mid x) e p

  pub table_then : TablePut before at rule count xs mid r → {n : ℕ} → r ≡ Ok n → (z : Result ℕ TooLarge) → Puts mid n ys after z
      → TablePut before at rule count (xs ++ ys) after z
  table_then p {n} e (Ok m) q =
      let h = subst (λ (x : Result ℕ TooLarge). TablePut before at rule count xs mid x) e p in
      (put_join h.0 q.0, q.1, h.2)
  table_then p {n} e (Err over) q =
      let h = subst (λ (x : Result ℕ TooLarge). TablePut before at rule count xs mid x) e p in
      let a = h.0.next_is in
      let l = length-append xs ys in
      inr (omega arith)
