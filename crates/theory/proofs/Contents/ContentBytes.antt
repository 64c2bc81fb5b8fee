-- Reading the bytes of a content gives the content back, and what is read was written so:
--   expression_of_lem : expression_of (content_bytes c ++ rest) ≡ just (c, rest)
--   expression_was : expression_of bytes ≡ just (c, rest) → bytes ≡ content_bytes c ++ rest
-- So no content's bytes begin another's, and byte-equal contents are equal:
--   prefix_free : content_bytes c ++ r ≡ content_bytes d ++ s → (c ≡ d) × (r ≡ s)
--   same_content_lem : (same_content c d ≡ true) ↔ (c ≡ d)
-- `expression_step`, `operands_next` and the equations beside them say what `expression_of` and `operands_of` are, operator by operator,
-- with no bound on the walk.
use Prim.Native.Nat.{ℕ, zero, suc, ◌≤◌, ◌<◌}
use native.Mathlib.Omega.{arith}
use mathlib.Core.Bool.{true}
use mathlib.Core.List.{List, [], ◌∷◌, ◌++◌, append_assoc}
use mathlib.Core.Logic.{◌↔◌}
use mathlib.Core.Option.{Option, none as nothing, some as just}
use mathlib.Core.Path.{◌≡◌, refl, sym, ◌∙◌, ap, ap₂}
use lib.ListN.{length, length-append, get_elem?}
use Rattle.grammar.specs.Content.{
  Content,
  none,
  empty,
  type,
  sequence,
  choice,
  any_number,
  one_or_more,
  optional,
  Contents,
  []ᶜ,
  ◌∷ᶜ◌,
  operand_count,
}
use Rattle.grammar.specs.ReadContent.{
  content_bytes,
  operand_bytes,
  same_content,
  Operator,
  alone,
  numbered,
  counted,
  single,
  operators,
  Parsed,
  found,
  expression_within,
  operands_within,
  expression_of,
}
use Rattle.theory.proofs.Lists.ListLaws.{just_eq, same_numbers_lem, same_numbers_refl}

-- how a content of the operator with number b is written
abbrev Writes : ℕ → Operator → Type 0
Writes b (alone c) = content_bytes c ≡ b ∷ []
Writes b (numbered f) = (k : ℕ) → content_bytes (f k) ≡ b ∷ k ∷ []
Writes b (counted f) = (cs : Contents) → content_bytes (f cs) ≡ b ∷ operand_count cs ∷ operand_bytes cs
Writes b (single f) = (c : Content) → content_bytes (f c) ≡ b ∷ content_bytes c

operator_writes : (b : ℕ) (o : Operator) → get_elem? operators b ≡ just o → Writes b o
unfolding operators content_bytes
operator_writes zero o e = rw (just_eq e) refl
operator_writes (suc zero) o e = rw (just_eq e) refl
operator_writes (suc (suc zero)) o e = rw (just_eq e) (λ k. refl)
operator_writes (suc (suc (suc zero))) o e = rw (just_eq e) (λ cs. refl)
operator_writes (suc (suc (suc (suc zero)))) o e = rw (just_eq e) (λ cs. refl)
operator_writes (suc (suc (suc (suc (suc zero))))) o e = rw (just_eq e) (λ c. refl)
operator_writes (suc (suc (suc (suc (suc (suc zero)))))) o e = rw (just_eq e) (λ c. refl)
operator_writes (suc (suc (suc (suc (suc (suc (suc zero))))))) o e = rw (just_eq e) (λ c. refl)
operator_writes (suc (suc (suc (suc (suc (suc (suc (suc b)))))))) o e = let z : ◌≡◌ {A = ℕ} 0 1 = cc in absurd (omega arith)

-- what is read after an operator's byte, given how one expression and how so many are read
abbrev pub after_operator : (List ℕ → Parsed Content) → (ℕ → List ℕ → Parsed Contents) → Option Operator → List ℕ → Parsed Content
after_operator one many nothing rest = nothing
after_operator one many (just (alone c)) rest = just (c, rest)
after_operator one many (just (numbered f)) [] = nothing
after_operator one many (just (numbered f)) (k ∷ after) = just (f k, after)
after_operator one many (just (counted f)) [] = nothing
after_operator one many (just (counted f)) (k ∷ after) = found f (many k after)
after_operator one many (just (single f)) rest = found f (one rest)

-- the same for the expressions after a first one
abbrev pub after_first : (ℕ → List ℕ → Parsed Contents) → ℕ → Parsed Content → Parsed Contents
after_first many k nothing = nothing
after_first many k (just p) = found (λ cs. p.0 ∷ᶜ cs) (many k p.1)

within_step : (n b : ℕ) (rest : List ℕ)
    → expression_within (suc n) (b ∷ rest) ≡ after_operator (expression_within n) (operands_within n) (get_elem? operators b) rest
unfolding expression_within
within_step n b rest = go (get_elem? operators b) refl rest
  where
    go : (o : Option Operator) → get_elem? operators b ≡ o → (s : List ℕ)
        → expression_within (suc n) (b ∷ s) ≡ after_operator (expression_within n) (operands_within n) (get_elem? operators b) s
    go nothing e s = rw (e, expression_within)
    go (just (alone c)) e s = rw (e, expression_within)
    go (just (numbered f)) e [] = rw (e, expression_within)
    go (just (numbered f)) e (k ∷ after) = rw (e, expression_within)
    go (just (counted f)) e [] = rw (e, expression_within)
    go (just (counted f)) e (k ∷ after) = rw (e, expression_within)
    go (just (single f)) e s = rw (e, expression_within)

within_next : (n k : ℕ) (s : List ℕ) → operands_within (suc n) (suc k) s ≡ after_first (operands_within n) k (expression_within n s)
unfolding expression_within
within_next n k s = go (expression_within n s) refl
  where
    go : (p : Parsed Content) → expression_within n s ≡ p
        → operands_within (suc n) (suc k) s ≡ after_first (operands_within n) k (expression_within n s)
    go nothing e = rw (e, operands_within)
    go (just p) e = rw (e, operands_within)

-- one thing found is another: both are equal, and so are the bytes after them
pub same_found : {A : Type 0} {a b : A} {r s : List ℕ} → ◌≡◌ {A = Parsed A} (just (a, r)) (just (b, s)) → (a ≡ b) × (r ≡ s)
same_found {A} e =
    let q = just_eq e in
    (ap (λ (p : A × List ℕ). p.0) (sym q), ap (λ (p : A × List ℕ). p.1) (sym q))

-- what was found was found in the operand
found_from : {A B : Type 0} (f : A → B) (p : Parsed A) (b : B) (rest : List ℕ) → found f p ≡ just (b, rest)
    → (a : A) × (p ≡ just (a, rest)) × (f a ≡ b)
found_from f nothing b rest e = let z : ◌≡◌ {A = ℕ} 0 1 = cc in absurd (omega arith)
found_from f (just p) b rest e =
    let q = same_found e in
    (p.0, rw (← q.1), q.0)

-- a reader of one expression, and one of so many, that finds only what was written
abbrev ReadsOne : (List ℕ → Parsed Content) → Type 0
ReadsOne one = (s : List ℕ) (c : Content) (rest : List ℕ) → one s ≡ just (c, rest) → s ≡ content_bytes c ++ rest

abbrev ReadsMany : (ℕ → List ℕ → Parsed Contents) → Type 0
ReadsMany many =
    (k : ℕ) (s : List ℕ) (cs : Contents) (rest : List ℕ) → many k s ≡ just (cs, rest) → (k ≡ operand_count cs) × (s ≡ operand_bytes cs ++ rest)

-- what such readers find after an operator, and after a first expression, was written so too
module _ (one : List ℕ → Parsed Content) (many : ℕ → List ℕ → Parsed Contents) (h : ReadsOne one) (hs : ReadsMany many) where
  after_operator_lem : (b : ℕ) (o : Option Operator) → get_elem? operators b ≡ o
      → (rest : List ℕ) (c : Content) (left : List ℕ) → after_operator one many o rest ≡ just (c, left)
      → b ∷ rest ≡ content_bytes c ++ left
  after_operator_lem b nothing e rest c left q = let z : ◌≡◌ {A = ℕ} 0 1 = cc in absurd (omega arith)
  after_operator_lem b (just (alone d)) e rest c left q =
      let r = same_found q in
      rw (← r.0, operator_writes b (alone d) e, r.1)
  after_operator_lem b (just (numbered f)) e [] c left q = let z : ◌≡◌ {A = ℕ} 0 1 = cc in absurd (omega arith)
  after_operator_lem b (just (numbered f)) e (k ∷ after) c left q =
      let r = same_found q in
      rw (← r.0, operator_writes b (numbered f) e k, r.1)
  after_operator_lem b (just (counted f)) e [] c left q = let z : ◌≡◌ {A = ℕ} 0 1 = cc in absurd (omega arith)
  after_operator_lem b (just (counted f)) e (k ∷ after) c left q =
      let r = found_from f (many k after) c left q in
      let w = operator_writes b (counted f) e r.0 in
      let v = hs k after r.0 left r.1 in
      rw (← r.2, w) (ap₂ (λ (m : ℕ) (l : List ℕ). b ∷ m ∷ l) v.0 v.1)
  after_operator_lem b (just (single f)) e rest c left q =
      let r = found_from f (one rest) c left q in
      let w = operator_writes b (single f) e r.0 in
      let v = h rest r.0 left r.1 in
      rw (← r.2, w) (ap (λ (l : List ℕ). b ∷ l) v)

  after_first_lem : (k : ℕ) (s : List ℕ) (p : Parsed Content) → one s ≡ p
      → (cs : Contents) (rest : List ℕ) → after_first many k p ≡ just (cs, rest) → (suc k ≡ operand_count cs) × (s ≡ operand_bytes cs ++ rest)
  unfolding content_bytes
  after_first_lem k s nothing e cs rest q = let z : ◌≡◌ {A = ℕ} 0 1 = cc in absurd (omega arith)
  after_first_lem k s (just p) e cs rest q =
      let r = found_from (λ ds. p.0 ∷ᶜ ds) (many k p.1) cs rest q in
      let v = hs k p.1 r.0 rest r.1 in
      let after = ap (λ (l : List ℕ). content_bytes p.0 ++ l) v.1 in
      let whole = h s p.0 p.1 e ∙ after ∙ sym (append_assoc (content_bytes p.0) (operand_bytes r.0) rest) in
      rw (← r.2) (ap suc v.0, whole)

mutual
  unfolding expression_within content_bytes

  pub within_was : (n : ℕ) → ReadsOne (expression_within n)
  within_was zero s c rest e = let z : ◌≡◌ {A = ℕ} 0 1 = cc in absurd (omega arith)
  within_was (suc n) [] c rest e = let z : ◌≡◌ {A = ℕ} 0 1 = cc in absurd (omega arith)
  within_was (suc n) (b ∷ s) c rest e =
      let one : ReadsOne (expression_within n) = λ s' c' r q. within_was n s' c' r q in
      let many : ReadsMany (operands_within n) = λ k' s' cs' r q. within_were n k' s' cs' r q in
      after_operator_lem
      (expression_within n)
      (operands_within n)
      one
      many
      b
      (get_elem? operators b)
      refl
      s
      c
      rest
      (sym (within_step n b s) ∙ e)

  pub within_were : (n : ℕ) → ReadsMany (operands_within n)
  within_were zero k s cs rest e = let z : ◌≡◌ {A = ℕ} 0 1 = cc in absurd (omega arith)
  within_were (suc n) zero s cs rest e =
      let q = same_found e in
      rw (← q.0) (refl, q.1)
  within_were (suc n) (suc k) s cs rest e =
      let one : ReadsOne (expression_within n) = λ s' c' r q. within_was n s' c' r q in
      let many : ReadsMany (operands_within n) = λ k' s' cs' r q. within_were n k' s' cs' r q in
      after_first_lem
      (expression_within n)
      (operands_within n)
      one
      many
      k
      s
      (expression_within n s)
      refl
      cs
      rest
      (sym (within_next n k s) ∙ e)

-- a content has at least one byte
pub content_has_bytes : (c : Content) → 1 ≤ length (content_bytes c)
unfolding content_bytes
content_has_bytes none = omega arith
content_has_bytes empty = omega arith
content_has_bytes (type k) = omega arith
content_has_bytes (sequence cs) = omega arith
content_has_bytes (choice cs) = omega arith
content_has_bytes (any_number c) = omega arith
content_has_bytes (one_or_more c) = omega arith
content_has_bytes (optional c) = omega arith

-- an expression takes at least one byte
shorter : (n : ℕ) (s : List ℕ) (c : Content) (rest : List ℕ) → expression_within n s ≡ just (c, rest) → length rest < length s
shorter n s c rest e =
    let h = ap length (within_was n s c rest e) ∙ length-append (content_bytes c) rest in
    let k = content_has_bytes c in
    omega arith

-- readers that read alike what is shorter read alike after an operator, and after a first expression
module _ (one one' : List ℕ → Parsed Content) (many many' : ℕ → List ℕ → Parsed Contents) where
  same_after : (o : Option Operator) (rest : List ℕ) → one rest ≡ one' rest
      → ((k : ℕ) (after : List ℕ) → length after < length rest → many k after ≡ many' k after)
      → after_operator one many o rest ≡ after_operator one' many' o rest
  same_after nothing rest h hs = refl
  same_after (just (alone c)) rest h hs = refl
  same_after (just (numbered f)) [] h hs = refl
  same_after (just (numbered f)) (k ∷ after) h hs = refl
  same_after (just (counted f)) [] h hs = refl
  same_after (just (counted f)) (k ∷ after) h hs = ap (found f) (hs k after (omega arith))
  same_after (just (single f)) rest h hs = ap (found f) h

same_rest : (many many' : ℕ → List ℕ → Parsed Contents) (k n : ℕ) (s : List ℕ) (p : Parsed Content) → expression_within n s ≡ p
    → ((rest : List ℕ) → length rest < length s → many k rest ≡ many' k rest) → after_first many k p ≡ after_first many' k p
same_rest many many' k n s nothing e hs = refl
same_rest many many' k n s (just p) e hs = ap (found (λ cs. p.0 ∷ᶜ cs)) (hs p.1 (shorter n s p.0 p.1 e))

-- The bound on the walk does not matter once there is a step for each byte, and one more for a row of expressions.
mutual
  unfolding expression_within

  pub enough : (n m : ℕ) (s : List ℕ) → length s ≤ n → length s ≤ m → expression_within n s ≡ expression_within m s
  enough zero zero s p q = refl
  enough zero (suc m) [] p q = refl
  enough zero (suc m) (b ∷ s) p q = absurd (omega arith)
  enough (suc n) zero [] p q = refl
  enough (suc n) zero (b ∷ s) p q = absurd (omega arith)
  enough (suc n) (suc m) [] p q = refl
  enough (suc n) (suc m) (b ∷ s) p q =
      within_step n b s
      ∙ same_after
      (expression_within n)
      (expression_within m)
      (operands_within n)
      (operands_within m)
      (get_elem? operators b)
      s
      (enough n m s (omega arith) (omega arith))
      (λ k after h. enough_many n m k after (omega arith) (omega arith))
      ∙ sym (within_step m b s)

  pub enough_many : (n m k : ℕ) (s : List ℕ) → length s < n → length s < m → operands_within n k s ≡ operands_within m k s
  enough_many zero m k s p q = absurd (omega arith)
  enough_many (suc n) zero k s p q = absurd (omega arith)
  enough_many (suc n) (suc m) zero s p q = refl
  enough_many (suc n) (suc m) (suc k) s p q =
      within_next n k s
      ∙ ap (after_first (operands_within n) k) (enough n m s (omega arith) (omega arith))
      ∙ same_rest
      (operands_within n)
      (operands_within m)
      k
      m
      s
      (expression_within m s)
      refl
      (λ rest h. enough_many n m k rest (omega arith) (omega arith))
      ∙ sym (within_next m k s)

-- So the bound goes, here and in all that stands on this file.
unfoldable pub operands_of : ℕ → List ℕ → Parsed Contents
unfolding expression_within
operands_of k bytes = operands_within (suc (length bytes)) k bytes

pub expression_within_lem : (n : ℕ) (bytes : List ℕ) → length bytes ≤ n → expression_within n bytes ≡ expression_of bytes
unfolding expression_of
expression_within_lem n bytes h = enough n (length bytes) bytes h (omega arith)

pub operands_within_lem : (n k : ℕ) (bytes : List ℕ) → length bytes < n → operands_within n k bytes ≡ operands_of k bytes
unfolding operands_of
operands_within_lem n k bytes h = enough_many n (suc (length bytes)) k bytes h (omega arith)

-- no bytes, no expression
pub expression_empty : expression_of [] ≡ nothing
unfolding expression_of
expression_empty = refl

pub expression_step : (b : ℕ) (rest : List ℕ)
    → expression_of (b ∷ rest) ≡ after_operator expression_of operands_of (get_elem? operators b) rest
expression_step b rest =
    sym (expression_within_lem (suc (length rest)) (b ∷ rest) (omega arith))
    ∙ within_step (length rest) b rest
    ∙ same_after
    (expression_within (length rest))
    expression_of
    (operands_within (length rest))
    operands_of
    (get_elem? operators b)
    rest
    (expression_within_lem (length rest) rest (omega arith))
    (λ k after h. operands_within_lem (length rest) k after h)

-- there are eight operators
pub unknown_operator : (b : ℕ) → 8 ≤ b → get_elem? operators b ≡ nothing
unfolding operators
unknown_operator zero h = absurd (omega arith)
unknown_operator (suc zero) h = absurd (omega arith)
unknown_operator (suc (suc zero)) h = absurd (omega arith)
unknown_operator (suc (suc (suc zero))) h = absurd (omega arith)
unknown_operator (suc (suc (suc (suc zero)))) h = absurd (omega arith)
unknown_operator (suc (suc (suc (suc (suc zero))))) h = absurd (omega arith)
unknown_operator (suc (suc (suc (suc (suc (suc zero)))))) h = absurd (omega arith)
unknown_operator (suc (suc (suc (suc (suc (suc (suc zero))))))) h = absurd (omega arith)
unknown_operator (suc (suc (suc (suc (suc (suc (suc (suc b)))))))) h = refl

-- operator by operator
module _ (b : ℕ) (rest : List ℕ) where
  pub expression_unknown : get_elem? operators b ≡ nothing → expression_of (b ∷ rest) ≡ nothing
  expression_unknown e = rw (expression_step b rest, e)

  pub expression_alone : (c : Content) → get_elem? operators b ≡ just (alone c) → expression_of (b ∷ rest) ≡ just (c, rest)
  expression_alone c e = rw (expression_step b rest, e)

  pub expression_single : (f : Content → Content) → get_elem? operators b ≡ just (single f)
      → expression_of (b ∷ rest) ≡ found f (expression_of rest)
  expression_single f e = rw (expression_step b rest, e)

  pub expression_numbered : (f : ℕ → Content) (k : ℕ) → get_elem? operators b ≡ just (numbered f)
      → expression_of (b ∷ k ∷ rest) ≡ just (f k, rest)
  expression_numbered f k e = rw (expression_step b (k ∷ rest), e)

  pub expression_counted : (f : Contents → Content) (k : ℕ) → get_elem? operators b ≡ just (counted f)
      → expression_of (b ∷ k ∷ rest) ≡ found f (operands_of k rest)
  expression_counted f k e = rw (expression_step b (k ∷ rest), e)

-- a type number or a count is missing
pub expression_unnumbered : (b : ℕ) (f : ℕ → Content) → get_elem? operators b ≡ just (numbered f) → expression_of (b ∷ []) ≡ nothing
expression_unnumbered b f e = rw (expression_step b [], e)

pub expression_uncounted : (b : ℕ) (f : Contents → Content) → get_elem? operators b ≡ just (counted f) → expression_of (b ∷ []) ≡ nothing
expression_uncounted b f e = rw (expression_step b [], e)

pub operands_none : (bytes : List ℕ) → operands_of zero bytes ≡ just ([]ᶜ, bytes)
unfolding operands_of
operands_none bytes = refl

pub operands_next : (k : ℕ) (bytes : List ℕ) → operands_of (suc k) bytes ≡ after_first operands_of k (expression_of bytes)
operands_next k bytes =
    sym (operands_within_lem (suc (length bytes)) (suc k) bytes (omega arith))
    ∙ within_next (length bytes) k bytes
    ∙ same_rest
    (operands_within (length bytes))
    operands_of
    k
    (length bytes)
    bytes
    (expression_within (length bytes) bytes)
    refl
    (λ rest h. operands_within_lem (length bytes) k rest h)
    ∙ ap (after_first operands_of k) (expression_within_lem (length bytes) bytes (omega arith))

-- what is read was written so
pub expression_was : (bytes : List ℕ) (c : Content) (rest : List ℕ) → expression_of bytes ≡ just (c, rest)
    → bytes ≡ content_bytes c ++ rest
unfolding expression_of
expression_was bytes c rest e = within_was (length bytes) bytes c rest e

pub operands_were : (k : ℕ) (bytes : List ℕ) (cs : Contents) (rest : List ℕ) → operands_of k bytes ≡ just (cs, rest)
    → (k ≡ operand_count cs) × (bytes ≡ operand_bytes cs ++ rest)
unfolding operands_of
operands_were k bytes cs rest e = within_were (suc (length bytes)) k bytes cs rest e

-- what is written is read back
mutual
  unfolding expression_within content_bytes

  pub within_of : (c : Content) (n : ℕ) (rest : List ℕ) → length (content_bytes c) ≤ n
      → expression_within n (content_bytes c ++ rest) ≡ just (c, rest)
  within_of none zero rest h = absurd (omega arith)
  within_of none (suc n) rest h = refl
  within_of empty zero rest h = absurd (omega arith)
  within_of empty (suc n) rest h = refl
  within_of (type k) zero rest h = absurd (omega arith)
  within_of (type k) (suc n) rest h = refl
  within_of (sequence cs) zero rest h = absurd (omega arith)
  within_of (sequence cs) (suc n) rest h = ap (found sequence) (within_of_all cs n rest (omega arith))
  within_of (choice cs) zero rest h = absurd (omega arith)
  within_of (choice cs) (suc n) rest h = ap (found choice) (within_of_all cs n rest (omega arith))
  within_of (any_number c) zero rest h = absurd (omega arith)
  within_of (any_number c) (suc n) rest h = ap (found any_number) (within_of c n rest (omega arith))
  within_of (one_or_more c) zero rest h = absurd (omega arith)
  within_of (one_or_more c) (suc n) rest h = ap (found one_or_more) (within_of c n rest (omega arith))
  within_of (optional c) zero rest h = absurd (omega arith)
  within_of (optional c) (suc n) rest h = ap (found optional) (within_of c n rest (omega arith))

  pub within_of_all : (cs : Contents) (n : ℕ) (rest : List ℕ) → length (operand_bytes cs) < n
      → operands_within n (operand_count cs) (operand_bytes cs ++ rest) ≡ just (cs, rest)
  within_of_all []ᶜ zero rest h = absurd (omega arith)
  within_of_all []ᶜ (suc n) rest h = refl
  within_of_all (c ∷ᶜ cs) zero rest h = absurd (omega arith)
  within_of_all (c ∷ᶜ cs) (suc n) rest h =
      let l = length-append (content_bytes c) (operand_bytes cs) in
      let one = content_has_bytes c in
      ap (operands_within (suc n) (suc (operand_count cs))) (append_assoc (content_bytes c) (operand_bytes cs) rest)
      ∙ within_next n (operand_count cs) (content_bytes c ++ (operand_bytes cs ++ rest))
      ∙ ap (after_first (operands_within n) (operand_count cs)) (within_of c n (operand_bytes cs ++ rest) (omega arith))
      ∙ ap (found (λ ds. c ∷ᶜ ds)) (within_of_all cs n rest (omega arith))

pub expression_of_lem : (c : Content) (rest : List ℕ) → expression_of (content_bytes c ++ rest) ≡ just (c, rest)
unfolding expression_of
expression_of_lem c rest =
    let l = length-append (content_bytes c) rest in
    within_of c (length (content_bytes c ++ rest)) rest (omega arith)

pub operands_of_lem : (cs : Contents) (rest : List ℕ) → operands_of (operand_count cs) (operand_bytes cs ++ rest) ≡ just (cs, rest)
unfolding operands_of
operands_of_lem cs rest =
    let l = length-append (operand_bytes cs) rest in
    within_of_all cs (suc (length (operand_bytes cs ++ rest))) rest (omega arith)

-- no content's bytes begin another's
pub prefix_free : (c d : Content) (r s : List ℕ) → content_bytes c ++ r ≡ content_bytes d ++ s → (c ≡ d) × (r ≡ s)
prefix_free c d r s e = same_found (sym (expression_of_lem c r) ∙ ap expression_of e ∙ expression_of_lem d s)

pub content_bytes_injective : (c d : Content) → content_bytes c ≡ content_bytes d → c ≡ d
content_bytes_injective c d e = (prefix_free c d [] [] (ap (λ (l : List ℕ). l ++ []) e)).0

pub same_content_lem : (c d : Content) → (same_content c d ≡ true) ↔ (c ≡ d)
unfolding same_content
same_content_lem c d = (
  λ e. content_bytes_injective c d (same_numbers_lem (content_bytes c) (content_bytes d) e),
  λ p. rw p (same_numbers_refl (content_bytes d)),
)
