-- Deciding the kinds: a table is local, or single-type, just where the test says so.
--
--   is_local_lem : (g : Table) → (is_local g ≡ true) ↔ Local g
--   is_single_type_lem : (g : Table) → (is_single_type g ≡ true) ↔ SingleType g
use Prim.Native.Nat.{ℕ}
use mathlib.Core.Bool.{Bool, true}
use mathlib.Core.List.{List, Memᴰ}
use mathlib.Core.Logic.{◌↔◌}
use mathlib.Core.Path.{◌≡◌, sym}
use lib.Dec.{eqb}
use Rattle.grammar.specs.Lists.{all_distinct}
use Rattle.grammar.specs.Content.{types_in}
use Rattle.grammar.specs.Table.{Rule, Table}
use Rattle.grammar.specs.Kinds.{NoTwoRules, Local, Competing, NoneCompete, SingleType}
use Rattle.grammar.specs.KindTests.{same_label, same_pair, is_local, compete, none_compete, is_single_type}
use Rattle.theory.proofs.Lists.BoolLaws.{and_decides, unless_decides}
use Rattle.theory.proofs.Lists.ListLaws.{differ_at, all_differ, any_decides, all_decides, eqb_decides}

-- where a symmetric test decides whether two rules are alike: the rules are all distinct just where no two are alike
module _ (same : Rule → Rule → Bool) (Alike : Rule → Rule → Type 0) (same_sym : (r s : Rule) → same r s ≡ true → same s r ≡ true)
    (alike : (r s : Rule) → (same r s ≡ true) ↔ Alike r s) where
  no_two : (g : Table) → (all_distinct same g.rules ≡ true) ↔ NoTwoRules g Alike
  no_two g = (
    λ d i j r s p q e. differ_at same same_sym g.rules i j r s d p q ((alike r s).1 e),
    λ h. all_differ same g.rules (λ i j r s p q e. h i j r s p q ((alike r s).0 e)),
  )

-- rules with one label
pub same_label_lem : (r s : Rule) → (same_label r s ≡ true) ↔ (r.label ≡ s.label)
unfolding same_label
same_label_lem r s = eqb_decides r.label s.label

pub same_label_sym : (r s : Rule) → same_label r s ≡ true → same_label s r ≡ true
same_label_sym r s e = (same_label_lem s r).1 (sym ((same_label_lem r s).0 e))

pub is_local_lem : (g : Table) → (is_local g ≡ true) ↔ Local g
unfolding is_local
is_local_lem g = no_two same_label (λ r s. r.label ≡ s.label) same_label_sym same_label_lem g

-- rules with one type and label
pub same_pair_lem : (r s : Rule) → (same_pair r s ≡ true) ↔ ((r.type ≡ s.type) × (r.label ≡ s.label))
unfolding same_pair
same_pair_lem r s =
    and_decides (eqb r.type s.type) (eqb r.label s.label) (eqb_decides r.type s.type) (eqb_decides r.label s.label)

pub same_pair_sym : (r s : Rule) → same_pair r s ≡ true → same_pair s r ≡ true
same_pair_sym r s e = let p = (same_pair_lem r s).0 e in (same_pair_lem s r).1 (sym p.0, sym p.1)

-- two types have rules with one label
pub competing : (g : Table) (k l : ℕ) → (compete g k l ≡ true) ↔ Competing g k l
unfolding compete
competing g k l = (
  λ e.
      let r = d.0 e in
      let s = r.2.1 in
      record {
        rule₁ = r.0;
        rule₂ = s.0;
        of_table₁ = r.1;
        of_table₂ = s.1;
        of_type₁ = r.2.0;
        of_type₂ = s.2.0;
        one_label = s.2.1;
      },
  λ h. d.1 (h.rule₁, h.of_table₁, (h.of_type₁, (h.rule₂, h.of_table₂, (h.of_type₂, h.one_label)))),
)
  where
    Partner : Rule → Type 0
    Partner r = (s : Rule) × Memᴰ s g.rules × ((s.type ≡ l) × (r.label ≡ s.label))

    d : (compete g k l ≡ true) ↔ ((r : Rule) × Memᴰ r g.rules × ((r.type ≡ k) × Partner r))
    d =
        any_decides
        _
        g.rules
        (λ r.
        and_decides
        _
        _
        (eqb_decides r.type k)
        (any_decides _ g.rules (λ s. and_decides _ _ (eqb_decides s.type l) (same_label_lem r s))))

pub none_compete_lem : (g : Table) (types : List ℕ) → (none_compete g types ≡ true) ↔ NoneCompete g types
unfolding none_compete
none_compete_lem g types = (λ e k l m n. d.0 e k m l n, λ h. d.1 (λ k m l n. h k l m n))
  where
    d : (none_compete g types ≡ true) ↔ ((k : ℕ) → Memᴰ k types → (l : ℕ) → Memᴰ l types → Competing g k l → k ≡ l)
    d =
        all_decides
        _
        types
        (λ k.
        all_decides
        _
        types
        (λ l. unless_decides (eqb k l) (compete g k l) (eqb_decides k l) (competing g k l)))

pub is_single_type_lem : (g : Table) → (is_single_type g ≡ true) ↔ SingleType g
unfolding is_single_type
is_single_type_lem g = (
  λ e.
      let p = d.0 e in
      record { rules = p.0.0; starts = p.0.1; contents = p.1 },
  λ s. d.1 ((s.rules, s.starts), s.contents),
)
  where
    d : (is_single_type g ≡ true)
        ↔ ((NoTwoRules g (λ r s. (r.type ≡ s.type) × (r.label ≡ s.label)) × NoneCompete g g.starts)
        × ((r : Rule) → Memᴰ r g.rules → NoneCompete g (types_in r.content)))
    d =
        and_decides
        _
        _
        (and_decides
        _
        _
        (no_two same_pair (λ r s. (r.type ≡ s.type) × (r.label ≡ s.label)) same_pair_sym same_pair_lem g)
        (none_compete_lem g g.starts))
        (all_decides _ g.rules (λ r. none_compete_lem g (types_in r.content)))
