-- The tests of kind, by the numbers of the rules in an index of the table.
--
--   types_below : a table that is held has few starts and rules, of types below 128
--   content_order, content_within : the places of a rule's content
--   local_at : is_local g is that no rule has the label of an earlier one
--   pairs_at : the pairs of type and label are distinct where no rule has the pair of an earlier one
--   none_compete_at : for a set that has just these types, none_compete g is that no two rules are rivals whose types are in the set
--   all_rules, one_rule : every rule passes a test where that of each number does
--   pairs_repeated, starts_compete, then_contents : the three tests of is_single_type one after the other
use Rattle.reader.specs.declared.index.TableIndex.{TableIndex}
use Prim.Native.Nat.{ℕ, ◌<◌, ◌≤◌}
use native.Mathlib.Omega.{arith}
use mathlib.Core.Bool.{Bool, true, false, not, ◌&&◌}
use mathlib.Core.List.{List, Memᴰ}
use mathlib.Core.Logic.{⊎_elim}
use mathlib.Core.Option.{some as just}
use mathlib.Core.Path.{◌≡◌, sym, ◌∙◌, ap, ap₂}
use lib.Dec.{eqb, ltb}
use lib.ListN.{length, get_elem?}
use borrow.Author.Tests.{eqb-true, eqb-false, eq-eqb, ne_eqb, ltb-true, ltb-false, not-true}
use Rattle.grammar.specs.Limits.{large}
use Rattle.grammar.specs.Lists.{all_pass, all_distinct, is_in}
use Rattle.grammar.specs.Content.{types_in}
use Rattle.grammar.specs.Table.{Rule, Table}
use Rattle.grammar.specs.Kinds.{NoneCompete}
use Rattle.grammar.specs.KindTests.{same_label, same_pair, is_local, none_compete, is_single_type}
use Rattle.theory.proofs.Lists.BoolLaws.{and_left, and_right, and_intro, false_of, not_both, passes_or_fails, same_test}
use Rattle.theory.proofs.Lists.ListLaws.{differ_at, all_differ, mem_at, at_mem, at_below, below_at, in_mem, mem_in, all_of, all_at}
use Rattle.theory.proofs.Tables.KindTests.{none_compete_lem, same_label_sym, same_pair_sym}
use Rattle.sets.specs.Sets.{member}
use Rattle.reader.specs.TableIndex.{rule_type, rule_label, content_from, content_to, rule_count, Indexes}
use Rattle.reader.specs.Held.{SomeHeld}
use Rattle.reader.proofs.TableIndexLaws.{rule_at}
use Rattle.reader.proofs.TableFoundLaws.{start_small, rule_found_at}
use Rattle.kinds.specs.RulesAt.{any_below, same_label_at, same_pair_at, rivals_at, Holds, TypesBelow}
use Rattle.kinds.proofs.BelowLaws.{one_below, below_found}

pub types_below : {s : List ℕ} {index : TableIndex} → SomeHeld large s index → TypesBelow index
types_below f =
    let x = f.held.indexes in
    record {
      few_starts = x.few_starts;
      few_rules = x.few_rules;
      start = start_small x f.held.within;
      rule = λ i h. (rule_found_at x f.held.within i h).type_below;
    }

-- the content of each rule stands within the bytes
module _ {s : List ℕ} {index : TableIndex} (x : SomeHeld large s index) (i : ℕ) (h : i < rule_count index) where
  pub content_order : content_from index i ≤ content_to index i
  content_order = (rule_at x.held.indexes i h).2.content.inside.order

  pub content_within : content_to index i ≤ length s
  content_within = (rule_at x.held.indexes i h).2.content.inside.within

not_of : {a : Bool} → a ≡ false → not a ≡ true
not_of e = ap not e

-- elements are distinct where none is the same as an earlier one
module _ {A : Type 0} (same : A → A → Bool) (same_sym : (x y : A) → same x y ≡ true → same y x ≡ true) (xs : List A) (same_at : ℕ → ℕ → Bool)
    (agree : (i j : ℕ) (x y : A) → get_elem? xs i ≡ just x → get_elem? xs j ≡ just y → same_at i j ≡ same x y) where
  abbrev earlier : ℕ → Bool
  earlier i = any_below (same_at i) i

  distinct_at : all_distinct same xs ≡ not (any_below earlier (length xs))
  distinct_at =
      same_test
      (all_distinct same xs)
      (not (any_below earlier (length xs))) (
        λ d. not_of (false_of (any_below earlier (length xs)) (twice d)),
        λ e. all_differ same xs (once (not-true (any_below earlier (length xs)) e)),
      )
    where
      twice : all_distinct same xs ≡ true → any_below earlier (length xs) ≡ true → ⊥
      twice d e =
          let (i, below, f) = below_found earlier (length xs) e in
          let (j, before, same_there) = below_found (same_at i) i f in
          let (x, at_i) = below_at xs i below in
          let (y, at_j) = below_at xs j (omega arith) in
          let q = differ_at same same_sym xs i j x y d at_i at_j (sym (agree i j x y at_i at_j) ∙ same_there) in
          omega arith

      never : any_below earlier (length xs) ≡ false → (i j : ℕ) (x y : A) → get_elem? xs i ≡ just x → get_elem? xs j ≡ just y
          → same x y ≡ true → j < i → ⊥
      never e i j x y p q s h =
          let b = at_below xs i p in
          not_both (one_below earlier (length xs) i b (one_below (same_at i) i j h (agree i j x y p q ∙ s))) e

      once : any_below earlier (length xs) ≡ false → (i j : ℕ) (x y : A) → get_elem? xs i ≡ just x → get_elem? xs j ≡ just y
          → same x y ≡ true → i ≡ j
      once e i j x y p q s =
          ⊎_elim
          (λ t. absurd (never e i j x y p q s (ltb-true j i t)))
          (λ t.
          ⊎_elim
          (λ u. absurd (never e j i y x q p (same_sym x y s) (ltb-true i j u)))
          (λ u. let a = ltb-false j i t in let b = ltb-false i j u in omega arith)
          (passes_or_fails (ltb i j)))
          (passes_or_fails (ltb j i))

module _ {s : List ℕ} {index : TableIndex} {g : Table} (x : Indexes s index g) where
  counted : (test : ℕ → Bool) → any_below test (length g.rules) ≡ any_below test (rule_count index)
  counted test = ap (any_below test) (sym x.rules)

  pub local_at : is_local g ≡ not (any_below (λ i. any_below (same_label_at index i) i) (rule_count index))
  unfolding is_local same_label
  local_at =
      distinct_at same_label same_label_sym g.rules (same_label_at index) agree ∙ ap not (counted (λ i. any_below (same_label_at index i) i))
    where
      agree : (i j : ℕ) (r q : Rule) → get_elem? g.rules i ≡ just r → get_elem? g.rules j ≡ just q
          → same_label_at index i j ≡ same_label r q
      agree i j r q a b = ap₂ eqb (x.rule i r a).label (x.rule j q b).label

  pub pairs_at : all_distinct same_pair g.rules ≡ not (any_below (λ i. any_below (same_pair_at index i) i) (rule_count index))
  unfolding same_pair
  pairs_at =
      distinct_at same_pair same_pair_sym g.rules (same_pair_at index) agree ∙ ap not (counted (λ i. any_below (same_pair_at index i) i))
    where
      agree : (i j : ℕ) (r q : Rule) → get_elem? g.rules i ≡ just r → get_elem? g.rules j ≡ just q
          → same_pair_at index i j ≡ same_pair r q
      agree i j r q a b =
          ap₂
          ◌&&◌
          (ap₂ eqb (x.rule i r a).type (x.rule j q b).type)
          (ap₂ eqb (x.rule i r a).label (x.rule j q b).label)

  module _ (words types : List ℕ) (holds : Holds words types) where
    abbrev rivalled : ℕ → Bool
    rivalled i = any_below (rivals_at index words i) (rule_count index)

    stands : (k l : ℕ) → k ≡ l → Memᴰ l types → member words 0 k ≡ true
    stands k l e m = holds k ∙ ap (λ (n : ℕ). is_in n types) e ∙ mem_in m

    -- two rules that are rivals in the set are of types that compete
    compete_of : NoneCompete g types → any_below rivalled (rule_count index) ≡ true → ⊥
    compete_of none e =
        let (i, i_below, f) = below_found rivalled (rule_count index) e in
        let (j, j_below, t) = below_found (rivals_at index words i) (rule_count index) f in
        let (r, at_i, r_at) = rule_at x i i_below in
        let (q, at_j, q_at) = rule_at x j j_below in
        let k = rule_type index i in
        let l = rule_type index j in
        let there = member words 0 l in
        let labels = eqb (rule_label index i) (rule_label index j) in
        let both = and_right (member words 0 k) (not (eqb k l) && (labels && there)) t in
        let last = and_right (not (eqb k l)) (labels && there) both in
        let one = eqb-true (rule_label index i) (rule_label index j) (and_left labels there last) in
        let same =
        none
        k
        l
        (in_mem k types (sym (holds k) ∙ and_left (member words 0 k) (not (eqb k l) && (labels && there)) t))
        (in_mem l types (sym (holds l) ∙ and_right labels there last))
        (record {
          rule₁ = r;
          rule₂ = q;
          of_table₁ = at_mem g.rules i at_i;
          of_table₂ = at_mem g.rules j at_j;
          of_type₁ = sym r_at.type;
          of_type₂ = sym q_at.type;
          one_label = sym r_at.label ∙ one ∙ q_at.label;
        }) in
        eqb-false k l (not-true (eqb k l) (and_left (not (eqb k l)) (labels && there) both)) same

    -- types that compete have rules that are rivals in the set
    rivals_of : any_below rivalled (rule_count index) ≡ false → NoneCompete g types
    rivals_of e k l m n c =
        ⊎_elim (λ q. eqb-true k l q) (λ q. absurd (go (eqb-false k l q))) (passes_or_fails (eqb k l))
      where
        go : (k ≡ l → ⊥) → ⊥
        go differ =
            let (i, at_i) = mem_at c.of_table₁ in
            let (j, at_j) = mem_at c.of_table₂ in
            let r_at = x.rule i c.rule₁ at_i in
            let q_at = x.rule j c.rule₂ at_j in
            let k_is = r_at.type ∙ c.of_type₁ in
            let l_is = q_at.type ∙ c.of_type₂ in
            let i_below : i < rule_count index = omega (arith, at_below g.rules i at_i, x.rules) in
            let j_below : j < rule_count index = omega (arith, at_below g.rules j at_j, x.rules) in
            let apart = ne_eqb (rule_type index i) (rule_type index j) (λ q. differ (sym k_is ∙ q ∙ l_is)) in
            let one =
            eq-eqb (rule_label index i) (rule_label index j) (r_at.label ∙ c.one_label ∙ sym q_at.label) in
            let t =
            and_intro _ _
            (stands (rule_type index i) k k_is m)
            (and_intro _ _ (not_of apart) (and_intro _ _ one (stands (rule_type index j) l l_is n))) in
            not_both (one_below rivalled (rule_count index) i i_below (one_below (rivals_at index words i) (rule_count index) j j_below t)) e

    pub none_compete_at : none_compete g types ≡ not (any_below (λ i. any_below (rivals_at index words i) (rule_count index)) (rule_count index))
    none_compete_at =
        same_test (none_compete g types) (not (any_below rivalled (rule_count index))) (
          λ e. not_of (false_of (any_below rivalled (rule_count index)) (compete_of ((none_compete_lem g types).0 e))),
          λ e. (none_compete_lem g types).1 (rivals_of (not-true (any_below rivalled (rule_count index)) e)),
        )

  -- every content
  module _ (test : Rule → Bool) where
    pub all_rules : ((i : ℕ) (r : Rule) → i < rule_count index → get_elem? g.rules i ≡ just r → test r ≡ true)
        → all_pass test g.rules ≡ true
    all_rules h =
        all_of test g.rules (λ r m. let (i, at_i) = mem_at m in h i r (omega (arith, at_below g.rules i at_i, x.rules)) at_i)

    pub one_rule : (i : ℕ) (r : Rule) → get_elem? g.rules i ≡ just r → test r ≡ false → all_pass test g.rules ≡ false
    one_rule i r at_i e = false_of (all_pass test g.rules) (λ t. not_both (all_at test t (at_mem g.rules i at_i)) e)

-- the three tests of a single-type table
module _ (g : Table) (pairs : Bool) (p : pairs ≡ all_distinct same_pair g.rules) where
  pub pairs_repeated : pairs ≡ false → is_single_type g ≡ false
  unfolding is_single_type
  pairs_repeated e =
      ap
      (λ (b : Bool). (b && none_compete g g.starts) && all_pass (λ (r : Rule). none_compete g (types_in r.content)) g.rules)
      (sym p ∙ e)

  module _ (starts : Bool) (q : starts ≡ none_compete g g.starts) where
    pub starts_compete : pairs ≡ true → starts ≡ false → is_single_type g ≡ false
    unfolding is_single_type
    starts_compete d e =
        ap₂ (λ (a b : Bool). (a && b) && all_pass (λ (r : Rule). none_compete g (types_in r.content)) g.rules) (sym p ∙ d) (sym q ∙ e)

    pub then_contents : pairs ≡ true → starts ≡ true
        → is_single_type g ≡ all_pass (λ (r : Rule). none_compete g (types_in r.content)) g.rules
    unfolding is_single_type
    then_contents d e =
        ap₂ (λ (a b : Bool). (a && b) && all_pass (λ (r : Rule). none_compete g (types_in r.content)) g.rules) (sym p ∙ d) (sym q ∙ e)
