-- The types of a node, rule by rule. A rule is named as the node exactly if its label is the place of the node's name (`named_by_place`),
-- so what the code asks of a rule is what the table says of it: its label (`asked_named`, `not_asked`), then its text (`takes_plain`,
-- `takes_marked`), then its content (`fits_walked`, `fits_not`). A set that has the types of the first rules has, with the next rule's
-- if it fits, those of one rule more (`types_step`), and those of all rules up to the next one of the label (`types_passed`).
use Rattle.reader.specs.declared.index.TableIndex.{TableIndex}
use Prim.Native.Nat.{ℕ, zero, suc, ◌+◌, ◌-◌, ◌/◌, ◌%◌, ◌^◌, ◌≤◌, ◌<◌}
use native.Mathlib.Omega.{arith}
use native.Mathlib.Nat.{zero-add}
use native.Mathlib.Numerals.{add-one}
use mathlib.Core.Bool.{Bool, true, false, not, ◌&&◌, ◌||◌, and-false, or_comm, or-false}
use mathlib.Core.List.{List, [], ◌∷◌, ◌++◌, map, append-nil, map-append}
use mathlib.Core.Logic.{⊎_elim}
use mathlib.Core.Option.{some as just}
use mathlib.Core.Path.{◌≡◌, refl, sym, ◌∙◌, ap, ap₂, subst, fun_ext}
use lib.Bits.{bit_or}
use lib.Dec.{eqb}
use lib.ListN.{length, get_or, set, get_elem?, take, drop, replicate, length-replicate}
use lib.Seq.{take_all, take-suc, take-set-lt, drop-set-lt, drop-set-add, get_or-set_same, get_or-set_other}
use borrow.Author.Count.{below_more}
use borrow.Author.Tests.{eqb-true, eq-eqb, ne_eqb}
use Rattle.grammar.specs.Lists.{any_pass, keep, is_in, all_distinct, place}
use Rattle.grammar.specs.Limits.{large, content_limit}
use Rattle.grammar.specs.Names.{Name, same_name}
use Rattle.grammar.specs.Table.{Rule, Table}
use Rattle.grammar.specs.Tree.{Head}
use Rattle.grammar.specs.Membership.{is_named, takes_text}
use Rattle.theory.specs.Marked.{run, holds}
use Rattle.theory.proofs.Lists.BoolLaws.{and_intro, same_test, false_of, not_both, passes_or_fails}
use Rattle.theory.proofs.Lists.ListLaws.{
  any_of,
  at_mem,
  at_below,
  at_else,
  below_at,
  differ_at,
  in_append,
  just_eq,
  keep_yes,
  keep_no,
}
use Rattle.theory.proofs.Lists.DistinctLaws.{keep_append}
use Rattle.theory.proofs.Trees.NameLaws.{name_sym, name_trans}
use Rattle.theory.proofs.Lists.PlaceLaws.{place_found, place_most, place_some}
use Rattle.sets.specs.Sets as sets
use Rattle.sets.specs.Sets.{member, put_at, words_at, store_at, add}
use Rattle.sets.proofs.SetLaws.{member_put, member-words, member_zeros, length-words, word_of, words_store, drop_store}
use Rattle.reader.specs.ExprAt.{◌up_to◌, expr_at}
use Rattle.reader.specs.TableIndex.{part, rule_label, content_from, content_to, rule_count, start_type, start_count, Indexes}
use Rattle.reader.specs.Held.{Held}
use Rattle.reader.proofs.LabelSearch.{start_passes, no_start_passes}
use Rattle.reader.proofs.TableFaults.{part_size}
use Rattle.reader.proofs.TableFoundLaws.{RuleFound, rule_found_at, content_in_part}
use Rattle.walks.specs.TypeSets.{set_at}
use Rattle.walks.specs.WalkAt.{run_at, WholeAt, WalkRoom}
use Rattle.kinds.specs.RulesAt.{any_below, TypesBelow}
use Rattle.kinds.proofs.BelowLaws.{one_below, below_found}
use Rattle.labels.specs.Chains.{Keyed, PlaceFrom}
use Rattle.node_types.specs.NodeTypes.{rule_fits, types_for, PutIf}
use Rattle.walks.proofs.WalkLaws.{run_at_lem}

-- where labels differ, a name has just the label at its place
named_by_place : (g : Table) → all_distinct same_name g.labels ≡ true → (l : ℕ) (n : Name) → l < length g.labels
    → is_named g l n ≡ eqb l (place same_name n g.labels)
unfolding is_named
named_by_place g differ l n below =
    let (m, at) = below_at g.labels l below in
    let named : is_named g l n ≡ same_name m n = rw (at, is_named) in
    named
    ∙ same_test (same_name m n) (eqb l (place same_name n g.labels)) (
      λ e.
          let (y, there, same) =
          place_found same_name n g.labels (any_of (same_name n) (at_mem g.labels l at) (name_sym m n e)) in
          eq-eqb l (place same_name n g.labels)
          (differ_at same_name name_sym g.labels l (place same_name n g.labels) m y differ at there (name_trans m n y e same)),
      λ e.
          let p = eqb-true l (place same_name n g.labels) e in
          let (y, there, same) =
          place_found same_name n g.labels (place_some same_name n g.labels (subst (λ (k : ℕ). k < length g.labels) p below)) in
          name_sym n m (subst (λ (z : Name). same_name n z ≡ true)
          (just_eq (sym at ∙ subst (λ (k : ℕ). get_elem? g.labels k ≡ just y) (sym p) there)) same),
    )

-- a rule takes a node without text, and one that holds text if it is for text
pub takes_plain : (r : Rule) (h : Head) → h.text ≡ false → true ≡ takes_text r h
unfolding takes_text
takes_plain r h e = sym (ap (λ (b : Bool). not b || r.text) e)

pub takes_marked : (r : Rule) (h : Head) → h.text ≡ true → r.text ≡ takes_text r h
unfolding takes_text
takes_marked r h e = sym (ap (λ (b : Bool). not b || r.text) e)

-- A rule of a table that is known.
module _ {s : List ℕ} {index : TableIndex} {g : Table} (known : Held large s index g) (i : ℕ) (below : i < rule_count index) where
  abbrev pub known_rule : RuleFound s index g i
  known_rule = rule_found_at known.indexes known.within i below

  rule_stands : expr_at (part s (content_from index i) (content_to index i)) 0
      ≡ just (known_rule.rule.content up_to (content_to index i - content_from index i))
  rule_stands = content_in_part known_rule.rule.content known_rule.at.content

  rule_whole : WholeAt large (part s (content_from index i) (content_to index i))
  rule_whole =
      record {
        proper_at =
            record {
              content = known_rule.rule.content;
              next = content_to index i - content_from index i;
              stands = rule_stands;
              proper = known_rule.within.content.proper;
            };
        whole = sym (part_size s (content_from index i) (content_to index i) known_rule.at.content.inside);
      }

  rule_size : length (part s (content_from index i) (content_to index i)) ≤ content_limit
  unfolding large
  rule_size = let h = known_rule.within.content.size in let e = ap length known_rule.at.content.bytes_are in omega arith

  -- its content, by the places that were read in the index
  module _ {from to : ℕ} (is_from : from ≡ content_from index i) (is_to : to ≡ content_to index i) where
    pub content_there : part s from to ≡ part s (content_from index i) (content_to index i)
    content_there = ap₂ (part s) is_from is_to

    pub content_whole : WholeAt large (part s from to)
    content_whole = subst (WholeAt large) (sym content_there) rule_whole

    pub content_room : {marks words : List ℕ} → content_limit ≤ length marks → 4 ≤ length words → WalkRoom (part s from to) marks words 0
    content_room enough four =
        let size = rule_size in
        let same = ap length content_there in
        record { few = omega arith; mark_each = omega arith; four_words = omega arith }

  rule_named : (n : Name) → is_named g known_rule.rule.label n ≡ eqb (rule_label index i) (place same_name n g.labels)
  rule_named n =
      named_by_place g known.within.labels_differ known_rule.rule.label n known_rule.within.label
      ∙ ap (λ (l : ℕ). eqb l (place same_name n g.labels)) (sym known_rule.at.label)

  -- at a node whose name has this label, the rule is named as the node exactly if it has the label too
  module _ (h : Head) (label : ℕ) (e : label ≡ place same_name h.name g.labels) where
    named_is : is_named g known_rule.rule.label h.name ≡ eqb (rule_label index i) label
    named_is = rule_named h.name ∙ ap (eqb (rule_label index i)) (sym e)

    pub asked_named : rule_label index i ≡ label → is_named g known_rule.rule.label h.name ≡ true
    asked_named so = named_is ∙ eq-eqb (rule_label index i) label so

    not_asked : (tests : List (ℕ → Bool)) → (rule_label index i ≡ label → ⊥) → rule_fits g h tests known_rule.rule ≡ false
    unfolding rule_fits
    not_asked tests other =
        ap (λ (b : Bool). b && takes_text known_rule.rule h && run known_rule.rule.content tests)
        (named_is ∙ ne_eqb (rule_label index i) label other)

  -- a rule that is named as the node and takes its text fits if a walk over its content passes; one that does not take it does not fit
  module _ (r : Rule) (listed : get_elem? g.rules i ≡ just r) (h : Head) (tests : List (ℕ → Bool)) where
    pub fits_walked : takes_text r h ≡ true → is_named g r.label h.name ≡ true
        → run_at (part s (content_from index i) (content_to index i)) tests ≡ rule_fits g h tests r
    unfolding rule_fits
    fits_walked taken named =
        run_at_lem (part s (content_from index i) (content_to index i)) known_rule.rule.content (content_to index i - content_from index i)
        tests rule_stands
        ∙ ap (λ (q : Rule). run q.content tests) (just_eq (sym listed ∙ known_rule.listed))
        ∙ sym (ap (λ (b : Bool). b && run r.content tests)
        (and_intro (is_named g r.label h.name) (takes_text r h) named taken))

    pub fits_not : takes_text r h ≡ false → false ≡ rule_fits g h tests r
    unfolding rule_fits
    fits_not fails =
        sym (ap (λ (b : Bool). b && run r.content tests)
        (ap (λ (b : Bool). is_named g r.label h.name && b) fails ∙ and-false (is_named g r.label h.name)))

-- Labels of a table that is known are few enough to be keys.
module _ {s : List ℕ} {index : TableIndex} {g : Table} (known : Held large s index g) where
  pub rules_keyed : Keyed (rule_label index) (rule_count index)
  rules_keyed =
      let x = known.indexes in
      let few = x.few_rules in
      record {
        few = few;
        small =
            λ i below.
            let rule = known_rule known i below in
            let inside = rule.label_below in
            let few = x.few_labels in
            omega arith;
      }

  pub label_few : (n : Name) {label : ℕ} → label ≡ place same_name n g.labels → label ≤ 128
  label_few n e =
      let most = place_most same_name n g.labels in
      let labels = known.indexes.labels in
      let few = known.indexes.few_labels in
      omega arith

-- flags that are right for the first numbers, and one more
pub flags_more : (flags : List Bool) (i : ℕ) (flag : Bool) (right : ℕ → Bool) → i < length flags
    → ((k : ℕ) → k < i → get_or flags k false ≡ right k) → flag ≡ right i → (k : ℕ) → k < i + 1 → get_or (set flags i flag) k false ≡ right k
flags_more flags i flag right inside so e =
    below_more (λ k. get_or (set flags i flag) k false ≡ right k) i
    (λ k h. get_or-set_other flags i k flag false (λ q. omega arith) ∙ so k h)
    (get_or-set_same flags i flag false inside ∙ e)

-- Rules one after the other.
holds_end : (ks : List ℕ) (k : ℕ) → holds (ks ++ (k ∷ [])) ≡ add k (holds ks)
unfolding is_in
holds_end ks k =
    fun_ext (λ j. in_append j ks (k ∷ []) ∙ ap (λ (b : Bool). any_pass (eqb j) ks || b) (or-false (eqb j k))
    ∙ or_comm (any_pass (eqb j) ks) (eqb j k))

module _ (g : Table) (h : Head) (tests : List (ℕ → Bool)) where
  pub types_none : holds (types_for g h tests (take 0 g.rules)) ≡ sets.nothing
  unfolding types_for is_in
  types_none = refl

  types_more : (i : ℕ) (r : Rule) → get_elem? g.rules i ≡ just r
      → types_for g h tests (take (i + 1) g.rules)
      ≡ types_for g h tests (take i g.rules) ++ types_for g h tests (r ∷ [])
  unfolding types_for
  types_more i r e =
      ap (λ (rs : List Rule). types_for g h tests rs)
      (ap (λ (k : ℕ). take k g.rules) (add-one i)
      ∙ take-suc g.rules i r (at_below g.rules i e)
      ∙ ap (λ (x : Rule). take i g.rules ++ (x ∷ [])) (at_else g.rules i r e))
      ∙ ap (map (λ (r : Rule). r.type)) (keep_append (rule_fits g h tests) (take i g.rules) (r ∷ []))
      ∙ map-append (λ (r : Rule). r.type) (keep (rule_fits g h tests) (take i g.rules)) (keep (rule_fits g h tests) (r ∷ []))

  types_one : (r : Rule) → rule_fits g h tests r ≡ true → types_for g h tests (r ∷ []) ≡ r.type ∷ []
  unfolding types_for keep
  types_one r e = ap (map (λ (r : Rule). r.type)) (keep_yes (rule_fits g h tests) r [] e)

  types_not : (r : Rule) → rule_fits g h tests r ≡ false → types_for g h tests (r ∷ []) ≡ []
  unfolding types_for keep
  types_not r e = ap (map (λ (r : Rule). r.type)) (keep_no (rule_fits g h tests) r [] e)

  pub types_all : (i : ℕ) → length g.rules ≤ i → types_for g h tests (take i g.rules) ≡ types_for g h tests g.rules
  types_all i all = ap (types_for g h tests) (take_all i g.rules all)

  -- one rule more
  pub types_step : (i : ℕ) (r : Rule) → get_elem? g.rules i ≡ just r → (words after : List ℕ) (base : ℕ) (fits : Bool) (k : ℕ)
      → fits ≡ rule_fits g h tests r → k ≡ r.type → PutIf words base fits k after
      → set_at words base ≡ holds (types_for g h tests (take i g.rules))
      → set_at after base ≡ holds (types_for g h tests (take (i + 1) g.rules))
  types_step i r e words after base fits k f q w o = go fits refl
    where
      go : (b : Bool) → fits ≡ b → set_at after base ≡ holds (types_for g h tests (take (i + 1) g.rules))
      go true p =
          w.members
          ∙ ap (λ (b : Bool). elim b as (λ f. ℕ → Bool) [ true ↦ add k (set_at words base) | false ↦ set_at words base ]) p
          ∙ ap₂ add q o
          ∙ sym (ap holds (types_more i r e ∙ ap (λ (l : List ℕ). types_for g h tests (take i g.rules) ++ l) (types_one r (sym f ∙ p)))
          ∙ holds_end (types_for g h tests (take i g.rules)) r.type)
      go false p =
          w.members
          ∙ ap (λ (b : Bool). elim b as (λ f. ℕ → Bool) [ true ↦ add k (set_at words base) | false ↦ set_at words base ]) p
          ∙ o
          ∙ sym (ap holds (types_more i r e ∙ ap (λ (l : List ℕ). types_for g h tests (take i g.rules) ++ l) (types_not r (sym f ∙ p))
          ∙ append-nil (types_for g h tests (take i g.rules))))

-- the rules up to the next one of the node's label, too: they have other labels, so none of them fits
module _ {s : List ℕ} {index : TableIndex} {g : Table} (known : Held large s index g) (h : Head) (tests : List (ℕ → Bool)) (label : ℕ)
    (named : label ≡ place same_name h.name g.labels) where
  abbrev of_first : ℕ → List ℕ
  of_first i = types_for g h tests (take i g.rules)

  rule_passed : (i : ℕ) → i < rule_count index → (rule_label index i ≡ label → ⊥) → of_first (i + 1) ≡ of_first i
  rule_passed i below other =
      let rule = known_rule known i below in
      types_more g h tests i rule.rule rule.listed
      ∙ ap (λ (l : List ℕ). of_first i ++ l) (types_not g h tests rule.rule (not_asked known i below h label named tests other))
      ∙ append-nil (of_first i)

  pub types_passed : (set : ℕ → Bool) (from at : ℕ) → PlaceFrom (rule_label index) (rule_count index) label from at
      → set ≡ holds (types_for g h tests (take from g.rules)) → set ≡ holds (types_for g h tests (take at g.rules))
  types_passed set from at p so =
      let order = p.onward in
      let whole : from + (at - from) ≡ at = omega arith in
      so ∙ ap holds (sym (go (at - from) (omega arith)) ∙ ap of_first whole)
    where
      go : (more : ℕ) → from + more ≤ at → of_first (from + more) ≡ of_first from
      go zero short = let e : from + 0 ≡ from = omega arith in ap of_first e
      go (suc more) short =
          let within = p.within in
          let e : from + suc more ≡ from + more + 1 = omega arith in
          ap of_first e
          ∙ rule_passed (from + more) (omega arith) (p.passed (from + more) (omega arith) (omega arith))
          ∙ go more (omega arith)

-- the set at a word is emptied
pub emptied : (words after none : List ℕ) (base : ℕ) → base + 4 ≤ length words → none ≡ replicate 4 0 → after ≡ store_at words base none
    → (set_at after base ≡ sets.nothing) × (drop (base + 4) after ≡ drop (base + 4) words)
emptied words after none base room zeros e =
    let size : length none ≡ 4 = ap length zeros ∙ length-replicate {A = ℕ} 4 0 in (
      ap (λ (l : List ℕ). set_at l base) e
          ∙ ap (λ (l : List ℕ). member l 0) (words_store words base none 4 (omega arith) size ∙ zeros)
          ∙ member_zeros 4 0,
      ap (drop (base + 4)) e ∙ drop_store words base none (base + 4) (omega arith) (omega arith),
    )

-- one more number in a set that stands in words, if the flag says so
words_put : (words : List ℕ) (base k n : ℕ) → k / 32 < n → words_at (put_at words base k) base n ≡ put_at (words_at words base n) 0 k
unfolding words_at put_at
words_put words base k n h =
    let x = bit_or (get_or words (base + k / 32) 0) (2 ^ (k % 32)) in
    ap (take n) (drop-set-add base words (k / 32) x)
    ∙ take-set-lt n (drop base words) (k / 32) x h
    ∙ ap₂ (λ (i y : ℕ). set (take n (drop base words)) i (bit_or y (2 ^ (k % 32)))) (sym (zero-add (k / 32)))
    (sym (ap (λ (i : ℕ). get_or (take n (drop base words)) i 0) (zero-add (k / 32)) ∙ word_of words base n (k / 32) h))

module _ (words after : List ℕ) (base k : ℕ) (small : k < 128) (room : base + 4 ≤ length words) where
  pub put_it : (flag : Bool) → flag ≡ true → after ≡ put_at words base k → PutIf words base flag k after
  unfolding put_at
  put_it flag f e =
      let size = length-words words base 4 room in
      let inside : 0 + k / 32 < length (words_at words base 4) = omega arith in
      let word : k / 32 < 4 = omega arith in
      record {
        members =
            ap (λ (l : List ℕ). set_at l base) e
            ∙ ap (λ (l : List ℕ). member l 0) (words_put words base k 4 word)
            ∙ member_put (words_at words base 4) 0 k inside
            ∙ sym (ap (λ (b : Bool). elim b as (λ f. ℕ → Bool) [ true ↦ add k (set_at words base) | false ↦ set_at words base ]) f);
        behind = ap (drop (base + 4)) e ∙ drop-set-lt (base + 4) words (base + k / 32) _ (omega arith);
      }

-- a number of a set that was read in its words
pub set_has : (words : List ℕ) (at k : ℕ) → k < 128 → member words at k ≡ set_at words at k
set_has words at k h =
    let small : k / 32 < 4 = omega arith in
    sym (member-words words at 4 k small)

-- a start is in a set where one of the index is
pub starts_pass : (words : List ℕ) (at : ℕ) {s : List ℕ} {index : TableIndex} {g : Table} → Indexes s index g → TypesBelow index
    → any_below (λ i. member words at (start_type index i)) (start_count index) ≡ any_pass (set_at words at) g.starts
starts_pass words at {index = index} {g = g} x below =
    ⊎_elim
    (λ e. let (i, h, q) = below_found there (start_count index) e in e ∙ sym (start_passes x (set_at words at) i h (sym (same i h) ∙ q)))
    (λ e.
    e
    ∙ sym (no_start_passes x (set_at words at)
    (λ i h. sym (same i h) ∙ false_of (there i) (λ q. not_both (one_below there (start_count index) i h q) e))))
    (passes_or_fails (any_below there (start_count index)))
  where
    there : ℕ → Bool
    there i = member words at (start_type index i)

    same : (i : ℕ) → i < start_count index → there i ≡ set_at words at (start_type index i)
    same i h = set_has words at (start_type index i) (below.start i h)
