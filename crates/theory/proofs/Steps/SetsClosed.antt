-- The sets of types that the single-type form numbers: the start sets, and what is met from set to set.
--     sets_induct      what holds of the start sets, and goes from a set to each set met in it, holds of all sets
--     starts_first     the start sets come first
--     sets_closed      if the sets are at most as many as there may be types, each set met in one of them is one of them
--     sets_distinct    no two of them are equal
--     each_set         each is the types of one label among some types, in rule order, and has a member
use Prim.Native.Nat.{ℕ, zero, suc, ◌+◌, ◌≤◌, ◌<◌}
use native.Mathlib.Omega.{arith}
use native.Mathlib.Nat.{eq-or-lt_of_le}
use mathlib.Core.Bool.{Bool, true, not, ◌&&◌}
use mathlib.Core.List.Memᴰ
use mathlib.Core.List.{
  List,
  [],
  ◌++◌,
  append_assoc,
  append-nil,
  map,
  Memᴰ,
}
use mathlib.Core.Logic.{◌↔◌, ◌⊎◌, inl, inr, ⊎_elim}
use mathlib.Core.Option.{Option, none as nothing, some as just}
use mathlib.Core.Path.{◌≡◌, refl, sym, ◌∙◌, ap, subst}
use lib.Dec.{eqb}
use lib.ListN.{length, get_elem?}
use borrow.Author.Tests.{eqb-true, eq-eqb, not-true}
use Rattle.grammar.specs.Lists.{any_pass, keep, distinct, is_in, same_numbers, numbers_below}
use Rattle.grammar.specs.Limits.{Limits}
use Rattle.grammar.specs.Content.{types_in}
use Rattle.grammar.specs.Table.{Rule, Table}
use Rattle.grammar.specs.ReadTable.{is_empty}
use Rattle.grammar.specs.LocalForm.{label_of}
use Rattle.grammar.specs.SingleTypeForm.{TypeSet, of_label, start_sets, members, types_met, sets_met, more_sets, all_sets}
use Rattle.theory.proofs.Lists.BoolLaws.{and_left, and_right, and_intro, not_both, passes_or_fails}
use Rattle.theory.proofs.Lists.ListLaws.{
  any_found,
  any_of,
  kept,
  keep_mem,
  keep-map,
  distinct_was,
  at_mem,
  mem_at,
  at_below,
  past_end,
  just_eq,
  joined_from,
  joined_mem,
  in_mem,
  mem_in,
  same_numbers_lem,
  same_numbers_refl,
  numbers_at,
  numbers_below_lem,
  at_joined,
  distinct_mem,
  eqb_decides,
  some_mem,
  mem_some,
}
use Rattle.theory.proofs.Automata.TableAutomaton.{label_rule}
use Rattle.theory.proofs.Tables.ReducedTable.{ReducedTable}
use Rattle.theory.proofs.Tables.TableConditions.{HasRule}
use Rattle.theory.proofs.Lists.NoTwo.{no_two_append, no_two_keep, no_two_map, no_two_weaken, no_two_distinct, NoTwo}

-- the worklist
module _ (g : Table) where
  -- of the sets met in a set, those not yet found
  abbrev pub new_sets : List TypeSet → TypeSet → List TypeSet
  new_sets sets s = keep (λ t. not (any_pass (same_numbers t) sets)) (sets_met g s)

  found_or_new : (sets : List TypeSet) (s : TypeSet) {t : TypeSet} → Memᴰ t (sets_met g s)
      → Memᴰ t sets ⊎ Memᴰ t (new_sets sets s)
  found_or_new sets s {t} m =
      ⊎_elim
      (λ e. let r = any_found (same_numbers t) sets e in inl (Memᴰ.cast (same_numbers_lem t r.0 r.2) r.1))
      (λ e. inr (keep_mem (λ u. not (any_pass (same_numbers u) sets)) m (ap not e)))
      (passes_or_fails (any_pass (same_numbers t) sets))

  new_not_found : (sets : List TypeSet) (s : TypeSet) {t : TypeSet} → Memᴰ t (new_sets sets s) → Memᴰ t sets → ⊥
  new_not_found sets s {t} m n =
      not_both (any_of (same_numbers t) n (same_numbers_refl t))
      (not-true (any_pass (same_numbers t) sets) (kept (λ u. not (any_pass (same_numbers u) sets)) (sets_met g s) m).1)

  pub more_end : (n next : ℕ) (sets : List TypeSet) → get_elem? sets next ≡ nothing → more_sets g n next sets ≡ sets
  unfolding more_sets
  more_end zero next sets e = refl
  more_end (suc n) next sets e = rw (e, more_sets)

  pub more_next : (n next : ℕ) (sets : List TypeSet) {s : TypeSet} → get_elem? sets next ≡ just s
      → more_sets g (suc n) next sets ≡ more_sets g n (suc next) (sets ++ new_sets sets s)
  unfolding more_sets
  more_next n next sets e = rw (e, more_sets)

  -- goes on from the sets found before one is looked into to those found after
  abbrev Carried : (ℕ → List TypeSet → Type 0) → Type 0
  Carried Inv =
      (next : ℕ) (sets : List TypeSet) (s : TypeSet) → get_elem? sets next ≡ just s → Inv next sets
      → Inv (suc next) (sets ++ new_sets sets s)

-- holds of the sets found at the end, where all have been looked into, or as many as allowed
record Ended (Inv : ℕ → List TypeSet → Type 0) (n next : ℕ) (sets : List TypeSet) : Type 0 where
  last : ℕ
  holds : Inv last sets
  done : length sets ≤ n + next → length sets ≤ last

more_ended : (g : Table) (Inv : ℕ → List TypeSet → Type 0) → Carried g Inv → (n next : ℕ) (sets : List TypeSet) → Inv next sets
    → Ended Inv n next (more_sets g n next sets)
unfolding more_sets
more_ended g Inv step zero next sets h = record { last = next; holds = h; done = λ few. omega arith }
more_ended g Inv step (suc n) next sets h =
    go (get_elem? sets next) refl (λ s e. more_ended g Inv step n (suc next) (sets ++ new_sets g sets s) (step next sets s e h))
  where
    go : (o : Option TypeSet) → get_elem? sets next ≡ o
        → ((s : TypeSet) → get_elem? sets next ≡ just s
        → Ended Inv n (suc next) (more_sets g n (suc next) (sets ++ new_sets g sets s)))
        → Ended Inv (suc n) next (more_sets g (suc n) next sets)
    go nothing e ih =
        subst (λ (l : List TypeSet). Ended Inv (suc n) next l) (sym (more_end g (suc n) next sets e))
        (record { last = next; holds = h; done = λ few. past_end sets next e })
    go (just s) e ih =
        subst (λ (l : List TypeSet). Ended Inv (suc n) next l) (sym (more_next g n next sets e))
        (record { last = (ih s e).last; holds = (ih s e).holds; done = λ few. (ih s e).done (omega arith) })

-- the types of one label among some types, one of which has it
pub record OneLabelSet (g : Table) (types : List ℕ) (s : TypeSet) : Type 0 where
  pub type : ℕ
  pub listed : Memᴰ type types
  pub alike : s ≡ of_label g types (label_of g type)

-- a type in the set of a label: it has a rule, is one of the types, and has that label
pub record InSet (g : Table) (types : List ℕ) (l k : ℕ) : Type 0 where
  pub has_rule : HasRule g k
  pub listed : Memᴰ k types
  pub label : label_of g k ≡ l

-- a set of one label among types that have rules
pub record Founded (g : Table) (s : TypeSet) : Type 0 where
  pub types : List ℕ
  pub have_rules : (k : ℕ) → Memᴰ k types → HasRule g k
  pub one_label : OneLabelSet g types s

-- a rule with the type in its content, of a type in the set
pub record MetIn (g : Table) (s : TypeSet) (k : ℕ) : Type 0 where
  pub rule : Rule
  pub of_table : Memᴰ rule g.rules
  pub of_set : Memᴰ rule.type s
  pub stands : Memᴰ k (types_in rule.content)

pub member_rule : (g : Table) (s : TypeSet) (r : Rule)
    → Memᴰ r (members g s) ↔ (Memᴰ r g.rules × Memᴰ r.type s)
unfolding members
member_rule g s r = (
  λ m. let p = kept (λ (q : Rule). is_in q.type s) g.rules m in (p.0, in_mem r.type s p.1),
  λ p. keep_mem (λ (q : Rule). is_in q.type s) p.0 (mem_in p.1),
)

pub type_met : (g : Table) (s : TypeSet) (k : ℕ) → Memᴰ k (types_met g s) ↔ MetIn g s k
unfolding types_met
type_met g s k = (
  λ m.
      let r = joined_from (λ (r : Rule). types_in r.content) (members g s) m in
      let p = (member_rule g s r.0).0 r.1 in
      record { rule = r.0; of_table = p.0; of_set = p.1; stands = r.2 },
  λ r. joined_mem (λ (r : Rule). types_in r.content) ((member_rule g s r.rule).1 (r.of_table, r.of_set)) r.stands,
)

pub set_met : (g : Table) (s t : TypeSet) → Memᴰ t (sets_met g s) ↔ OneLabelSet g (types_met g s) t
unfolding sets_met
set_met g s t = (there, back)
  where
    labels : List ℕ
    labels = map (label_of g) (types_met g s)

    there : Memᴰ t (sets_met g s) → OneLabelSet g (types_met g s) t
    there m =
        let (l, p, e) = Memᴰ.of_map (of_label g (types_met g s)) (distinct eqb labels) m in
        let (k, q, d) = Memᴰ.of_map (label_of g) (types_met g s) (distinct_was eqb labels p) in
        record { type = k; listed = q; alike = sym e ∙ ap (of_label g (types_met g s)) (sym d) }

    back : OneLabelSet g (types_met g s) t → Memᴰ t (sets_met g s)
    back o =
        Memᴰ.cast o.alike
        (Memᴰ.map (of_label g (types_met g s)) (distinct_mem eqb eqb_decides (Memᴰ.map (label_of g) o.listed)))

module _ (g : Table) (reduced : ReducedTable g) where
  pub label_below : {k : ℕ} → HasRule g k → label_of g k < length g.labels
  label_below h =
      subst (λ (l : ℕ). l < length g.labels)
      (sym (label_rule g reduced.one_rule_each h))
      (reduced.labelled h.rule h.of_table)

  pub of_label_lem : (types : List ℕ) (l k : ℕ) → Memᴰ k (of_label g types l) ↔ InSet g types l k
  unfolding of_label
  of_label_lem types l k = (there, back)
    where
      test : Rule → Bool
      test r = eqb r.label l && is_in r.type types

      there : Memᴰ k (of_label g types l) → InSet g types l k
      there m =
          let (r, n, e) = Memᴰ.of_map (λ (r : Rule). r.type) (keep test g.rules) m in
          let (p, t) = kept test g.rules n in
          let h : HasRule g k = record { rule = r; of_table = p; of_type = e } in
          record {
            has_rule = h;
            listed = Memᴰ.cast (sym e) (in_mem r.type types (and_right (eqb r.label l) (is_in r.type types) t));
            label =
                label_rule g reduced.one_rule_each h
                ∙ eqb-true r.label l (and_left (eqb r.label l) (is_in r.type types) t);
          }

      back : InSet g types l k → Memᴰ k (of_label g types l)
      back h =
          let r = h.has_rule.rule in
          let e = h.has_rule.of_type in
          let m = h.has_rule.of_table in
          let d : r.label ≡ l = sym (label_rule g reduced.one_rule_each h.has_rule) ∙ h.label in
          Memᴰ.cast (sym e)
          (Memᴰ.map (λ (r : Rule). r.type)
          (keep_mem test m
          (and_intro (eqb r.label l) (is_in r.type types) (eq-eqb r.label l d) (mem_in (Memᴰ.cast e h.listed)))))

  -- A set is told by the label of any member.
  pub label_told : (types : List ℕ) (x y k : ℕ) → Memᴰ k (of_label g types x) → of_label g types x ≡ of_label g types y → x ≡ y
  label_told types x y k m e =
      sym ((of_label_lem types x k).0 m).label ∙ ((of_label_lem types y k).0 (subst (λ (s : TypeSet). Memᴰ k s) e m)).label

  pub founded_member : {s : TypeSet} (f : Founded g s) → Memᴰ f.one_label.type s
  founded_member {s} f =
      let o = f.one_label in
      subst (λ (t : TypeSet). Memᴰ o.type t) (sym o.alike)
      ((of_label_lem f.types (label_of g o.type) o.type).1
      (record { has_rule = f.have_rules o.type o.listed; listed = o.listed; label = refl }))

  pub founded_label : {s : TypeSet} (f : Founded g s) {k : ℕ} → Memᴰ k s
      → InSet g f.types (label_of g f.one_label.type) k
  founded_label f {k} m =
      let o = f.one_label in
      (of_label_lem f.types (label_of g o.type) k).0 (subst (λ (t : TypeSet). Memᴰ k t) o.alike m)

  -- The members of a set have one label.
  pub founded_alike : {s : TypeSet} → Founded g s → {j k : ℕ} → Memᴰ j s → Memᴰ k s → label_of g j ≡ label_of g k
  founded_alike f m n = (founded_label f m).label ∙ sym (founded_label f n).label

  -- The types met in a set have rules.
  pub met_rules : (s : TypeSet) (k : ℕ) → Memᴰ k (types_met g s) → HasRule g k
  met_rules s k m = let r = (type_met g s k).0 m in reduced.content_rules r.rule r.of_table k r.stands

  abbrev pub met_founded : (s : TypeSet) {t : TypeSet} → OneLabelSet g (types_met g s) t → Founded g t
  met_founded s o = record { types = types_met g s; have_rules = met_rules s; one_label = o }

  met_distinct : (s : TypeSet) → NoTwo (λ t u. t ≡ u) (sets_met g s)
  unfolding sets_met
  met_distinct s =
      no_two_map (of_label g (types_met g s)) (λ t u. t ≡ u) (distinct eqb (map (label_of g) (types_met g s)))
      (no_two_weaken (λ x y. of_label g (types_met g s) x ≡ of_label g (types_met g s) y) (λ x y. eqb x y ≡ true)
      (distinct eqb (map (label_of g) (types_met g s)))
      (no_two_distinct eqb (λ x y e. eq-eqb y x (sym (eqb-true x y e))) (map (label_of g) (types_met g s)))
      (λ x y m n e. eq-eqb x y (told x y (distinct_was eqb (map (label_of g) (types_met g s)) m) e)))
    where
      told : (x y : ℕ) → Memᴰ x (map (label_of g) (types_met g s))
          → of_label g (types_met g s) x ≡ of_label g (types_met g s) y → x ≡ y
      told x y m e =
          let (k, n, d) = Memᴰ.of_map (label_of g) (types_met g s) m in
          label_told (types_met g s) x y k
          ((of_label_lem (types_met g s) x k).1 (record { has_rule = met_rules s k n; listed = n; label = d })) e

  -- the start sets
  abbrev pub start_founded : {s : TypeSet} → OneLabelSet g g.starts s → Founded g s
  start_founded o = record { types = g.starts; have_rules = reduced.start_rules; one_label = o }

  pub start_set : (s : TypeSet) → Memᴰ s (start_sets g) ↔ OneLabelSet g g.starts s
  unfolding start_sets
  start_set s = (there, back)
    where
      there : Memᴰ s (start_sets g) → OneLabelSet g g.starts s
      there m =
          let (n, e) = kept (λ t. not (is_empty t)) (map (of_label g g.starts) (numbers_below (length g.labels))) m in
          let (l, p, d) = Memᴰ.of_map (of_label g g.starts) (numbers_below (length g.labels)) n in
          let (k, q) = some_mem s e in
          let h = (of_label_lem g.starts l k).0 (subst (λ (t : TypeSet). Memᴰ k t) (sym d) q) in
          record { type = k; listed = h.listed; alike = sym d ∙ ap (of_label g g.starts) (sym h.label) }

      back : OneLabelSet g g.starts s → Memᴰ s (start_sets g)
      back o =
          keep_mem (λ t. not (is_empty t))
          (Memᴰ.cast o.alike
          (Memᴰ.map (of_label g g.starts)
          ((numbers_below_lem (length g.labels) (label_of g o.type)).1
          (label_below (reduced.start_rules o.type o.listed)))))
          (mem_some (founded_member (start_founded o)))

  start_distinct : NoTwo (λ t u. t ≡ u) (start_sets g)
  unfolding start_sets
  start_distinct =
      subst (λ (l : List TypeSet). NoTwo (λ t u. t ≡ u) l) (sym (keep-map (of_label g g.starts) (λ t. not (is_empty t)) below))
      (no_two_map (of_label g g.starts) (λ t u. t ≡ u) labels
      (no_two_weaken (λ x y. of_label g g.starts x ≡ of_label g g.starts y) (λ x y. x ≡ y) labels
      (no_two_keep (λ x y. x ≡ y) used below ascending)
      (λ x y m n e.
      let (k, q) = some_mem (of_label g g.starts x) (kept used below m).1 in
      label_told g.starts x y k q e)))
    where
      below : List ℕ
      below = numbers_below (length g.labels)

      used : ℕ → Bool
      used l = not (is_empty (of_label g g.starts l))

      labels : List ℕ
      labels = keep used below

      ascending : NoTwo (λ x y. x ≡ y) below
      ascending i j x y p q e =
          let a = numbers_at zero (length g.labels) i p in
          let b = numbers_at zero (length g.labels) j q in
          omega arith

module _ (lim : Limits) (g : Table) where
  all_ended : (Inv : ℕ → List TypeSet → Type 0) → Carried g Inv → Inv zero (start_sets g)
      → Ended Inv lim.types zero (all_sets lim g)
  unfolding all_sets
  all_ended Inv step h = more_ended g Inv step lim.types zero (start_sets g) h

  pub sets_induct : (P : TypeSet → Type 0) → ((s : TypeSet) → Memᴰ s (start_sets g) → P s)
      → ((s t : TypeSet) → P s → Memᴰ t (sets_met g s) → P t) → (s : TypeSet) → Memᴰ s (all_sets lim g) → P s
  sets_induct P start more = (all_ended (λ next sets. (s : TypeSet) → Memᴰ s sets → P s) step start).holds
    where
      step : Carried g (λ next sets. (s : TypeSet) → Memᴰ s sets → P s)
      step next sets s e h t m =
          ⊎_elim
          (λ p. h t p)
          (λ p. more s t (h s (at_mem sets next e)) (kept (λ u. not (any_pass (same_numbers u) sets)) (sets_met g s) p).0)
          (Memᴰ.append_cases sets m)

  pub starts_first : (rest : List TypeSet) × (all_sets lim g ≡ start_sets g ++ rest)
  starts_first = (all_ended First step ([], sym (append-nil (start_sets g)))).holds
    where
      First : ℕ → List TypeSet → Type 0
      First next sets = (rest : List TypeSet) × (sets ≡ start_sets g ++ rest)

      step : Carried g First
      step next sets s e h = (
        h.0 ++ new_sets g sets s,
        ap (λ (l : List TypeSet). l ++ new_sets g sets s) h.1 ∙ append_assoc (start_sets g) h.0 (new_sets g sets s),
      )

  pub sets_closed : length (all_sets lim g) ≤ lim.types → (s t : TypeSet) → Memᴰ s (all_sets lim g) → Memᴰ t (sets_met g s)
      → Memᴰ t (all_sets lim g)
  sets_closed few s t m n =
      let (i, at) = mem_at m in
      let h = at_below (all_sets lim g) i at in
      let d = ended.done (omega arith) in
      ended.holds i (omega arith) s at t n
    where
      Closed : ℕ → List TypeSet → Type 0
      Closed next sets =
          (i : ℕ) → i < next → (s : TypeSet) → get_elem? sets i ≡ just s → (t : TypeSet) → Memᴰ t (sets_met g s)
          → Memᴰ t sets

      step : Carried g Closed
      step next sets s e h i b r at t m =
          let k = at_below sets next e in
          let at' : get_elem? sets i ≡ just r = sym (at_joined sets (new_sets g sets s) i (omega arith)) ∙ at in
          let i≤next : i ≤ next = omega arith in
          go (eq-or-lt_of_le i≤next) at'
        where
          go : (i ≡ next) ⊎ (i < next) → get_elem? sets i ≡ just r → Memᴰ t (sets ++ new_sets g sets s)
          go (inr b) at = Memᴰ.append_left (new_sets g sets s) (h i b r at t m)
          go (inl c) at =
              let same : r ≡ s = just_eq (sym e ∙ subst (λ (j : ℕ). get_elem? sets j ≡ just r) c at) in
              ⊎_elim
              (λ p. Memᴰ.append_left (new_sets g sets s) p)
              (λ p. Memᴰ.append_right sets p)
              (found_or_new g sets s (subst (λ (q : TypeSet). Memᴰ t (sets_met g q)) same m))

      ended : Ended Closed lim.types zero (all_sets lim g)
      ended = all_ended Closed step (λ i b. absurd (omega arith))

  module _ (reduced : ReducedTable g) where
    pub sets_distinct : NoTwo (λ s t. s ≡ t) (all_sets lim g)
    sets_distinct = (all_ended (λ next. NoTwo (λ s t. s ≡ t)) step (start_distinct g reduced)).holds
      where
        step : Carried g (λ next. NoTwo (λ s t. s ≡ t))
        step next sets s e h =
            no_two_append (λ t u. t ≡ u) sets (new_sets g sets s) h
            (no_two_keep (λ t u. t ≡ u) (λ t. not (any_pass (same_numbers t) sets)) (sets_met g s) (met_distinct g reduced s))
            (record {
              forth = λ t u m n e. new_not_found g sets s n (Memᴰ.cast (sym e) m);
              back = λ t u m n e. new_not_found g sets s n (Memᴰ.cast e m);
            })

    pub each_set : (s : TypeSet) → Memᴰ s (all_sets lim g) → Founded g s
    each_set =
        sets_induct (Founded g)
        (λ s m. start_founded g reduced ((start_set g reduced s).0 m))
        (λ s t f m. met_founded g reduced s ((set_met g s t).0 m))
