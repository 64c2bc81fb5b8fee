-- The pairs met in contents:
--   met_same                 over lists that agree on the types of a proper content
--   old_met, added_met       what the walk over a rule's content adds, by the union's lists
--   pair_met, set_met        the pairs met in a pair's contents, and in those of a set of pairs, rule by rule and pair by pair
--   meets-*                  a loop that adds the pairs met
--   met_was, met_has         which pairs are met
--   part_next                one number more of a part in a set
use Prim.Native.Nat.{ℕ, ◌+◌, ◌-◌, ◌≤◌, ◌<◌}
use native.Mathlib.Omega.{arith}
use mathlib.Core.Bool.{Bool, true, false, ◌&&◌, ◌||◌}
use mathlib.Core.List.Memᴰ
use mathlib.Core.List.{List, [], ◌∷◌, ◌++◌, Memᴰ}
use mathlib.Core.Path.{◌≡◌, refl, sym, ◌∙◌, ap, ap₂, subst, fun_ext}
use lib.ListN.{length, get_or, take, drop}
use lib.Dec.{eqb, leb}
use borrow.Author.Tests.{eqb-true, eq-eqb, ltb-true}
use Rattle.std.proofs.lemmas.List.{take_more}
use Rattle.grammar.specs.Lists.{keep, distinct, joined_of, is_in, numbers_below}
use Rattle.grammar.specs.Limits.{Limits, large}
use Rattle.grammar.specs.ReadContent.{is_proper, are_proper}
use Rattle.grammar.specs.Content.{Content, none, empty, type, sequence, choice, any_number, one_or_more, optional, Contents, []ᶜ, ◌∷ᶜ◌, operand_count}
use Rattle.grammar.specs.Table.{Rule, Table}
use Rattle.grammar.specs.KindTests.{same_pair}
use Rattle.grammar.specs.Unite.{shifted}
use Rattle.grammar.specs.Normalise.{pair_of}
use Rattle.theory.specs.Alternatives.{has_alts, all_have_alts, one_has_alts, some_left, only_if, pairs_met, pairs_met_all}
use Rattle.theory.proofs.Lists.BoolLaws.{and_left, and_right}
use Rattle.theory.proofs.Lists.ListLaws.{
  kept,
  keep_mem,
  joined_from,
  joined_mem,
  numbers_below_lem,
  at_mem,
  mem_at,
  at_below,
  at_else,
  at_or_else,
  any_of,
  eqb_decides,
  keep_on,
  eqb_sym,
  decided_trans,
  joined_next,
}
use Rattle.theory.proofs.Lists.PlaceLaws.{place_found}
use Rattle.theory.proofs.Lists.DistinctLaws.{among_distinct}
use Rattle.theory.proofs.Steps.NormaliseDocuments.{pair_refl}
use Rattle.theory.proofs.Emission.AlternativeLaws.{pairs_renamed}
use Rattle.theory.proofs.Emission.EmittedContent.{joined_map, joined_twice}
use Rattle.sets.specs.Sets.{member, put_at, in_either}
use Rattle.union.specs.declared.united.United.{United}
use Rattle.union.specs.declared.lists.TypeLists.{TypeLists}
use Rattle.union.specs.declared.lists.Lists.{Lists}
use Rattle.union.specs.declared.met.MetOne.{MetOne}
use Rattle.union.specs.View.{SourceContent, Views, first_in, from_in, to_in}
use Rattle.union.specs.Walks.{list_of_type, Once, Adds, MetAsks, MetFinds, PartOfNumbers}
use Rattle.union.specs.Rounds.{content_of_rule}
use Rattle.union.specs.PairNumbers.{rule_numbered, fruitful_of, contents_of_pair, contents_in, met_in, no_rule}
use Rattle.union.proofs.ViewLaws.{content_is, seen, source_so}
use Rattle.union.proofs.MetLaws.{finds_adds, finds_once}
use Rattle.union.proofs.OnceLaws.{adds_none, adds_join, adds_same}
use Rattle.reducing.specs.declared.meeting.Met.{Met}
use Rattle.reducing.specs.PairsMet.{MetHeld, ContentMet, met_in_rule, met_in_pair, Meets}
use Rattle.reducing.proofs.NumberLaws.{put_next, joined_only, joined_start}
use Rattle.reducing.proofs.ListingLaws.{rule_at}

-- lists that agree on the types of a proper content
module _ (lim : Limits) (left right : ℕ → List ℕ) (same : (k : ℕ) → k < lim.types → left k ≡ right k) where
  operands_proper : (cs : Contents) → (leb 2 (operand_count cs) && leb (operand_count cs) lim.operands && are_proper lim cs) ≡ true
      → are_proper lim cs ≡ true
  operands_proper cs e = and_right (leb 2 (operand_count cs) && leb (operand_count cs) lim.operands) (are_proper lim cs) e

  mutual
    unfolding has_alts is_proper some_left

    has_same : (c : Content) → is_proper lim c ≡ true → has_alts (some_left left) c ≡ has_alts (some_left right) c
    has_same none e = refl
    has_same empty e = refl
    has_same (type k) e = ap (λ (l : List ℕ). some_left (λ j. l) k) (same k (ltb-true k lim.types e))
    has_same (sequence cs) e = all_have_same cs (operands_proper cs e)
    has_same (choice cs) e = one_has_same cs (operands_proper cs e)
    has_same (any_number c) e = refl
    has_same (one_or_more c) e = has_same c e
    has_same (optional c) e = refl

    all_have_same : (cs : Contents) → are_proper lim cs ≡ true → all_have_alts (some_left left) cs ≡ all_have_alts (some_left right) cs
    all_have_same []ᶜ e = refl
    all_have_same (c ∷ᶜ cs) e =
        ap₂ ◌&&◌ (has_same c (and_left (is_proper lim c) (are_proper lim cs) e))
        (all_have_same cs (and_right (is_proper lim c) (are_proper lim cs) e))

    one_has_same : (cs : Contents) → are_proper lim cs ≡ true → one_has_alts (some_left left) cs ≡ one_has_alts (some_left right) cs
    one_has_same []ᶜ e = refl
    one_has_same (c ∷ᶜ cs) e =
        ap₂ ◌||◌ (has_same c (and_left (is_proper lim c) (are_proper lim cs) e))
        (one_has_same cs (and_right (is_proper lim c) (are_proper lim cs) e))

  mutual
    unfolding pairs_met is_proper

    pub met_same : (c : Content) → is_proper lim c ≡ true → pairs_met left c ≡ pairs_met right c
    met_same none e = refl
    met_same empty e = refl
    met_same (type k) e = same k (ltb-true k lim.types e)
    met_same (sequence cs) e =
        ap₂ only_if (all_have_same cs (operands_proper cs e)) (all_met_same cs (operands_proper cs e))
    met_same (choice cs) e = all_met_same cs (operands_proper cs e)
    met_same (any_number c) e = met_same c e
    met_same (one_or_more c) e = met_same c e
    met_same (optional c) e = met_same c e

    all_met_same : (cs : Contents) → are_proper lim cs ≡ true → pairs_met_all left cs ≡ pairs_met_all right cs
    all_met_same []ᶜ e = refl
    all_met_same (c ∷ᶜ cs) e =
        ap₂ ◌++◌ (met_same c (and_left (is_proper lim c) (are_proper lim cs) e))
        (all_met_same cs (and_right (is_proper lim c) (are_proper lim cs) e))

-- what the walk over a content adds
pub content_met : (s : List ℕ) (lists : Lists) (list : List ℕ) (count : ℕ) (list' : List ℕ) (r : MetOne)
    → MetAsks s 0 lists.from lists.numbers list count
    → MetFinds (list_of_type lists.from lists.numbers) (take count list) s 0 list' r
    → length list' ≡ length list
    → ContentMet s lists (take count list) list' r.count
content_met s lists list count list' r a f same =
    record {
      adds = λ c next e. (finds_adds (list_of_type lists.from lists.numbers) (take count list) s 0 list' r c next e f).2;
      once = finds_once s 0 lists.from lists.numbers list count list' r a f same;
    }

-- a content in its source
source_met : {s : List ℕ} {from to : ℕ} {c : Content} → SourceContent s from to c → (lists : Lists) (of : ℕ → List ℕ)
    → ((k : ℕ) → k < 128 → list_of_type lists.from lists.numbers k ≡ of k)
    → (numbers list : List ℕ) (r : ℕ) → ContentMet (take (to - from) (drop from s)) lists numbers list r
    → Adds numbers (pairs_met of c) list r
unfolding large
source_met {s} {from} {to} {c} x lists of same numbers list r f =
    adds_same (met_same large (list_of_type lists.from lists.numbers) of same c x.proper) (f.adds c (to - from) x.stands)

module _ {old add : List ℕ} {v : United} (i : ℕ) (inside : i < v.rules) (from to : ℕ) (begins : from_in v i ≡ from) (ends : to_in v i ≡ to)
    (lists : TypeLists) (numbers list : List ℕ) (r : ℕ) where
  pub old_met : i < v.old_rules
      → ContentMet (take (to - from) (drop from old)) lists.old numbers list r
      → Meets old add v lists (λ u. met_in_rule u i) numbers list r
  unfolding met_in_rule
  old_met h f =
      record {
        adds =
            λ u x l.
            let s = seen x i inside in
            adds_same (ap (pairs_met (fruitful_of u)) (sym (content_is u i s.0 s.1)))
            (source_met (source_so begins ends (s.2.in_old h)) lists.old (fruitful_of u) l.old numbers list r f);
        once = f.once;
      }

  pub added_met : v.old_rules ≤ i
      → ContentMet (take (to - from) (drop from add)) lists.addition numbers list r
      → Meets old add v lists (λ u. met_in_rule u i) numbers list r
  unfolding met_in_rule
  added_met h f =
      record {
        adds =
            λ u x l.
            let s = seen x i inside in
            let a = s.2.in_addition h in
            adds_same
            (sym (pairs_renamed (shifted large) (fruitful_of u) a.source)
            ∙ ap (pairs_met (fruitful_of u)) (sym (content_is u i s.0 s.1 ∙ a.same)))
            (source_met (source_so begins ends a.stands) lists.addition (λ k. fruitful_of u (shifted large k)) l.added numbers list
            r
            f);
        once = f.once;
      }

-- by rules and pairs
module _ {old add : List ℕ} {v : United} {u : Table} (x : Views old add v u) where
  pub pair_met : (p : ℕ)
      → joined_of (λ i. only_if (eqb (first_in v i) p) (met_in_rule u i)) (numbers_below v.rules) ≡ met_in_pair u p
  unfolding met_in_rule met_in_pair contents_of_pair
  pair_met p =
      joined_only (λ i. eqb (first_in v i) p) (met_in_rule u) (numbers_below v.rules)
      ∙ ap (joined_of (met_in_rule u))
      (keep_on (λ i. eqb (first_in v i) p) (λ i. eqb (pair_of u (rule_numbered u i)) p) (numbers_below v.rules)
      (λ i m. ap (λ (q : ℕ). eqb q p) (rule_at x i ((numbers_below_lem v.rules i).0 m)).1)
      ∙ ap (λ (n : ℕ). keep (λ i. eqb (pair_of u (rule_numbered u i)) p) (numbers_below n)) x.rules)
      ∙ sym (joined_map (pairs_met (fruitful_of u)) (content_of_rule u)
      (keep (λ i. eqb (pair_of u (rule_numbered u i)) p) (numbers_below (length u.rules))))

  pub set_met : (set : ℕ → Bool)
      → joined_of (λ p. only_if (set p) (met_in_pair u p)) (numbers_below v.rules) ≡ met_in u set
  unfolding met_in_pair met_in contents_in
  set_met set =
      joined_only set (met_in_pair u) (numbers_below v.rules)
      ∙ ap (λ (n : ℕ). joined_of (met_in_pair u) (keep set (numbers_below n))) x.rules
      ∙ sym (joined_twice (pairs_met (fruitful_of u)) (contents_of_pair u) (keep set (numbers_below (length u.rules))))

-- loops that add the pairs met
module _ {old add : List ℕ} {v : United} {lists : TypeLists} where
  pub meets_same : (more others : Table → List ℕ) (numbers list : List ℕ) (count : ℕ)
      → ((u : Table) → Views old add v u → more u ≡ others u)
      → Meets old add v lists more numbers list count
      → Meets old add v lists others numbers list count
  meets_same more others numbers list count e m =
      record { adds = λ u x l. adds_same (e u x) (m.adds u x l); once = m.once }

  pub meets_none : (list : List ℕ) (count : ℕ) (more : Table → List ℕ) → Once 256 list count → ((u : Table) → more u ≡ [])
      → Meets old add v lists more (take count list) list count
  meets_none list count more o e =
      record { adds = λ u x l. adds_same (sym (e u)) (adds_none 256 list count o); once = o }

  pub meets_on : (b : Bool) (more : Table → List ℕ) (numbers list : List ℕ) (count : ℕ) → b ≡ true
      → Meets old add v lists more numbers list count
      → Meets old add v lists (λ u. only_if b (more u)) numbers list count
  unfolding only_if
  meets_on b more numbers list count e =
      meets_same more (λ u. only_if b (more u)) numbers list count (λ u x. sym (ap (λ (c : Bool). only_if c (more u)) e))

  pub meets_off : (b : Bool) (more : Table → List ℕ) (list : List ℕ) (count : ℕ) → b ≡ false → Once 256 list count
      → Meets old add v lists (λ u. only_if b (more u)) (take count list) list count
  unfolding only_if
  meets_off b more list count e o =
      meets_none list count (λ u. only_if b (more u)) o (λ u. ap (λ (c : Bool). only_if c (more u)) e)

  module _ (f : Table → ℕ → List ℕ) where
    pub meets_start : (list : List ℕ) (count : ℕ) → Once 256 list count
        → Meets old add v lists (λ u. joined_of (f u) (numbers_below 0)) (take count list) list count
    meets_start list count o = meets_none list count (λ u. joined_of (f u) (numbers_below 0)) o (λ u. joined_start (f u))

    pub meets_next : (i : ℕ) (numbers list list' : List ℕ) (count r : ℕ)
        → Meets old add v lists (λ u. joined_of (f u) (numbers_below i)) numbers list count
        → Meets old add v lists (λ u. f u i) (take count list) list' r
        → Meets old add v lists (λ u. joined_of (f u) (numbers_below (i + 1))) numbers list' r
    meets_next i numbers list list' count r a b =
        record {
          adds =
              λ u x l.
              adds_same (sym (joined_next (f u) i))
              (adds_join numbers (joined_of (f u) (numbers_below i)) (f u i) list list' count r (a.adds u x l) (b.adds u x l));
          once = b.once;
        }

-- which pairs are met in the contents of a set of pairs
pub record MetBy (u : Table) (set : ℕ → Bool) (p : ℕ) : Type 0 where
  pub rule : Rule
  pub of_table : Memᴰ rule u.rules
  pub of_set : set (pair_of u rule) ≡ true
  pub meets : Memᴰ p (pairs_met (fruitful_of u) rule.content)

module _ (u : Table) (set : ℕ → Bool) (p : ℕ) where
  pub met_was : Memᴰ p (met_in u set) → MetBy u set p
  unfolding met_in contents_in contents_of_pair
  met_was m =
      let rules = numbers_below (length u.rules) in
      let c = joined_from (pairs_met (fruitful_of u)) (contents_in u set) m in
      let q = joined_from (contents_of_pair u) (keep set rules) c.1 in
      let i = Memᴰ.of_map (content_of_rule u) (keep (λ i. eqb (pair_of u (rule_numbered u i)) q.0) rules) q.2 in
      let k = kept (λ i. eqb (pair_of u (rule_numbered u i)) q.0) rules i.1 in
      let at = at_or_else u.rules i.0 no_rule ((numbers_below_lem (length u.rules) i.0).0 k.0) in
      record {
        rule = rule_numbered u i.0;
        of_table = at_mem u.rules i.0 at;
        of_set = ap set (eqb-true (pair_of u (rule_numbered u i.0)) q.0 k.1) ∙ (kept set rules q.1).1;
        meets =
            subst (λ (d : Content). Memᴰ p (pairs_met (fruitful_of u) d))
            (sym i.2 ∙ content_is u i.0 (rule_numbered u i.0) at)
            c.2;
      }

  pub met_has : MetBy u set p → Memᴰ p (met_in u set)
  unfolding met_in contents_in contents_of_pair pair_of
  met_has w =
      let rules = numbers_below (length u.rules) in
      let q = pair_of u w.rule in
      let f = place_found same_pair w.rule u.rules (any_of (same_pair w.rule) w.of_table (pair_refl w.rule)) in
      let first = keep_mem set ((numbers_below_lem (length u.rules) q).1 (at_below u.rules q f.1)) w.of_set in
      let a = mem_at w.of_table in
      let e = at_else u.rules a.0 no_rule a.1 in
      let i = keep_mem (λ i. eqb (pair_of u (rule_numbered u i)) q) ((numbers_below_lem (length u.rules) a.0).1 (at_below u.rules a.0 a.1))
      (eq-eqb (pair_of u (rule_numbered u a.0)) q (ap (pair_of u) e)) in
      let c = Memᴰ.map (content_of_rule u) i in
      joined_mem (pairs_met (fruitful_of u)) (joined_mem (contents_of_pair u) first c)
      (subst (λ (d : Content). Memᴰ p (pairs_met (fruitful_of u) d)) (sym (content_is u a.0 w.rule a.1)) w.meets)

-- a number among numbers, and among each of them once
pub distinct_in : (xs : List ℕ) → ◌≡◌ {A = ℕ → Bool} (λ p. is_in p (distinct eqb xs)) (λ p. is_in p xs)
unfolding is_in
distinct_in xs =
    fun_ext (λ p. among_distinct eqb eqb_sym (decided_trans eqb eqb_decides) (λ q. eq-eqb q q refl) p xs)

-- those met are a part of their list
pub met_part : (found : Met) → MetHeld found → PartOfNumbers found.numbers 0 found.count
met_part found h =
    record {
      order = omega arith;
      inside = h.once.held;
    }

-- the next number of a part put into a set of words
pub part_next : (words more part : List ℕ) (i k : ℕ) (base : ℕ → Bool) → more ≡ put_at words 0 k → k ≡ get_or part i 0 → k < 256
    → length words ≡ 8
    → i < length part
    → member words 0 ≡ in_either (λ p. is_in p (take i part)) base
    → (member more 0 ≡ in_either (λ p. is_in p (take (i + 1) part)) base) × (length more ≡ 8)
part_next words more part i k base m e small l high q =
    let r = put_next words more (take i part) k base m small l q in
    let t : take i part ++ (k ∷ []) ≡ take (i + 1) part =
    ap (λ (n : ℕ). take i part ++ (n ∷ [])) e ∙ sym (take_more part i 0 high) in
    (r.0 ∙ ap (λ (xs : List ℕ). in_either (λ p. is_in p xs) base) t, r.1)
