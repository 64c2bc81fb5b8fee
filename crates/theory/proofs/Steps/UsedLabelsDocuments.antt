-- Keeping only the used labels, of a table whose rules' labels are among its labels:
--     used_labels_same_rules     its rules are those of the table, up to the numbers of labels (SameRules), and so:
--     used_labels_documents      it lets in what the table lets in
--     used_labels_local          it is local, used_labels_single_type single-type, if the table is
--     used_labels_one_rule       each type has at most one rule if it has so in the table
--     used_labels_names          no two labels have equal names if so in the table
--     used_labels_labelled       the rules' labels are among the labels
--     used_labels_count          there are at most as many labels as rules
use Prim.Native.Nat.{ℕ, ◌≤◌, ◌<◌}
use native.Mathlib.Omega.{arith}
use mathlib.Core.Bool.{true, false}
use mathlib.Core.List.{List, [], ◌∷◌, Memᴰ}
use mathlib.Core.Logic.{◌↔◌}
use mathlib.Core.Option.{some as just}
use mathlib.Core.Path.{◌≡◌, refl, sym, ◌∙◌, subst}
use lib.Dec.{eqb}
use lib.ListN.{length, get_elem?, get_or, length-map}
use borrow.Author.Tests.{eqb-true, eq-eqb}
use Rattle.grammar.specs.Lists.{any_pass, keep, all_distinct, numbers_below}
use Rattle.grammar.specs.Names.{Name, SameName}
use Rattle.grammar.specs.Tree.{Tree}
use Rattle.grammar.specs.Table.{Rule, Table, DistinctNames}
use Rattle.grammar.specs.Derivation.{LetsIn}
use Rattle.grammar.specs.Kinds.{Local, SingleType}
use Rattle.grammar.specs.UsedLabels.{used_labels, with_used_labels}
use Rattle.theory.specs.Conditions.{Labelled}
use Rattle.theory.proofs.Lists.ListLaws.{
  any_of,
  kept,
  keep_mem,
  at_mem,
  just_eq,
  numbers_below_lem,
  numbers_differ,
  one_place,
  keep_differ,
  keep_either,
  at_or_else,
  map_at,
  related_map,
  eqb_decides,
}
use Rattle.theory.proofs.Lists.PlaceLaws.{place_of}
use Rattle.theory.proofs.Tables.SameRules.{
  SameRules,
  same_documents,
  same_local,
  same_single_type,
  same_one_rule,
  same_labelled,
}
use Rattle.theory.proofs.Tables.TableConditions.{OneRuleEach}
use Rattle.theory.proofs.Lists.NoTwo.{no_two_map}

-- the used labels: labels of rules, among the labels, each once
module _ (g : Table) where
  pub used_below : {l : ℕ} → Memᴰ l (used_labels g) → l < length g.labels
  unfolding used_labels
  used_below {l} m = (numbers_below_lem (length g.labels) l).0 (kept _ (numbers_below (length g.labels)) m).0

  pub used_differ : all_distinct eqb (used_labels g) ≡ true
  unfolding used_labels
  used_differ = keep_differ eqb _ (numbers_below (length g.labels)) (numbers_differ (length g.labels))

  pub label_used : Labelled g → (r : Rule) → Memᴰ r g.rules → Memᴰ r.label (used_labels g)
  unfolding used_labels
  label_used labelled r m =
      keep_mem
      (λ l. any_pass (λ (s : Rule). eqb s.label l) g.rules)
      ((numbers_below_lem (length g.labels) r.label).1 (labelled r m))
      (any_of (λ (s : Rule). eqb s.label r.label) m (eq-eqb r.label r.label refl))

  -- the name of a label, and the label that stands at a place among the used ones
  name_of : ℕ → Name
  name_of l = get_or g.labels l []

  abbrev pub UsedAt : ℕ → ℕ → Type 0
  UsedAt l i = get_elem? (used_labels g) i ≡ just l

  name_at : (l i : ℕ) → UsedAt l i → get_elem? g.labels l ≡ just (name_of l)
  unfolding name_of
  name_at l i p = at_or_else g.labels l [] (used_below (at_mem (used_labels g) i p))

  pub used_labels_same_rules : Labelled g → SameRules UsedAt g (with_used_labels g)
  unfolding name_of with_used_labels
  used_labels_same_rules labelled =
      record {
        names = λ l i p. name_at l i p ∙ sym (map_at name_of (used_labels g) i p);
        one_label =
            λ l i m j p q. (
              λ e. one_place (used_labels g) i j used_differ p q e,
              λ e. sym (just_eq (sym (subst (λ (k : ℕ). UsedAt l k) e p) ∙ q)),
            );
        starts = refl;
        rules =
            related_map _ g.rules
            (λ r m.
            record {
              type = refl;
              label = place_of eqb eqb_decides (label_used labelled r m);
              words = λ w. (λ v. v, λ v. v);
              types = λ k. (λ v. v, λ v. v);
              text = refl;
            });
      }

  pub used_labels_documents : Labelled g → (d : Tree) → LetsIn (with_used_labels g) d ↔ LetsIn g d
  used_labels_documents labelled = same_documents (used_labels_same_rules labelled)

  pub used_labels_local : Labelled g → Local g → Local (with_used_labels g)
  used_labels_local labelled = same_local (used_labels_same_rules labelled)

  pub used_labels_single_type : Labelled g → SingleType g → SingleType (with_used_labels g)
  used_labels_single_type labelled = same_single_type (used_labels_same_rules labelled)

  pub used_labels_one_rule : Labelled g → OneRuleEach g → OneRuleEach (with_used_labels g)
  used_labels_one_rule labelled = same_one_rule (used_labels_same_rules labelled)

  pub used_labels_labelled : Labelled g → Labelled (with_used_labels g)
  used_labels_labelled labelled = same_labelled (used_labels_same_rules labelled) labelled

  pub used_labels_names : DistinctNames g → DistinctNames (with_used_labels g)
  unfolding name_of with_used_labels
  used_labels_names names =
      no_two_map name_of SameName (used_labels g)
      (λ i j l m p q e.
      one_place (used_labels g) i j used_differ p q (names l m (name_of l) (name_of m) (name_at l i p) (name_at m j q) e))

-- different numbers that are all one number are at most one
at_most_one : (n : ℕ) (ns : List ℕ) → all_distinct eqb ns ≡ true → ((m : ℕ) → Memᴰ m ns → n ≡ m) → length ns ≤ 1
at_most_one n [] d h = omega arith
at_most_one n (k ∷ []) d h = omega arith
at_most_one n (k ∷ l ∷ ns) d h =
    let same = sym (h k (Memᴰ.head refl)) ∙ h l (Memᴰ.tail (Memᴰ.head refl)) in
    let never = one_place (k ∷ l ∷ ns) 0 1 d refl refl same in
    absurd (omega arith)

-- of different numbers at most as many are labels of rules as there are rules
labels_of_rules : (ns : List ℕ) → all_distinct eqb ns ≡ true → (rs : List Rule)
    → length (keep (λ l. any_pass (λ (r : Rule). eqb r.label l) rs) ns) ≤ length rs
unfolding any_pass keep
labels_of_rules ns d [] = none ns
  where
    none : (ns : List ℕ) → length (keep (λ (l : ℕ). false) ns) ≤ 0
    none [] = omega arith
    none (n ∷ ns) = none ns
labels_of_rules ns d (r ∷ rs) =
    let one =
    at_most_one r.label (keep (eqb r.label) ns) (keep_differ eqb (eqb r.label) ns d)
    (λ m p. eqb-true r.label m (kept (eqb r.label) ns p).1)
    in
    let rest = labels_of_rules ns d rs in
    let both = keep_either (eqb r.label) (λ l. any_pass (λ (s : Rule). eqb s.label l) rs) ns in
    omega arith

pub used_labels_count : (g : Table) → length (with_used_labels g).labels ≤ length g.rules
unfolding name_of with_used_labels
used_labels_count g =
    rw (length-map (used_labels g) (name_of g))
    (labels_of_rules (numbers_below (length g.labels)) (numbers_differ (length g.labels)) g.rules)
