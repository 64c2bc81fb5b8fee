-- The types that are reached from the starts through the types that stand in contents:
--     reached_is           a type is among `reached g` just where it is reached
--     reached_trees        a reached type derives the same trees without the rules of the types that are not reached
--     reached_remains      a reached type is reached without them
-- where every type that stands in a content has a rule (`ruled`).
use Prim.Native.Nat.{ℕ}
use native.Mathlib.Omega.{arith}
use mathlib.Core.List.{List, [], map, Memᴰ}
use mathlib.Core.Logic.{◌↔◌}
use mathlib.Core.Path.{◌≡◌, sym, refl}
use lib.ListN.{length, length-map}
use Rattle.grammar.specs.Lists.{keep, is_in, joined_of}
use Rattle.grammar.specs.Content.{types_in}
use Rattle.grammar.specs.Tree.{Tree, Head}
use Rattle.grammar.specs.Table.{Rule, Table}
use Rattle.grammar.specs.Derivation.{Derives, Fits}
use Rattle.grammar.specs.Reduce.{newly_reached, reached, without_unreached}
use Rattle.theory.proofs.Lists.ListLaws.{kept, keep_mem, in_mem, mem_in, joined_from, joined_mem}
use Rattle.theory.proofs.Steps.Rounds.{not_known_lem, rounds_start, rounds_hold, rounds_closed, closed_has}
use Rattle.theory.proofs.Tables.CarryDerivations.{carry_tree}
use Rattle.theory.proofs.Tables.TableConditions.{Reaches, from_start, through, AllRuled}
use Rattle.theory.proofs.Contents.Standing.{StandsIn, word_stands}
use Rattle.theory.proofs.Tables.NamedLabels.{same_labels_named}

module _ (g : Table) where
  -- what a round finds: types, not known, that stand in the contents of known types
  record Found (known : List ℕ) (k : ℕ) : Type 0 where
    pub rule : Rule
    pub of_table : Memᴰ rule g.rules
    pub of_known : Memᴰ rule.type known
    pub standing : StandsIn k rule.content
    pub new : Memᴰ k known → ⊥

  newly_found : (known : List ℕ) (k : ℕ) → Memᴰ k (newly_reached g known) → Found known k
  unfolding newly_reached
  newly_found known k m =
      let rs = keep (λ (r : Rule). is_in r.type known) g.rules in
      let n = (not_known_lem known (joined_of (λ (r : Rule). types_in r.content) rs) k).0 m in
      let o = joined_from (λ (r : Rule). types_in r.content) rs n.0 in
      let p = kept (λ (r : Rule). is_in r.type known) g.rules o.1 in
      record { rule = o.0; of_table = p.0; of_known = in_mem o.0.type known p.1; standing = o.2; new = n.1 }

  found_newly : (known : List ℕ) (k : ℕ) → Found known k → Memᴰ k (newly_reached g known)
  unfolding newly_reached
  found_newly known k f =
      let rs = keep (λ (r : Rule). is_in r.type known) g.rules in
      let m = keep_mem (λ (r : Rule). is_in r.type known) f.of_table (mem_in f.of_known) in
      (not_known_lem known (joined_of (λ (r : Rule). types_in r.content) rs) k).1
      (joined_mem (λ (r : Rule). types_in r.content) m f.standing, f.new)

  -- the rules that remain
  pub rule_remains : (r : Rule) → Memᴰ r g.rules → Memᴰ r.type (reached g)
      → Memᴰ r (without_unreached g).rules
  unfolding without_unreached
  rule_remains r m p = keep_mem (λ (s : Rule). is_in s.type (reached g)) m (mem_in p)

  pub rule_was : (r : Rule) → Memᴰ r (without_unreached g).rules → Memᴰ r g.rules × Memᴰ r.type (reached g)
  unfolding without_unreached
  rule_was r m =
      let p = kept (λ (s : Rule). is_in s.type (reached g)) g.rules m in
      (p.0, in_mem r.type (reached g) p.1)

  labels_remain : g.labels ≡ (without_unreached g).labels
  unfolding without_unreached
  labels_remain = refl

  -- what fits without the unreached rules fits with them
  pub remaining_fits : {k : ℕ} {h : Head} {w : List ℕ} → Fits (without_unreached g) k h w → Fits g k h w
  remaining_fits f =
      record {
        rule = f.rule;
        of_table = (rule_was f.rule f.of_table).0;
        of_type = f.of_type;
        of_name = same_labels_named (sym labels_remain) f.of_name;
        of_text = f.of_text;
        word = f.word;
      }

  -- the start types are reached
  pub start_reached : (k : ℕ) → Memᴰ k g.starts → Memᴰ k (reached g)
  unfolding reached
  start_reached k m = rounds_start (newly_reached g) (length g.rules) g.starts k m

  module _ (ruled : AllRuled g) where
    reached_closed : newly_reached g (reached g) ≡ []
    unfolding reached
    reached_closed =
        rounds_closed (newly_reached g) (map (λ (r : Rule). r.type) g.rules) (λ known k m. (newly_found known k m).new)
        (λ known k m.
        let f = newly_found known k m in
        let r = ruled f.rule f.of_table k f.standing in
        mathlib.Core.List.Memᴰ.cast (sym r.of_type) (mathlib.Core.List.Memᴰ.map (λ (r : Rule). r.type) r.of_table))
        (length g.rules)
        g.starts
        (rw (length-map g.rules (λ (r : Rule). r.type)) (omega arith))

    -- what stands in the content of a reached type is reached
    pub reached_on : (r : Rule) (k : ℕ) → Memᴰ r g.rules → Memᴰ r.type (reached g) → StandsIn k r.content
        → Memᴰ k (reached g)
    reached_on r k m p s =
        closed_has (newly_reached g) (reached g) k reached_closed
        (λ n. found_newly (reached g) k (record { rule = r; of_table = m; of_known = p; standing = s; new = n }))

    reached_there : {k : ℕ} → Reaches g k → Memᴰ k (reached g)
    unfolding reached
    reached_there (from_start {k = k} m) = start_reached k m
    reached_there (through {r = r} {k = k} m p s) = reached_on r k m (reached_there p) s

    pub reached_is : (k : ℕ) → Memᴰ k (reached g) ↔ Reaches g k
    unfolding reached
    reached_is k = (
      λ m.
          rounds_hold (newly_reached g) (Reaches g)
          (λ known h l n.
          let f = newly_found known l n in
          through f.of_table (h f.rule.type f.of_known) f.standing)
          (length g.rules)
          g.starts
          (λ l n. from_start n)
          k
          m,
      reached_there,
    )

    pub reached_remains : {k : ℕ} → Reaches g k → Reaches (without_unreached g) k
    unfolding without_unreached
    reached_remains (from_start m) = from_start m
    reached_remains (through {r = r} m p s) = through (rule_remains r m (reached_there p)) (reached_remains p) s

    pub reached_trees : (k : ℕ) (t : Tree) → Memᴰ k (reached g) → Derives g k t ↔ Derives (without_unreached g) k t
    reached_trees k t p = (
      λ d.
          carry_tree g (without_unreached g) (λ l. Memᴰ l (reached g))
          (λ l n w ts q f a.
          let m : Memᴰ f.rule.type (reached g) = mathlib.Core.List.Memᴰ.cast f.of_type q in (
            record {
              rule = f.rule;
              of_table = rule_remains f.rule f.of_table m;
              of_type = f.of_type;
              of_name = same_labels_named labels_remain f.of_name;
              of_text = f.of_text;
              word = f.word;
            },
            λ x i. reached_on f.rule x f.of_table m (word_stands f.rule.content w f.word x i),
          ))
          d
          p,
      λ d. carry_tree (without_unreached g) g (λ l. Unit {0}) (λ l h w ts q f a. (remaining_fits f, λ x i. tt)) d tt,
    )
