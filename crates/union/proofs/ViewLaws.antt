-- Laws of the united view: the rule of a number (`seen`), its content (`content_is`), where a rule of the table stands
-- (`rule_seen`), a content in its source (`source_so`, `source_there`, `source_has`, `addition_has`), and its tag (`tag_so`).
use Prim.Native.Nat.{◌≤◌, ℕ, ◌+◌, ◌-◌, ◌/◌, ◌%◌, ◌<◌}
use native.Mathlib.Omega.{arith}
use mathlib.Core.Bool.{Bool}
use mathlib.Core.List.{List, Memᴰ}
use mathlib.Core.Option.{some as just}
use mathlib.Core.Path.{◌≡◌, sym, ◌∙◌, ap, ap₂, subst, fun_ext}
use lib.ListN.{length, get_or, get_elem?, take, drop}
use Rattle.grammar.specs.Limits.{large}
use Rattle.grammar.specs.Content.{Content}
use Rattle.grammar.specs.Table.{Rule, Table}
use Rattle.grammar.specs.Unite.{shifted}
use Rattle.theory.specs.Alternatives.{has_alts}
use Rattle.theory.proofs.Lists.ListLaws.{mem_at, at_below, below_at}
use Rattle.theory.proofs.Emission.AlternativeLaws.{has_renamed}
use Rattle.sets.specs.Sets.{bit_of, member}
use Rattle.reader.specs.FieldAt.{TagBefore}
use Rattle.reader.specs.ExprAt.{◌up_to◌, expr_at}
use Rattle.union.specs.declared.united.United.{United}
use Rattle.reader.specs.ContentAt.{ContentAt}
use Rattle.union.specs.Walks.{has_at}
use Rattle.union.specs.View.{SourceContent, from_in, to_in, shifted_content, RuleSeen, Views, Viewed}
use Rattle.reader.proofs.ContentAtLaws.{placed_of}
use Rattle.union.specs.Rounds.{content_of_rule}

pub content_is : (u : Table) (i : ℕ) (r : Rule) → get_elem? u.rules i ≡ just r → content_of_rule u i ≡ r.content
unfolding content_of_rule
content_is u i r e = rw (e, content_of_rule)

module _ {old add : List ℕ} {v : United} {u : Table} (x : Views old add v u) where
  pub seen : (i : ℕ) → i < v.rules → (r : Rule) × (get_elem? u.rules i ≡ just r) × RuleSeen old add v u i r
  seen i h =
      let p = below_at u.rules i (omega (arith, x.rules)) in
      (p.0, p.1, x.rule i p.0 p.1)

  pub rule_seen : (r : Rule) → Memᴰ r u.rules → (i : ℕ) × (i < v.rules) × (get_elem? u.rules i ≡ just r) × RuleSeen old add v u i r
  rule_seen r m =
      let p = mem_at m in
      let h = at_below u.rules p.0 p.1 in
      (p.0, omega (arith, x.rules), p.1, x.rule p.0 r p.1)

-- the content of a rule stands within the bytes of its own table
module _ {old add : List ℕ} {v : United} (w : Viewed old add v) (i : ℕ) (h : i < v.rules) where
  pub old_order : i < v.old_rules → from_in v i ≤ to_in v i
  old_order o = ((seen w.views i h).2.in_old o).order

  pub old_within : i < v.old_rules → to_in v i ≤ length old
  old_within o = ((seen w.views i h).2.in_old o).within

  pub added_order : v.old_rules ≤ i → from_in v i ≤ to_in v i
  added_order o = ((seen w.views i h).2.in_addition o).stands.order

  pub added_within : v.old_rules ≤ i → to_in v i ≤ length add
  added_within o = ((seen w.views i h).2.in_addition o).stands.within

-- a content in its source
pub source_so : {s : List ℕ} {from from' to to' : ℕ} {c : Content} → from ≡ from' → to ≡ to' → SourceContent s from to c
    → SourceContent s from' to' c
source_so {s} {from} {from'} {to} {to'} {c} p q x =
    subst (λ (t : ℕ). SourceContent s from' t c) q (subst (λ (f : ℕ). SourceContent s f to c) p x)

-- a rule's tag before its content
pub tag_so : {s : List ℕ} {from from' tag : ℕ} → from ≡ from' → TagBefore s (from - 2) tag → TagBefore s (from' - 2) tag
tag_so {s} {tag = tag} p x = subst (λ (f : ℕ). TagBefore s (f - 2) tag) p x

module _ {s : List ℕ} {from to : ℕ} {c : Content} (x : SourceContent s from to c) where
  pub source_there : ContentAt large (take (to - from) (drop from s)) 0
  source_there = record { content = c; next = to - from; stands = x.stands; proper = x.proper }

  pub source_has : (test : ℕ → Bool) (b : Bool) (n : ℕ) → has_at test (take (to - from) (drop from s)) 0 ≡ just (b up_to n)
      → b ≡ has_alts test c
  source_has test b n e = (placed_of (has_alts test) (expr_at (take (to - from) (drop from s)) 0) x.stands e).0

-- the addition's types stand four words further on
pub addition_has : (words : List ℕ) (c : Content) → has_alts (member words 4) c ≡ has_alts (member words 0) (shifted_content c)
unfolding member shifted large
addition_has words c =
    ap (λ test. has_alts test c)
    (fun_ext (λ k.
    let word : 4 + k / 32 ≡ 0 + (128 + k) / 32 = omega arith in
    let bit : k % 32 ≡ (128 + k) % 32 = omega arith in
    ap₂ (λ (i j : ℕ). bit_of (get_or words i 0) j) word bit))
    ∙ sym (has_renamed (shifted large) (member words 0) c)
