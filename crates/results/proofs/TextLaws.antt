-- The pairs for text, as a program finds them from the view of a union:
--   marking_rule   a rule for text whose content has alternatives over the types listed marks its pair, and plain_rule: no other does
--   text_pairs     the pairs of the rules that mark them
--   any_numbered     what `any` over the numbers below n answers
use Prim.Native.Nat.{ℕ, zero, suc, ◌+◌, ◌<◌}
use native.Mathlib.Omega.{arith}
use mathlib.Core.Bool.{Bool, true, false, ◌&&◌, ◌||◌, false≢true}
use mathlib.Core.List.{List}
use mathlib.Core.Logic.{⊎_elim}
use mathlib.Core.Option.{some as just}
use mathlib.Core.Path.{◌≡◌, refl, sym, ◌∙◌, ap, fun_ext}
use denote.Param.Members.{Mut}
use lib.Dec.{eqb, ltb}
use lib.ListN.{get_elem?}
use borrow.Author.Tests.{eqb-true, eq-eqb, ltb-true, ltb-false}
use Rattle.std.proofs.lemmas.Iterator.{YieldsList-from_range}
use Rattle.std.proofs.lemmas.Iterator.Search.{any_from_yields_List}
use Rattle.std.proofs.iter.Yields.{nat_range_steps}
use Rattle.std.specs.declared.option.Option.{Option}
use Rattle.std.specs.Fn.{Called}
use Rattle.std.specs.Iterator.{YieldsThen}
use Rattle.std.specs.List.{FoldsTo, list_any, range_with_len}
use Rattle.std.specs.Option.{MatchOption}
use Rattle.grammar.specs.Lists.{any_pass, numbers_from, numbers_below}
use Rattle.grammar.specs.Limits.{large}
use Rattle.grammar.specs.Table.{Rule, Table}
use Rattle.grammar.specs.Unite.{shifted}
use Rattle.grammar.specs.Normalise.{pair_of, pairs_of, normalise}
use Rattle.grammar.specs.Reduce.{fruitful}
use Rattle.theory.specs.Alternatives.{has_alts, has_left, some_left}
use Rattle.theory.proofs.Lists.BoolLaws.{and_left, and_right, and_intro, same_test}
use Rattle.theory.proofs.Lists.ListLaws.{any_of, any_found, at_mem, at_else}
use Rattle.theory.proofs.Emission.AlternativeLaws.{some_pairs, has_renamed}
use Rattle.sets.specs.Sets.{nothing}
use Rattle.emitting.proofs.SourceLaws.{has_agrees}
use Rattle.union.specs.declared.united.United.{United}
use Rattle.union.specs.View.{first_in, Views, RuleSeen}
use Rattle.union.specs.Rounds.{puts, content_of_rule}
use Rattle.union.specs.PairNumbers.{no_rule, rule_numbered, fruitful_of, is_marking, is_text}
use Rattle.union.proofs.PutsLaws.{puts_was, puts_has}
use Rattle.union.proofs.ViewLaws.{content_is, seen, rule_seen}

module _ {old add : List ℕ} {v : United} {u : Table} (x : Views old add v u) where
  number_is : (i : ℕ) (r : Rule) → get_elem? u.rules i ≡ just r → rule_numbered u i ≡ r
  number_is i r e = at_else u.rules i no_rule e

  module _ (test : ℕ → Bool) (typed : (k : ℕ) → k < 256 → test k ≡ some_left (fruitful_of u) k) where
    abbrev left : ℕ → Bool
    left = has_left (pairs_of u) (fruitful (normalise u))

    agrees : (k : ℕ) → k < 256 → test k ≡ left k
    agrees k h = typed k h ∙ ap (λ (f : ℕ → Bool). f k) (some_pairs (pairs_of u) (fruitful (normalise u)))

    -- the content of a rule has alternatives over the types listed just where it has over the fruitful pairs
    same_alts : (i : ℕ) → i < v.rules → has_alts test (content_of_rule u i) ≡ has_alts left (rule_numbered u i).content
    unfolding large shifted
    same_alts i h =
        let (r, at, s) = seen x i h in
        ap (has_alts test) (content_is u i r at)
        ∙ go r s (ltb i v.old_rules) refl
        ∙ ap (λ (q : Rule). has_alts left q.content) (sym (number_is i r at))
      where
        go : (r : Rule) → RuleSeen old add v u i r → (b : Bool) → ltb i v.old_rules ≡ b
            → has_alts test r.content ≡ has_alts left r.content
        go r s true e =
            has_agrees large test left (λ k b. agrees k (omega arith)) r.content (s.in_old (ltb-true i v.old_rules e)).proper
        go r s false e =
            let f = s.in_addition (ltb-false i v.old_rules e) in
            ap (has_alts test) f.same
            ∙ has_renamed (shifted large) test f.source
            ∙ has_agrees large (λ k. test (shifted large k)) (λ k. left (shifted large k)) (λ k b. agrees (128 + k) (omega arith))
            f.source
            f.stands.proper
            ∙ sym (ap (has_alts left) f.same ∙ has_renamed (shifted large) left f.source)

    pub marking_rule : (i : ℕ) → i < v.rules → (has : Bool) → has ≡ has_alts test (content_of_rule u i)
        → (rule_numbered u i).text ≡ true → has ≡ is_marking u (rule_numbered u i)
    unfolding is_marking
    marking_rule i h has e t =
        e ∙ same_alts i h ∙ sym (ap (λ (b : Bool). b && has_alts left (rule_numbered u i).content) t)

  pub plain_rule : (i : ℕ) → (rule_numbered u i).text ≡ false → false ≡ is_marking u (rule_numbered u i)
  unfolding is_marking
  plain_rule i t =
      sym
      (ap
      (λ (b : Bool). b && has_alts (has_left (pairs_of u) (fruitful (normalise u))) (rule_numbered u i).content)
      t)

  pub text_pairs : puts (λ i. is_marking u (rule_numbered u i)) (first_in v) nothing v.rules ≡ is_text u
  unfolding is_text
  text_pairs =
      fun_ext
      (λ p.
      same_test (puts marking (first_in v) nothing v.rules p) (any_pass (of_pair p) u.rules) (
        λ e.
            ⊎_elim
            (λ b. absurd (false≢true b))
            (λ q.
            let (r, at, s) = seen x q.number q.below in
            any_of (of_pair p) (at_mem u.rules q.number at)
            (and_intro (eqb (pair_of u r) p) (is_marking u r) (eq-eqb (pair_of u r) p (sym s.first ∙ q.keyed))
            (ap (is_marking u) (sym (number_is q.number r at)) ∙ q.is_on)))
            (puts_was marking (first_in v) nothing v.rules p e),
        λ e.
            let (r, m, on) = any_found (of_pair p) u.rules e in
            let (i, b, at, s) = rule_seen x r m in
            let same = eqb-true (pair_of u r) p (and_left (eqb (pair_of u r) p) (is_marking u r) on) in
            ap (puts marking (first_in v) nothing v.rules) (sym (s.first ∙ same))
            ∙ puts_has marking (first_in v) nothing v.rules i b
            (ap (is_marking u) (number_is i r at) ∙ and_right (eqb (pair_of u r) p) (is_marking u r) on),
      ))
    where
      marking : ℕ → Bool
      marking i = is_marking u (rule_numbered u i)

      of_pair : ℕ → Rule → Bool
      of_pair p r = eqb (pair_of u r) p && is_marking u r

any_from : (test : ℕ → Bool) (from n : ℕ) → list_any test (range_with_len from n) ≡ any_pass test (numbers_from from n)
unfolding any_pass numbers_from
any_from test from zero = refl
any_from test from (suc n) =
    let next : from + 1 ≡ suc from = omega arith in
    ap (λ (b : Bool). test from || b) (ap (λ (k : ℕ). list_any test (range_with_len k n)) next ∙ any_from test (suc from) n)

pub any_numbered : (test : ℕ → Bool) {F : Type 0} {g : Mut F (ℕ × Unit {0}) Bool} {s : _} (n : ℕ) (u : _) (f : F) (r : Bool)
    → (xs : List ℕ) × (o : Option ℕ) × (j : F) × YieldsThen nat_range_steps s xs o u × FoldsTo (λ p x q. Called g p (x, tt) false q) f xs j
    × MatchOption o (r ≡ false) (λ x. (r ≡ true) × ((h : F) × Called g j (x, tt) true h))
    → s ≡ record { start = 0; end = n } → ((x : ℕ) (b : Bool) (q : F) → Called g f (x, tt) b q → (q ≡ f) × (b ≡ test x))
    → r ≡ any_pass test (numbers_below n)
unfolding numbers_below
any_numbered test n u f r ran from calls =
    any_from_yields_List test u f r ran (YieldsList-from_range 0 n n from (omega arith)) calls ∙ any_from test 0 n
