-- Widening one table by another, by sets of pairs:
--   none_derived   where no start pair is fruitful, no document is derived
--   too_many       where there are more sets than the limit on types, the result is too large
--   put_widens     where the table by sets is drafted, it is the result; where it cannot be, the result is too large
use Prim.Native.Nat.{ℕ, ◌+◌, ◌≤◌, ◌<◌}
use native.Mathlib.Omega.{arith}
use mathlib.Core.Bool.{Bool, true, false}
use mathlib.Core.List.Memᴰ
use mathlib.Core.List.{List, [], ◌∷◌, Memᴰ}
use mathlib.Core.Logic.{inl, inr}
use mathlib.Core.Path.{◌≡◌, refl, sym, ◌∙◌, ap, subst}
use lib.Dec.{eqb}
use borrow.Author.Tests.{eq-eqb, not-true}
use lib.ListN.{length}
use Rattle.grammar.specs.Lists.{is_in, numbers_below}
use Rattle.grammar.specs.Limits.{Limits, large}
use Rattle.grammar.specs.LimitSets.{limits_of}
use Rattle.grammar.specs.declared.SizeLimits.{SizeLimits}
use Rattle.grammar.specs.Table.{Rule, Table}
use Rattle.grammar.specs.Kinds.{Kind}
use Rattle.std.specs.Prelude.{Err, Ok, Result}
use Rattle.grammar.specs.ReadTable.{is_empty}
use Rattle.grammar.specs.WithinLimits.{TableWithin}
use Rattle.grammar.specs.WriteTable.{table_bytes}
use Rattle.grammar.specs.Size.{content_too_large}
use Rattle.grammar.specs.Unite.{unite}
use Rattle.grammar.specs.Normalise.{normalise}
use Rattle.grammar.specs.Reduce.{without_unfruitful, without_unreached, reduce}
use Rattle.grammar.specs.UsedLabels.{with_used_labels}
use Rattle.grammar.specs.Tidy.{tidy_table}
use Rattle.grammar.specs.Widen.{form, reduced_union, of_size, widen_by_table}
use Rattle.grammar.specs.declared.Refusal.TheVariants.{ResultTooLarge, NoDocument}
use Rattle.grammar.specs.declared.TooLarge.{TooLarge}
use Rattle.theory.specs.Conditions.{all_letters}
use Rattle.theory.proofs.Lists.BoolLaws.{or_left}
use Rattle.theory.proofs.Lists.ListLaws.{mem_some, in_mem, numbers_below_lem}
use Rattle.theory.proofs.Bytes.OutcomeLaws.{no_fault}
use Rattle.theory.proofs.Steps.ShiftedTypes.{same_reduced_union}
use Rattle.theory.proofs.Tables.RoomierLimits.{within_large}
use Rattle.theory.proofs.Tables.TableConditions.{within_below}
use Rattle.sets.specs.Sets.{nothing}
use Rattle.union.specs.PairNumbers.{is_start}
use Rattle.writer.specs.Tables.{TablePut}
use Rattle.writer.proofs.TableSize.{size_over, size_fits, content_over, bytes_over, all_fit}
use Rattle.forms.specs.SetForms.{rule_by_set, pairs_within, sets_of, table_of}
use Rattle.forms.proofs.UnionFit.{UnionFit, union_fit}
use Rattle.forms.proofs.WidenedBySets.{table_of_kind, rules_of_kind, rule_count, too_many_sets}
use Rattle.steps.specs.Widened.{made_of, Widens}

-- a list that has nothing
nothing_in : (xs : List ℕ) → (λ p. is_in p xs) ≡ nothing → xs ≡ []
unfolding is_in
nothing_in [] e = refl
nothing_in (x ∷ xs) e =
    let t : is_in x (x ∷ xs) ≡ true = or_left (eqb x x) (is_in x xs) (eq-eqb x x refl) in
    let f : is_in x (x ∷ xs) ≡ false = ap (λ (test : ℕ → Bool). test x) e in
    let z : ◌≡◌ {A = Bool} true false = sym t ∙ f in
    let y : ◌≡◌ {A = ℕ} 0 1 = cc in
    absurd (omega arith)

module _ (l : SizeLimits) (g h : Table) (g_within : TableWithin (limits_of l) all_letters g)
    (h_within : TableWithin (limits_of l) all_letters h) where
  abbrev lim : Limits
  lim = limits_of l

  -- the union as the program has it: its normal form does not depend on the limit on types
  abbrev u : Table
  u = unite large g h

  fit : UnionFit lim u
  fit = union_fit lim (within_large l) g h g_within h_within

  same_union : reduced_union lim g h ≡ reduce (normalise u)
  unfolding reduced_union
  same_union = same_reduced_union lim large g h (within_large l).types (within_below lim all_letters g g_within)

  starts_same : (reduced_union lim g h).starts ≡ (without_unfruitful (normalise u)).starts
  unfolding reduce without_unreached
  starts_same = ap (λ (t : Table). t.starts) same_union

  pub none_derived : (kind : Kind) → is_start u ≡ nothing → widen_by_table lim kind g h ≡ Err NoDocument
  unfolding widen_by_table
  none_derived kind e = rw (starts_same ∙ nothing_in (without_unfruitful (normalise u)).starts e) refl

  module _ (kind : Kind) (p : ℕ) (some : is_start u p ≡ true) where
    sized : widen_by_table lim kind g h ≡ of_size lim (table_of lim kind u)
    unfolding widen_by_table
    sized =
        let starts = (without_unfruitful (normalise u)).starts in
        no_fault _ NoDocument _
        (ap is_empty starts_same ∙ not-true (is_empty starts) (mem_some (in_mem p starts some)))
        ∙ ap (λ (t : Table). of_size lim (tidy_table (with_used_labels (form lim kind t)))) same_union
        ∙ ap (of_size lim) (table_of_kind u fit kind)

    pub too_many : l.rules < length (sets_of lim kind u) → widen_by_table lim kind g h ≡ Err ResultTooLarge
    too_many few = sized ∙ size_over l (table_of lim kind u) (too_many_sets u fit kind few)

    abbrev rule : ℕ → Rule
    rule = rule_by_set u (sets_of lim kind u) (pairs_within kind u)

    abbrev count : ℕ
    count = length (sets_of lim kind u)

    rule_there : (i : ℕ) → i < count → Memᴰ (rule i) (table_of lim kind u).rules
    rule_there i b =
        subst (λ (rs : List Rule). Memᴰ (rule i) rs) (sym (rules_of_kind u fit kind))
        (Memᴰ.map rule ((numbers_below_lem count i).1 b))

    there_rule : (r : Rule) → Memᴰ r (table_of lim kind u).rules → (i : ℕ) × (i < count) × (rule i ≡ r)
    there_rule r m =
        let n = Memᴰ.of_map rule (numbers_below count) (subst (λ (rs : List Rule). Memᴰ r rs) (rules_of_kind u fit kind) m) in
        (n.0, (numbers_below_lem count n.0).0 n.1, n.2)

    pub put_widens : count ≤ l.rules → (before after : List ℕ) (r : Result ℕ TooLarge)
        → TablePut before 0 rule count (table_bytes (table_of lim kind u)) after r → Widens lim kind g h before after (made_of r)
    unfolding Widens made_of
    put_widens few before after (Ok n) (put, small, fits) =
        let z : 0 + length (table_bytes (table_of lim kind u)) ≡ length (table_bytes (table_of lim kind u)) = omega arith in
        let long : n ≡ length (table_bytes (table_of lim kind u)) = put.next_is ∙ z in
        let many = rule_count u fit kind in
        record {
          result = table_of lim kind u;
          widened =
              sized
              ∙ size_fits l (table_of lim kind u)
              (all_fit l (table_of lim kind u) (omega arith)
              (λ r m.
              let t = there_rule r m in
              subst (λ (x : Rule). content_too_large large x.content ≡ false) t.2 (fits t.0 t.1))
              (omega arith));
          size = long;
          small = small;
          bytes = put.is;
        }
    put_widens few before after (Err over) (inl x) = sized ∙ size_over l (table_of lim kind u) (content_over l (table_of lim kind u) (rule_there x.0 x.1) x.2)
    put_widens few before after (Err over) (inr x) = sized ∙ size_over l (table_of lim kind u) (bytes_over l (table_of lim kind u) (omega arith))
