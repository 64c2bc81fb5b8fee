-- Widening by stages: the stages don't matter. What is proved stands in crates/theory/specs/StageLaws.antt:
--     stages_theorem : StageLaws lim classes kind
-- for either kind, all limits and all classes. All of it follows from demand 3 as the calls promise it: no step of widening is looked at.
use Prim.Native.Nat.{ℕ}
use mathlib.Core.List.Memᴰ
use mathlib.Core.List.{
  List,
  [],
  ◌∷◌,
  ◌++◌,
  Memᴰ,
}
use mathlib.Core.Logic.Iff
use mathlib.Core.Logic.{◌↔◌, ◌⊎◌, inl, inr, ⊎_elim, ⊎_map, ⊎_swap}
use mathlib.Core.Path.{refl, subst}
use Rattle.grammar.specs.Limits.{Limits}
use Rattle.grammar.specs.Names.{Classes}
use Rattle.grammar.specs.Tree.{Tree}
use Rattle.grammar.specs.Kinds.{Kind}
use Rattle.grammar.specs.Stages.{
  Input,
  LetInBy,
  AddedBy,
  DocumentOf,
  Widens,
  Stages,
  first,
  next,
  OpeningOrAdded,
  ReadsLeast,
}
use Rattle.theory.specs.StageLaws.{StageLaws}
use Rattle.theory.proofs.Theorems.WidenedBytes.{
  either,
  table_adds,
  document_adds,
  empty_adds_none,
  reads_inclusive,
  reads_alike,
  reads_over,
  reads_further,
  widens_least,
  widens_keep,
  already_wide,
}

module _ (lim : Limits) (classes : Classes) (kind : Kind) where
  -- the documents of one input, and of one input more
  one_input : (opening : List ℕ) (input : Input) (d : Tree)
      → (LetInBy lim classes opening d ⊎ AddedBy lim classes input d) ↔ OpeningOrAdded lim classes opening (input ∷ []) d
  one_input opening input d = (
    ⊎_map (λ l. l) (λ l. (input, Memᴰ.head refl, l)),
    ⊎_map (λ l. l) (λ (i, m, l). subst (λ (j : Input). AddedBy lim classes j d) (Memᴰ.eq_of_singleton m) l),
  )

  one_more : (opening : List ℕ) (inputs : List Input) (input : Input) (d : Tree)
      → (OpeningOrAdded lim classes opening inputs d ⊎ AddedBy lim classes input d)
      ↔ OpeningOrAdded lim classes opening (inputs ++ input ∷ []) d
  one_more opening inputs input d = (
    ⊎_elim (⊎_map (λ l. l) (λ (i, m, l). (i, Memᴰ.append_left (input ∷ []) m, l)))
        (λ l. inr (input, Memᴰ.append_right inputs (Memᴰ.head refl), l)),
    ⊎_elim (λ l. inl (inl l))
        (λ (i, m, l).
        ⊎_elim (λ m'. inl (inr (i, m', l)))
        (λ m'. inr (subst (λ (j : Input). AddedBy lim classes j d) (Memᴰ.eq_of_singleton m') l))
        (Memᴰ.append_cases inputs m)),
  )

  -- After any number of stages the last table is least over the opening table and all additions,
  stages_least : {opening last : List ℕ} {inputs : List Input} → Stages lim classes kind opening inputs last
      → ReadsLeast lim classes kind (OpeningOrAdded lim classes opening inputs) last
  stages_least {opening} {last} (first {input = input} w) =
      reads_over lim classes kind last (widens_least lim classes kind w) (one_input opening input)
  stages_least {opening} {last} (next {inputs = inputs} {input = input} {before = before} s w) =
      reads_over lim classes kind last
      (reads_further lim classes kind before last (stages_least s) (widens_least lim classes kind w))
      (one_more opening inputs input)

  -- and lets in each added document itself.
  stages_keep : {opening last : List ℕ} {inputs : List Input} → Stages lim classes kind opening inputs last → (input : Input)
      → Memᴰ input inputs → (d : Tree) → DocumentOf lim classes input d → LetInBy lim classes last d
  stages_keep (first w) input m d l =
      widens_keep lim classes kind w d (inr (subst (λ (j : Input). DocumentOf lim classes j d) (Memᴰ.eq_of_singleton m) l))
  stages_keep (next {inputs = inputs} s w) input m d l =
      widens_keep lim classes kind w d
      (⊎_map (λ m'. stages_keep s input m' d l)
      (λ m'. subst (λ (j : Input). DocumentOf lim classes j d) (Memᴰ.eq_of_singleton m') l)
      (Memᴰ.append_cases inputs m))

  -- two widenings, one after the other
  two_widenings : {old after_a after_ab : List ℕ} {A B : Input} → Widens lim classes kind old A after_a
      → Widens lim classes kind after_a B after_ab
      → ReadsLeast lim classes kind (λ d. LetInBy lim classes old d ⊎ (AddedBy lim classes A d ⊎ AddedBy lim classes B d)) after_ab
  two_widenings {after_a = after_a} {after_ab = after_ab} w w' =
      reads_over lim classes kind after_ab
      (reads_further lim classes kind after_a after_ab (widens_least lim classes kind w) (widens_least lim classes kind w'))
      (λ d. (⊎_elim (⊎_map (λ l. l) inl) (λ l. inr (inr l)), ⊎_elim (λ l. inl (inl l)) (⊎_map inr (λ l. l))))

  pub stages_theorem : StageLaws lim classes kind
  stages_theorem =
      record {
        either_order = λ {after_ab = after_ab} {after_ba = after_ba} a ab b ba.
            reads_alike lim classes kind after_ab after_ba (two_widenings a ab) (two_widenings b ba) (λ d. either Iff.rfl (⊎_swap, ⊎_swap));
        at_once = λ {after_ab = after_ab} {C = C} {after_c = after_c} a ab c same.
            reads_alike lim classes kind after_ab after_c (two_widenings a ab) (widens_least lim classes kind c)
            (λ d. either Iff.rfl (Iff.symm (Iff.trans (table_adds lim classes C d) (same d))));
        by_empty_table = λ w e.
            let r = widens_least lim classes kind w in
            already_wide lim classes kind e (record { thing = r.thing; was_given = r.was_given; is = r.is.of_kind })
            (λ d l. absurd (empty_adds_none lim classes d l));
        wider_old = λ {result = result} {result' = result'} w w' all.
            reads_inclusive lim classes kind result result' (widens_least lim classes kind w) (widens_least lim classes kind w')
            (λ d. ⊎_map (all d) (λ l. l));
        table_adds = table_adds lim classes;
        document_adds = document_adds lim classes;
        as_its_sample = λ {sample = sample} {result = result} {result' = result'} s w w'.
            reads_alike lim classes kind result result' (widens_least lim classes kind w) (widens_least lim classes kind w')
            (λ d. either Iff.rfl (Iff.trans (document_adds lim classes s d) (Iff.symm (table_adds lim classes sample d))));
        any_number = stages_least;
        documents_kept = stages_keep;
        same_stages = λ {last = last} {last' = last'} s s'.
            reads_alike lim classes kind last last' (stages_least s) (stages_least s');
      }
