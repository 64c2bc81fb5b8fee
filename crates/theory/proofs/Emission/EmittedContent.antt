-- What stands in a content of the result, straight from the source contents. For any pairs of source types, any known (fruitful)
-- pairs and any result type of a pair:
--   emitted      one source content, in normal form, pruned, with result types for pairs, tidied:
--                  tidy (retyped target (prune known (in_pairs_of pairs c))) ≡ written (alts (results_of pairs known target) c)
--   emitted_pair the source contents of one pair, joined by choice: the same of their joined alternatives
--   emitted_rule a rule of the result, the choice of the contents of some pairs: the same of all their source contents in order,
--                provided that each pair has alternatives (as a fruitful one does: among several a none would stay as an operand)
-- `one_content []` is none, so in the first two a content that reducing leaves as none comes out as none.
use Prim.Native.Nat.{ℕ}
use mathlib.Core.Bool.{Bool, true, false, not, ◌||◌}
use mathlib.Core.List.{
  List,
  [],
  ◌∷◌,
  ◌++◌,
  map,
  map-map,
  Memᴰ,
  Forall₂,
}
use mathlib.Core.Path.{◌≡◌, refl, sym, ◌∙◌, ap, ap₂, subst, subst₂}
use borrow.Author.Tests.{not-true}
use Rattle.grammar.specs.Lists.{any_pass, keep, distinct, joined_of, is_in}
use Rattle.grammar.specs.Content.{
  Content,
  none,
  empty,
  type,
  sequence,
  choice,
  any_number,
  one_or_more,
  optional,
  Contents,
  []ᶜ,
  ◌∷ᶜ◌,
  operands,
  choice_of,
  replace,
  replace_all,
}
use Rattle.grammar.specs.ReadContent.{same_content}
use Rattle.grammar.specs.ReadTable.{is_empty}
use Rattle.grammar.specs.Reduce.{is_none, simplify, simplify_all, prune}
use Rattle.grammar.specs.Tidy.{alternatives, tidy, tidy_all}
use Rattle.theory.specs.Alternatives.{
  one_content,
  around,
  in_sequence,
  alts,
  alts_of_each,
  only_if,
  results_of,
  has_alts,
  all_have_alts,
  has_left,
}
use Rattle.theory.proofs.Lists.ListLaws.{keep_yes, keep_no, kept, joined_append}
use Rattle.theory.proofs.Contents.ReplaceLaws.{replace_twice}
use Rattle.theory.proofs.Contents.ContentBytes.{same_content_lem}
use Rattle.theory.proofs.Lists.DistinctLaws.{distinct_again, distinct_join}
use Rattle.theory.proofs.Emission.AlternativeLaws.{
  in_pairs_of,
  retyped,
  one_empty,
  some_results,
  all_productive,
  sequence_none,
  sequence_some,
}
use Rattle.theory.proofs.Emission.ChoiceLaws.{
  not_none,
  Single,
  single_append,
  single_one,
  single_distinct,
  alternatives_choice,
  replace_choice,
  simplify_choice,
  tidy_choice,
}

alternatives_written : (x : Content) (xs : List Content) → Single (x ∷ xs)
    → alternatives (one_content (x ∷ xs)) ≡ distinct same_content (x ∷ xs)
unfolding one_content
alternatives_written x xs p =
    alternatives_choice x (keep (λ y. not (same_content x y)) (distinct same_content xs)) (single_distinct (x ∷ xs) p)

-- an operator of one operand
record Wraps (f : Content → Content) : Type 0 where
  never_none : (c : Content) → is_none (f c) ≡ false
  replaced : (c : Content) (h : ℕ → Content) → replace (f c) h ≡ f (replace c h)
  tidied : (c : Content) → tidy (f c) ≡ f (tidy c)
  alone : (c : Content) → alternatives (f c) ≡ f c ∷ []

wraps_any_number : Wraps any_number
unfolding is_none replace tidy
wraps_any_number = record { never_none = λ c. refl; replaced = λ c h. refl; tidied = λ c. refl; alone = λ c. refl }

wraps_one_or_more : Wraps one_or_more
unfolding is_none replace tidy
wraps_one_or_more = record { never_none = λ c. refl; replaced = λ c h. refl; tidied = λ c. refl; alone = λ c. refl }

wraps_optional : Wraps optional
unfolding is_none replace tidy
wraps_optional = record { never_none = λ c. refl; replaced = λ c h. refl; tidied = λ c. refl; alone = λ c. refl }

-- a content, or another in its place
abbrev pub unless : Bool → Content → Content → Content
unless b other c = elim b as (λ x. Content) [ true ↦ other | false ↦ c ]

module _ (target : ℕ → ℕ) where
  -- a pruned content, and the alternatives that it gives
  pub record Gives (x : Content) (us : List Content) : Type 0 where
    pub none_if : is_none x ≡ is_empty us
    pub tidied : tidy (retyped target x) ≡ one_content us
    pub single : Single us

  abbrev GivesEach : List Content → List (List Content) → Type 0
  GivesEach xs uss = Forall₂ Gives xs uss

  gives_none : Gives none []
  unfolding is_none replace tidy one_content
  gives_none = record { none_if = refl; tidied = refl; single = λ x m. elim m [ ] }

  gives_empty : Gives empty (empty ∷ [])
  unfolding is_none replace tidy one_content
  gives_empty = record { none_if = refl; tidied = refl; single = single_one empty refl }

  gives_type : (p : ℕ) → Gives (type p) (type (target p) ∷ [])
  unfolding is_none replace tidy one_content
  gives_type p = record { none_if = refl; tidied = refl; single = single_one (type (target p)) refl }

  -- an operator around an operand; other where the operand is none
  gives_around : (f : Content → Content) → Wraps f → (other : Content) (others : List Content) → Gives other others
      → (x : Content) (us : List Content) → Gives x us → Gives (unless (is_none x) other (f x)) (around f others us)
  unfolding around one_content
  gives_around f w other others q x [] g = subst (λ (b : Bool). Gives (unless b other (f x)) others) (sym g.none_if) q
  gives_around f w other others q x (u ∷ us) g =
      subst (λ (b : Bool). Gives (unless b other (f x)) (f (one_content (u ∷ us)) ∷ [])) (sym g.none_if)
      (record {
        none_if = w.never_none x;
        tidied =
            ap tidy (w.replaced x (λ p. type (target p))) ∙ w.tidied (retyped target x) ∙ ap f g.tidied;
        single = single_one (f (one_content (u ∷ us))) (w.alone (one_content (u ∷ us)));
      })

  -- a sequence; none where an operand is none
  each_none : {xs : List Content} {uss : List (List Content)} → GivesEach xs uss → any_pass is_none xs ≡ any_pass is_empty uss
  unfolding any_pass
  each_none Forall₂.nil = refl
  each_none (Forall₂.cons g gs) = ap₂ ◌||◌ g.none_if (each_none gs)

  each_tidied : {xs : List Content} {uss : List (List Content)} → GivesEach xs uss
      → tidy_all (replace_all (operands xs) (λ p. type (target p))) ≡ map one_content uss
  unfolding operands replace tidy
  each_tidied Forall₂.nil = refl
  each_tidied (Forall₂.cons g gs) = ap₂ ◌∷◌ g.tidied (each_tidied gs)

  whole_sequence : (xs : List Content) (uss : List (List Content)) → GivesEach xs uss
      → Gives (sequence (operands xs)) (sequence (operands (map one_content uss)) ∷ [])
  unfolding is_none replace tidy one_content
  whole_sequence xs uss gs =
      record {
        none_if = refl;
        tidied = ap (λ (l : List Content). sequence (operands l)) (each_tidied gs);
        single = single_one (sequence (operands (map one_content uss))) refl;
      }

  gives_sequence : (xs : List Content) (uss : List (List Content)) → GivesEach xs uss
      → Gives (unless (any_pass is_none xs) none (sequence (operands xs))) (in_sequence uss)
  gives_sequence xs uss gs =
      subst (λ (b : Bool). Gives (unless b none (sequence (operands xs))) (in_sequence uss)) (sym (each_none gs))
      (go (any_pass is_empty uss) refl)
    where
      go : (b : Bool) → any_pass is_empty uss ≡ b → Gives (unless b none (sequence (operands xs))) (in_sequence uss)
      go true e = rw (sequence_none uss e) gives_none
      go false e = rw (sequence_some uss e) (whole_sequence xs uss gs)

  -- a choice; none drops out
  each_single : {xs : List Content} {uss : List (List Content)} → GivesEach xs uss → Single (joined_of (λ us. us) uss)
  unfolding joined_of
  each_single Forall₂.nil = λ x m. elim m [ ]
  each_single (Forall₂.cons {b = us} {l₂ = uss} g gs) =
      single_append us (joined_of (λ us. us) uss) g.single (each_single gs)

  gathered : List Content → List Content
  gathered xs = joined_of alternatives (map tidy (map (retyped target) (keep not_none xs)))

  gathered_next : (x : Content) (us : List Content) → Gives x us → (xs ws : List Content)
      → distinct same_content (gathered xs) ≡ distinct same_content ws
      → distinct same_content (gathered (x ∷ xs)) ≡ distinct same_content (us ++ ws)
  unfolding gathered joined_of
  gathered_next x [] g xs ws e =
      ap (λ (l : List Content). distinct same_content (joined_of alternatives (map tidy (map (retyped target) l))))
      (keep_no not_none x xs (ap not g.none_if))
      ∙ e
  gathered_next x (u ∷ us) g xs ws e =
      ap (λ (l : List Content). distinct same_content (joined_of alternatives (map tidy (map (retyped target) l))))
      (keep_yes not_none x xs (ap not g.none_if))
      ∙ distinct_join same_content same_content_lem (alternatives (tidy (retyped target x))) (gathered xs) (u ∷ us) ws
      (ap (distinct same_content) (ap alternatives g.tidied ∙ alternatives_written u us g.single)
      ∙ distinct_again same_content same_content_lem (u ∷ us))
      e

  each_gathered : {xs : List Content} {uss : List (List Content)} → GivesEach xs uss
      → distinct same_content (gathered xs) ≡ distinct same_content (joined_of (λ us. us) uss)
  unfolding gathered joined_of keep
  each_gathered Forall₂.nil = refl
  each_gathered (Forall₂.cons {a = x} {b = us} {l₁ = xs} {l₂ = uss} g gs) =
      gathered_next x us g xs (joined_of (λ us. us) uss) (each_gathered gs)

  none_of_kept : (ys : List Content) → ((y : Content) → Memᴰ y ys → not_none y ≡ true) → is_none (choice_of ys) ≡ is_empty ys
  unfolding is_none choice_of
  none_of_kept [] h = refl
  none_of_kept (y ∷ []) h = not-true (is_none y) (h y (Memᴰ.head refl))
  none_of_kept (y ∷ z ∷ zs) h = refl

  none_next : (x : Content) (us : List Content) → Gives x us → (xs ws : List Content) → is_empty (keep not_none xs) ≡ is_empty ws
      → is_empty (keep not_none (x ∷ xs)) ≡ is_empty (us ++ ws)
  none_next x [] g xs ws e = ap is_empty (keep_no not_none x xs (ap not g.none_if)) ∙ e
  none_next x (u ∷ us) g xs ws e = ap is_empty (keep_yes not_none x xs (ap not g.none_if))

  each_empty : {xs : List Content} {uss : List (List Content)} → GivesEach xs uss
      → is_empty (keep not_none xs) ≡ is_empty (joined_of (λ us. us) uss)
  unfolding joined_of keep
  each_empty Forall₂.nil = refl
  each_empty (Forall₂.cons {a = x} {b = us} {l₁ = xs} {l₂ = uss} g gs) =
      none_next x us g xs (joined_of (λ us. us) uss) (each_empty gs)

  gives_choice : (xs : List Content) (uss : List (List Content)) → GivesEach xs uss
      → Gives (choice_of (keep not_none xs)) (joined_of (λ us. us) uss)
  unfolding gathered one_content
  gives_choice xs uss gs =
      record {
        none_if = none_of_kept (keep not_none xs) (λ y m. (kept not_none xs m).1) ∙ each_empty gs;
        tidied =
            ap tidy (replace_choice (λ p. type (target p)) (keep not_none xs))
            ∙ tidy_choice (map (retyped target) (keep not_none xs))
            ∙ ap choice_of (each_gathered gs);
        single = each_single gs;
      }

module _ {A B C : Type 0} where
  pub joined_map : (g : B → List C) (f : A → B) (xs : List A) → joined_of g (map f xs) ≡ joined_of (λ x. g (f x)) xs
  unfolding joined_of
  joined_map g f [] = refl
  joined_map g f (x ∷ xs) = ap (λ (l : List C). g (f x) ++ l) (joined_map g f xs)

  pub joined_twice : (g : B → List C) (f : A → List B) (xs : List A)
      → joined_of g (joined_of f xs) ≡ joined_of (λ x. joined_of g (f x)) xs
  unfolding joined_of
  joined_twice g f [] = refl
  joined_twice g f (x ∷ xs) =
      joined_append g (f x) (joined_of f xs) ∙ ap (λ (l : List C). joined_of g (f x) ++ l) (joined_twice g f xs)

-- a pair as pruning leaves it before it simplifies, and a source type so
abbrev pub mark_pair : List ℕ → ℕ → Content
mark_pair known p = elim (is_in p known) as (λ x. Content) [ true ↦ type p | false ↦ none ]

abbrev pub pairs_marked : (ℕ → List ℕ) → List ℕ → ℕ → Content
pairs_marked pairs known k = replace (choice_of (map type (pairs k))) (mark_pair known)

pub pruned_marked : (pairs : ℕ → List ℕ) (known : List ℕ) (c : Content)
    → prune known (in_pairs_of pairs c) ≡ simplify (replace c (pairs_marked pairs known))
unfolding prune
pruned_marked pairs known c = ap simplify (replace_twice (λ k. choice_of (map type (pairs k))) (mark_pair known) c)

module _ (pairs : ℕ → List ℕ) (known : List ℕ) (target : ℕ → ℕ) where
  -- contents, each pruned
  abbrev each_pruned : List Content → List Content
  each_pruned cs = map simplify (map (λ c. replace c (mark_pair known)) cs)

  pruned_choice : (cs : List Content) → prune known (choice_of cs) ≡ choice_of (keep not_none (each_pruned cs))
  unfolding prune
  pruned_choice cs = ap simplify (replace_choice (mark_pair known) cs) ∙ simplify_choice (map (λ c. replace c (mark_pair known)) cs)

  -- the pairs of one type
  of_pair : ℕ → List Content
  of_pair p = only_if (is_in p known) (type (target p) ∷ [])

  gives_pair : (p : ℕ) → Gives target (simplify (replace (type p) (mark_pair known))) (of_pair p)
  unfolding simplify replace of_pair only_if
  gives_pair p = go (is_in p known)
    where
      go : (b : Bool)
          → Gives target (simplify (elim b as (λ x. Content) [ true ↦ type p | false ↦ none ])) (only_if b (type (target p) ∷ []))
      go true = gives_type target p
      go false = gives_none target

  gives_each_pair : (ps : List ℕ) → GivesEach target (each_pruned (map type ps)) (map of_pair ps)
  gives_each_pair [] = Forall₂.nil
  gives_each_pair (p ∷ ps) = Forall₂.cons (gives_pair p) (gives_each_pair ps)

  of_pairs : (ps : List ℕ) → joined_of (λ us. us) (map of_pair ps) ≡ map type (map target (keep (λ p. is_in p known) ps))
  unfolding joined_of of_pair only_if keep
  of_pairs [] = refl
  of_pairs (p ∷ ps) = go (is_in p known) (of_pairs ps)
    where
      go : (b : Bool) → joined_of (λ us. us) (map of_pair ps) ≡ map type (map target (keep (λ q. is_in q known) ps))
          → only_if b (type (target p) ∷ []) ++ joined_of (λ us. us) (map of_pair ps)
          ≡ map type
          (map target (elim b as (λ x. List ℕ) [ true ↦ p ∷ keep (λ q. is_in q known) ps | false ↦ keep (λ q. is_in q known) ps ]))
      go true ih = ap (λ (l : List Content). type (target p) ∷ l) ih
      go false ih = ih

  gives_types : (ps : List ℕ)
      → Gives target (prune known (choice_of (map type ps))) (map type (map target (keep (λ p. is_in p known) ps)))
  gives_types ps =
      subst₂ (Gives target) (sym (pruned_choice (map type ps))) (of_pairs ps)
      (gives_choice target (each_pruned (map type ps)) (map of_pair ps) (gives_each_pair ps))

  abbrev results : ℕ → List ℕ
  results = results_of pairs known target

  -- a source content, and some, pruned
  abbrev pruned : Content → Content
  pruned c = simplify (replace c (pairs_marked pairs known))

  abbrev pruned_all : Contents → List Content
  pruned_all cs = simplify_all (replace_all cs (pairs_marked pairs known))

  mutual
    unfolding simplify replace alts prune

    gives : (c : Content) → Gives target (pruned c) (alts results c)
    gives none = gives_none target
    gives empty = gives_empty target
    gives (type k) = gives_types (pairs k)
    gives (sequence cs) = gives_sequence target (pruned_all cs) (alts_of_each results cs) (gives_each cs)
    gives (choice cs) = gives_choice target (pruned_all cs) (alts_of_each results cs) (gives_each cs)
    gives (any_number c) =
        gives_around target any_number wraps_any_number empty (empty ∷ []) (gives_empty target) (pruned c) (alts results c)
        (gives c)
    gives (one_or_more c) =
        gives_around target one_or_more wraps_one_or_more none [] (gives_none target) (pruned c) (alts results c) (gives c)
    gives (optional c) =
        gives_around target optional wraps_optional empty (empty ∷ []) (gives_empty target) (pruned c) (alts results c)
        (gives c)

    gives_each : (cs : Contents) → GivesEach target (pruned_all cs) (alts_of_each results cs)
    gives_each []ᶜ = Forall₂.nil
    gives_each (c ∷ᶜ cs) = Forall₂.cons (gives c) (gives_each cs)

  -- where a sequence becomes none
  pub some_none : (cs : Contents) → any_pass is_none (pruned_all cs) ≡ not (all_have_alts (has_left pairs known) cs)
  some_none cs =
      each_none target (gives_each cs)
      ∙ one_empty results cs
      ∙ ap (λ has. not (all_have_alts has cs)) (some_results pairs known target)

  pub gives_content : (c : Content) → Gives target (prune known (in_pairs_of pairs c)) (alts results c)
  gives_content c = rw (pruned_marked pairs known c) (gives c)

  pub emitted : (c : Content)
      → tidy (retyped target (prune known (in_pairs_of pairs c))) ≡ one_content (alts (results_of pairs known target) c)
  emitted c = (gives_content c).tidied

  -- the contents of one pair
  gives_all : (cs : List Content)
      → GivesEach target (each_pruned (map (in_pairs_of pairs) cs)) (map (alts results) cs)
  unfolding prune
  gives_all [] = Forall₂.nil
  gives_all (c ∷ cs) = Forall₂.cons (gives_content c) (gives_all cs)

  abbrev pair_content : List Content → Content
  pair_content cs = prune known (choice_of (map (in_pairs_of pairs) cs))

  pub gives_pair_content : (cs : List Content)
      → Gives target (prune known (choice_of (map (in_pairs_of pairs) cs))) (joined_of (alts results) cs)
  gives_pair_content cs =
      let ds : List Content = map (in_pairs_of pairs) cs in
      subst₂ (Gives target) (sym (pruned_choice ds)) (joined_map (λ us. us) (alts results) cs)
      (gives_choice target (each_pruned ds) (map (alts results) cs) (gives_all cs))

  pub emitted_pair : (cs : List Content)
      → tidy (retyped target (prune known (choice_of (map (in_pairs_of pairs) cs))))
      ≡ one_content (joined_of (alts (results_of pairs known target)) cs)
  emitted_pair cs = (gives_pair_content cs).tidied

  -- what is left of a pair's contents is none just where they have no alternatives
  pub pair_none : (cs : List Content)
      → is_none (prune known (choice_of (map (in_pairs_of pairs) cs))) ≡ not (any_pass (has_alts (has_left pairs known)) cs)
  pair_none cs = (gives_pair_content cs).none_if ∙ all_productive pairs known target cs

  -- the contents of some pairs
  module _ {A : Type 0} (contents : A → List Content) where
    abbrev left : A → Content
    left p = pair_content (contents p)

    gives_pairs : (ps : List A) → GivesEach target (map left ps) (map (λ p. joined_of (alts results) (contents p)) ps)
    gives_pairs [] = Forall₂.nil
    gives_pairs (p ∷ ps) = Forall₂.cons (gives_pair_content (contents p)) (gives_pairs ps)

    all_kept : (ps : List A) → ((p : A) → Memᴰ p ps → any_pass (has_alts (has_left pairs known)) (contents p) ≡ true)
        → keep not_none (map left ps) ≡ map left ps
    unfolding keep
    all_kept [] h = refl
    all_kept (p ∷ ps) h =
        keep_yes not_none (left p) (map left ps)
        (ap not (pair_none (contents p)) ∙ ap (λ b. not (not b)) (h p (Memᴰ.head refl)))
        ∙ ap (λ (l : List Content). left p ∷ l) (all_kept ps (λ q m. h q (Memᴰ.tail m)))

    pub emitted_rule : (ps : List A) → ((p : A) → Memᴰ p ps → any_pass (has_alts (has_left pairs known)) (contents p) ≡ true)
        → tidy (choice_of (map (λ p. retyped target (prune known (choice_of (map (in_pairs_of pairs) (contents p))))) ps))
        ≡ one_content (joined_of (alts (results_of pairs known target)) (joined_of contents ps))
    emitted_rule ps h =
        ap (λ (l : List Content). tidy (choice_of l)) (sym (map-map (retyped target) left ps))
        ∙ ap tidy (sym (replace_choice (λ p. type (target p)) (map left ps)))
        ∙ ap (λ (l : List Content). tidy (retyped target (choice_of l))) (sym (all_kept ps h))
        ∙ (gives_choice target (map left ps) (map (λ p. joined_of (alts results) (contents p)) ps) (gives_pairs ps)).tidied
        ∙ ap one_content
        (joined_map (λ us. us) (λ p. joined_of (alts results) (contents p)) ps ∙ sym (joined_twice (alts results) contents ps))
