-- Types renamed one for one: the fruitful types are renamed with them, and each rule marks what it marked.
--     has_word_renamed    a content has a word of known types just where the renamed content has one of the renamed types
--     fruitful-renamed    fruitful (renamed rename u) ≡ map rename (fruitful u)
--     marks-renamed       marks (renamed rename u) (renamed_rule rename r) ≡ marks u r
use Prim.Native.Nat.{ℕ, zero, suc}
use mathlib.Core.Bool.{Bool, not, ◌&&◌, ◌||◌}
use mathlib.Core.List.{List, [], ◌∷◌, ◌++◌, map, map-map, map-append}
use mathlib.Core.Path.{◌≡◌, refl, sym, ◌∙◌, ap, ap₂}
use lib.Dec.{eqb}
use lib.ListN.{length, length-map}
use borrow.Author.Tests.{eqb-true, eq-eqb}
use Rattle.grammar.specs.Lists.{any_pass, keep, distinct, is_in}
use Rattle.grammar.specs.Content.{
  Content,
  none,
  empty,
  type,
  sequence,
  choice,
  any_number,
  one_or_more,
  optional,
  Contents,
  []ᶜ,
  ◌∷ᶜ◌,
  replace,
  replace_all,
}
use Rattle.grammar.specs.Table.{Rule, Table}
use Rattle.grammar.specs.Normalise.{marks}
use Rattle.grammar.specs.Reduce.{rounds, has_word, have_words, one_has_word, not_known, newly_fruitful, fruitful}
use Rattle.theory.proofs.Lists.BoolLaws.{same_test}
use Rattle.theory.proofs.Lists.ListLaws.{keep_on, keep-map, distinct-map}
use Rattle.theory.proofs.Lists.DistinctLaws.{distinct_on}
use Rattle.theory.proofs.Steps.Fruitful.{marks_by_words}

-- a rule, and a table, with types renamed
module _ (rename : ℕ → ℕ) where
  abbrev pub renamed_rule : Rule → Rule
  renamed_rule r =
      record {
        type = rename r.type;
        label = r.label;
        content = replace r.content (λ k. type (rename k));
        text = r.text;
      }

  abbrev pub renamed : Table → Table
  renamed g = record { labels = g.labels; starts = map rename g.starts; rules = map renamed_rule g.rules }

module _ (rename : ℕ → ℕ) (one_for_one : (j k : ℕ) → rename j ≡ rename k → j ≡ k) where
  pub same_type_renamed : (j k : ℕ) → eqb (rename j) (rename k) ≡ eqb j k
  same_type_renamed j k =
      same_test (eqb (rename j) (rename k)) (eqb j k) (
        λ e. eq-eqb j k (one_for_one j k (eqb-true (rename j) (rename k) e)),
        λ e. eq-eqb (rename j) (rename k) (ap rename (eqb-true j k e)),
      )

  is_in_renamed : (k : ℕ) (ks : List ℕ) → is_in (rename k) (map rename ks) ≡ is_in k ks
  unfolding is_in any_pass
  is_in_renamed k [] = refl
  is_in_renamed k (j ∷ ks) = ap₂ ◌||◌ (same_type_renamed k j) (is_in_renamed k ks)

  module _ (known : List ℕ) where
    mutual
      unfolding has_word replace

      pub has_word_renamed : (c : Content) → has_word (map rename known) (replace c (λ k. type (rename k))) ≡ has_word known c
      has_word_renamed none = refl
      has_word_renamed empty = refl
      has_word_renamed (type k) = is_in_renamed k known
      has_word_renamed (sequence cs) = have_words_renamed cs
      has_word_renamed (choice cs) = one_has_word_renamed cs
      has_word_renamed (any_number c) = refl
      has_word_renamed (one_or_more c) = has_word_renamed c
      has_word_renamed (optional c) = refl

      have_words_renamed : (cs : Contents) → have_words (map rename known) (replace_all cs (λ k. type (rename k))) ≡ have_words known cs
      have_words_renamed []ᶜ = refl
      have_words_renamed (c ∷ᶜ cs) = ap₂ ◌&&◌ (has_word_renamed c) (have_words_renamed cs)

      one_has_word_renamed : (cs : Contents)
          → one_has_word (map rename known) (replace_all cs (λ k. type (rename k))) ≡ one_has_word known cs
      one_has_word_renamed []ᶜ = refl
      one_has_word_renamed (c ∷ᶜ cs) = ap₂ ◌||◌ (has_word_renamed c) (one_has_word_renamed cs)

    not_known_renamed : (ks : List ℕ) → not_known (map rename known) (map rename ks) ≡ map rename (not_known known ks)
    unfolding not_known
    not_known_renamed ks =
        ap (distinct eqb)
        (keep-map rename (λ k. not (is_in k (map rename known))) ks
        ∙ ap (map rename)
        (keep_on (λ k. not (is_in (rename k) (map rename known))) (λ k. not (is_in k known)) ks (λ k m. ap not (is_in_renamed k known))))
        ∙ distinct-map rename eqb (keep (λ k. not (is_in k known)) ks)
        ∙ ap (map rename)
        (distinct_on (λ j k. eqb (rename j) (rename k)) eqb (keep (λ k. not (is_in k known)) ks) (λ j k m n. same_type_renamed j k))

  rounds_renamed : (newly newly' : List ℕ → List ℕ) → ((known : List ℕ) → newly' (map rename known) ≡ map rename (newly known))
      → (n : ℕ) (known : List ℕ) → rounds n newly' (map rename known) ≡ map rename (rounds n newly known)
  unfolding rounds
  rounds_renamed newly newly' same zero known = refl
  rounds_renamed newly newly' same (suc n) known = go (newly known) refl (λ ks. rounds_renamed newly newly' same n ks)
    where
      go : (ks : List ℕ) → newly known ≡ ks → ((ks : List ℕ) → rounds n newly' (map rename ks) ≡ map rename (rounds n newly ks))
          → rounds (suc n) newly' (map rename known) ≡ map rename (rounds (suc n) newly known)
      go [] e ih = rw (same known, e, rounds) refl
      go (k ∷ ks) e ih =
          rw (same known, e, rounds) (ap (rounds n newly') (sym (map-append rename known (k ∷ ks))) ∙ ih (known ++ (k ∷ ks)))

  module _ (u : Table) where
    newly_renamed : (known : List ℕ) → newly_fruitful (renamed rename u) (map rename known) ≡ map rename (newly_fruitful u known)
    unfolding newly_fruitful
    newly_renamed known =
        ap (not_known (map rename known))
        (ap (map (λ (r : Rule). r.type))
        (keep-map (renamed_rule rename) (λ (r : Rule). has_word (map rename known) r.content) u.rules
        ∙ ap (map (renamed_rule rename))
        (keep_on (λ (r : Rule). has_word (map rename known) (renamed_rule rename r).content) (λ (r : Rule). has_word known r.content)
        u.rules
        (λ r m. has_word_renamed known r.content)))
        ∙ map-map (λ (r : Rule). r.type) (renamed_rule rename) (keep (λ (r : Rule). has_word known r.content) u.rules)
        ∙ sym (map-map rename (λ (r : Rule). r.type) (keep (λ (r : Rule). has_word known r.content) u.rules)))
        ∙ not_known_renamed known (map (λ (r : Rule). r.type) (keep (λ (r : Rule). has_word known r.content) u.rules))

    pub fruitful-renamed : fruitful (renamed rename u) ≡ map rename (fruitful u)
    unfolding fruitful
    fruitful-renamed =
        ap (λ (n : ℕ). rounds n (newly_fruitful (renamed rename u)) []) (length-map u.rules (renamed_rule rename))
        ∙ rounds_renamed (newly_fruitful u) (newly_fruitful (renamed rename u)) newly_renamed (length u.rules) []

    pub marks-renamed : (r : Rule) → marks (renamed rename u) (renamed_rule rename r) ≡ marks u r
    marks-renamed r =
        marks_by_words (renamed rename u) (renamed_rule rename r)
        ∙ ap (λ (b : Bool). r.text && b)
        (ap (λ (known : List ℕ). has_word known (renamed_rule rename r).content) fruitful-renamed
        ∙ has_word_renamed (fruitful u) r.content)
        ∙ sym (marks_by_words u r)
