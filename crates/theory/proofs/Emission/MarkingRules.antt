-- Which rules make their pair one for text, by the alternatives of their contents:
--     known_words       a content has a word of fruitful types just where it has, in pairs, a word of fruitful pairs
--     marks_by_alts     a rule marks its pair just where it is for text and its content has alternatives over the fruitful pairs
use Prim.Native.Nat.{ℕ}
use mathlib.Core.Bool.{Bool, ◌&&◌}
use mathlib.Core.List.Memᴰ
use mathlib.Core.List.Forall₂
use mathlib.Core.List.{
  List,
  [],
  ◌∷◌,
}
use mathlib.Core.Logic.{◌↔◌, ⊎_elim}
use mathlib.Core.Path.{◌≡◌, refl, ◌∙◌, ap}
use Rattle.grammar.specs.Content.{Content, Word}
use Rattle.grammar.specs.Table.{Rule, Table}
use Rattle.grammar.specs.Normalise.{pairs_of, in_pairs, marks, normalise}
use Rattle.grammar.specs.Reduce.{has_word, fruitful}
use Rattle.theory.specs.Conditions.{Labelled}
use Rattle.theory.specs.Alternatives.{has_alts, has_left}
use Rattle.theory.proofs.Lists.BoolLaws.{same_test}
use Rattle.theory.proofs.Lists.ListLaws.{AllIn}
use Rattle.theory.proofs.Automata.PairAutomaton.{pair_derived, normal_alive}
use Rattle.theory.proofs.Steps.Fruitful.{KnownWord, has_word_lem, marks_by_words, tree_fruitful, fruitful_is}
use Rattle.theory.proofs.Steps.NormaliseDocuments.{InPairs, pair_words, normalise_derived, normalise_labelled}
use Rattle.theory.proofs.Emission.MetPairs.{word_met}

module _ (u : Table) (labelled : Labelled u) where
  abbrev pairs_known : List ℕ
  pairs_known = fruitful (normalise u)

  -- fruitful types have fruitful pairs
  in_pairs_lem : (w : List ℕ) → AllIn (fruitful u) w → (v : List ℕ) × InPairs u w v × AllIn (fruitful (normalise u)) v
  in_pairs_lem [] h = ([], Forall₂.nil, λ p m. elim m [ ])
  in_pairs_lem (k ∷ w) h =
      let (t, d) = (fruitful_is u labelled k).0 (h k (Memᴰ.head refl)) in
      let (p, m, e) = normalise_derived u d in
      let (v, ms, known) = in_pairs_lem w (λ l n. h l (Memᴰ.tail n)) in (
        p ∷ v,
        Forall₂.cons m ms,
        λ q n. ⊎_elim (λ s. Memᴰ.cast s (tree_fruitful (normalise u) e)) (λ o. known q o) (Memᴰ.cases_cons n),
      )

  -- and types of fruitful pairs are fruitful
  from_pairs : {w v : List ℕ} → InPairs u w v → AllIn (fruitful (normalise u)) v → AllIn (fruitful u) w
  from_pairs Forall₂.nil h k m = elim m [ ]
  from_pairs (Forall₂.cons {a = j} {b = p} m ms) h k n =
      let (t, d) = (fruitful_is (normalise u) (normalise_labelled u labelled) p).0 (h p (Memᴰ.head refl)) in
      let a = normal_alive u labelled d in
      ⊎_elim
      (λ s. Memᴰ.cast s (tree_fruitful u (pair_derived u labelled a.accepted j m)))
      (λ o. from_pairs ms (λ q i. h q (Memᴰ.tail i)) k o)
      (Memᴰ.cases_cons n)

  pub known_words : (c : Content)
      → KnownWord (fruitful u) (Word c) ↔ KnownWord (fruitful (normalise u)) (Word (in_pairs u c))
  known_words c = (
    λ a.
        let (v, paired, known) = in_pairs_lem a.0 a.2 in
        (v, (pair_words u c v).1 (record { source = a.0; word = a.1; paired = paired }), known),
    λ a.
        let q = (pair_words u c a.0).0 a.1 in
        (q.source, q.word, from_pairs q.paired a.2),
  )

  has_words : (c : Content) → has_word (fruitful u) c ≡ has_word (fruitful (normalise u)) (in_pairs u c)
  has_words c =
      same_test (has_word (fruitful u) c) (has_word pairs_known (in_pairs u c)) (
        λ e. (has_word_lem pairs_known (in_pairs u c)).1 ((known_words c).0 ((has_word_lem (fruitful u) c).0 e)),
        λ e. (has_word_lem (fruitful u) c).1 ((known_words c).1 ((has_word_lem pairs_known (in_pairs u c)).0 e)),
      )

  pub marks_by_alts : (r : Rule) → marks u r ≡ (r.text && has_alts (has_left (pairs_of u) (fruitful (normalise u))) r.content)
  unfolding in_pairs
  marks_by_alts r =
      marks_by_words u r
      ∙ ap (λ (b : Bool). r.text && b) (has_words r.content ∙ word_met (pairs_of u) (fruitful (normalise u)) r.content)
