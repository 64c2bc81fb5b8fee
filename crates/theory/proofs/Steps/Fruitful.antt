-- The fruitful types are those that derive some document:
--     has_word_lem       has_word known c is true just where a word of c has only known types
--     marks_is       a rule marks its pair just where it is for text and has a word of fruitful types
--     fruitful_is    a type is among `fruitful g` just where it derives some tree in g
-- the latter where every rule's label is a label of the table (`labelled`).
use Prim.Native.Nat.{ℕ}
use native.Mathlib.Omega.{arith}
use mathlib.Core.Bool.{true, false≢true, false, not, ◌&&◌, Bool}
use mathlib.Core.List.Memᴰ
use mathlib.Core.List.{
  List,
  [],
  ◌∷◌,
  ◌++◌,
  map,
  Memᴰ,
}
use mathlib.Core.Logic.{◌↔◌, inl, inr, ⊎_elim}
use mathlib.Core.Path.{◌≡◌, refl, sym, ◌∙◌, ap}
use lib.ListN.{length, length-map}
use Rattle.grammar.specs.Lists.{keep}
use Rattle.grammar.specs.Tree.{Tree, node, Forest, []ᵗ, ◌∷ᵗ◌}
use Rattle.grammar.specs.Table.{Rule, Table}
use Rattle.grammar.specs.Derivation.{Derives, derives, DerivesAll, derives_none, derives_next}
use Rattle.grammar.specs.Normalise.{marks}
use Rattle.grammar.specs.Reduce.{prune, has_word, have_words, one_has_word, newly_fruitful, fruitful, is_none}
use Rattle.grammar.specs.Content.{
  Content,
  none,
  empty,
  type,
  sequence,
  choice,
  any_number,
  one_or_more,
  optional,
  Contents,
  []ᶜ,
  ◌∷ᶜ◌,
  Language,
  Joined,
  RepeatedWords,
  no_more,
  Word,
  InTurn,
  OfOne,
}
use Rattle.theory.specs.Conditions.{Labelled}
use Rattle.theory.proofs.Lists.BoolLaws.{and_left, and_right, and_intro, or_cases, or_left, or_right, same_test}
use Rattle.theory.proofs.Lists.ListLaws.{kept, keep_mem, in_mem, mem_in, below_at, AllIn, all_in_none, all_in_append}
use Rattle.theory.proofs.Contents.SimplifyWords.{join, prune_some}
use Rattle.theory.proofs.Steps.Rounds.{not_known_lem, rounds_hold, rounds_closed, closed_has}
use Rattle.theory.proofs.Tables.TableConditions.{SomeTree}
use Rattle.theory.proofs.Tables.NamedLabels.{label_named}

module _ (known : List ℕ) where
  -- a language has a word of known types
  abbrev pub KnownWord : Language → Type 0
  KnownWord L = (w : List ℕ) × L w × AllIn known w

  join_known : (L M : Language) → KnownWord L → KnownWord M → KnownWord (Joined L M)
  join_known L M p q = (p.0 ++ q.0, join L M p.1 q.1, all_in_append known p.0 q.0 p.2 q.2)

  known_front : (L M : Language) → KnownWord (Joined L M) → KnownWord L
  known_front L M p =
      let j = p.1 in
      (j.front, j.front_in, λ k m. p.2 k (rw j.joined (Memᴰ.append_left j.back m)))

  known_back : (L M : Language) → KnownWord (Joined L M) → KnownWord M
  known_back L M p =
      let j = p.1 in
      (j.back, j.back_in, λ k m. p.2 k (rw j.joined (Memᴰ.append_right j.front m)))

  mutual
    unfolding has_word have_words one_has_word

    pub has_word_lem : (c : Content) → (has_word known c ≡ true) ↔ KnownWord (Word c)
    has_word_lem none = (λ e. absurd (false≢true e), λ p. absurd p.1)
    has_word_lem empty = (λ e. ([], refl, all_in_none known), λ p. refl)
    has_word_lem (type k) = (
      λ e. (k ∷ [], refl, λ l m. Memᴰ.cast (Memᴰ.eq_of_singleton m) (in_mem k known e)),
      λ p. mem_in (p.2 k (rw p.1 (Memᴰ.head refl))),
    )
    has_word_lem (sequence cs) = have_words_lem cs
    has_word_lem (choice cs) = one_has_word_lem cs
    has_word_lem (any_number c) = (λ e. ([], no_more, all_in_none known), λ p. refl)
    has_word_lem (one_or_more c) = (
      λ e. join_known (Word c) (RepeatedWords (Word c)) ((has_word_lem c).0 e) ([], no_more, all_in_none known),
      λ p. (has_word_lem c).1 (known_front (Word c) (RepeatedWords (Word c)) p),
    )
    has_word_lem (optional c) = (λ e. ([], inl refl, all_in_none known), λ p. refl)

    have_words_lem : (cs : Contents) → (have_words known cs ≡ true) ↔ KnownWord (InTurn cs)
    have_words_lem []ᶜ = (λ e. ([], refl, all_in_none known), λ p. refl)
    have_words_lem (c ∷ᶜ cs) = (
      λ e.
          join_known (Word c) (InTurn cs) ((has_word_lem c).0 (and_left (has_word known c) (have_words known cs) e))
          ((have_words_lem cs).0 (and_right (has_word known c) (have_words known cs) e)),
      λ p.
          and_intro (has_word known c) (have_words known cs) ((has_word_lem c).1 (known_front (Word c) (InTurn cs) p))
          ((have_words_lem cs).1 (known_back (Word c) (InTurn cs) p)),
    )

    one_has_word_lem : (cs : Contents) → (one_has_word known cs ≡ true) ↔ KnownWord (OfOne cs)
    one_has_word_lem []ᶜ = (λ e. absurd (false≢true e), λ p. absurd p.1)
    one_has_word_lem (c ∷ᶜ cs) = (
      λ e.
          ⊎_elim
          (λ t. let p = (has_word_lem c).0 t in (p.0, inl p.1, p.2))
          (λ t. let p = (one_has_word_lem cs).0 t in (p.0, inr p.1, p.2))
          (or_cases (has_word known c) (one_has_word known cs) e),
      λ p.
          ⊎_elim
          (λ v. or_left (has_word known c) (one_has_word known cs) ((has_word_lem c).1 (p.0, v, p.2)))
          (λ v. or_right (has_word known c) (one_has_word known cs) ((one_has_word_lem cs).1 (p.0, v, p.2)))
          p.1,
    )

-- What is pruned is not none just where the content has a word of known types; so a rule marks its pair just where it is for text and
-- has a word of fruitful types.
pub prune_by_words : (known : List ℕ) (c : Content) → not (is_none (prune known c)) ≡ has_word known c
prune_by_words known c =
    same_test (not (is_none (prune known c))) (has_word known c) (
      λ e. (has_word_lem known c).1 ((prune_some known c).0 e),
      λ e. (prune_some known c).1 ((has_word_lem known c).0 e),
    )

pub marks_by_words : (g : Table) (r : Rule) → marks g r ≡ (r.text && has_word (fruitful g) r.content)
unfolding marks
marks_by_words g r = ap (λ (b : Bool). r.text && b) (prune_by_words (fruitful g) r.content)

pub marks_is : (g : Table) (r : Rule) → (marks g r ≡ true) ↔ ((r.text ≡ true) × KnownWord (fruitful g) (Word r.content))
marks_is g r = (
  λ e.
      let p = sym (marks_by_words g r) ∙ e in (
        and_left r.text (has_word (fruitful g) r.content) p,
        (has_word_lem (fruitful g) r.content).0 (and_right r.text (has_word (fruitful g) r.content) p),
      ),
  λ p.
      marks_by_words g r
      ∙ and_intro r.text (has_word (fruitful g) r.content) p.0 ((has_word_lem (fruitful g) r.content).1 p.1),
)

pub some_forest : (g : Table) (w : List ℕ) → ((k : ℕ) → Memᴰ k w → SomeTree g k) → (ts : Forest) × DerivesAll g w ts
some_forest g [] h = ([]ᵗ, derives_none)
some_forest g (k ∷ w) h =
    let t = h k (Memᴰ.head refl) in
    let ts = some_forest g w (λ l m. h l (Memᴰ.tail m)) in
    (t.0 ∷ᵗ ts.0, derives_next t.1 ts.1)

module _ (g : Table) where
  -- what a round finds: types, not known, of rules whose contents have words of known types
  pub record FruitfulFound (known : List ℕ) (k : ℕ) : Type 0 where
    pub rule : Rule
    pub of_table : Memᴰ rule g.rules
    pub of_type : rule.type ≡ k
    pub word : KnownWord known (Word rule.content)
    pub new : Memᴰ k known → ⊥

  newly_found : (known : List ℕ) (k : ℕ) → Memᴰ k (newly_fruitful g known) → FruitfulFound known k
  unfolding newly_fruitful
  newly_found known k m =
      let n = (not_known_lem known (map (λ (r : Rule). r.type) (keep (λ (r : Rule). has_word known r.content) g.rules)) k).0 m in
      let o = Memᴰ.of_map (λ (r : Rule). r.type) (keep (λ (r : Rule). has_word known r.content) g.rules) n.0 in
      let p = kept (λ (r : Rule). has_word known r.content) g.rules o.1 in
      record {
        rule = o.0;
        of_table = p.0;
        of_type = o.2;
        word = (has_word_lem known o.0.content).0 p.1;
        new = n.1;
      }

  found_newly : (known : List ℕ) (k : ℕ) → FruitfulFound known k → Memᴰ k (newly_fruitful g known)
  unfolding newly_fruitful
  found_newly known k f =
      let m =
      keep_mem (λ (r : Rule). has_word known r.content) f.of_table ((has_word_lem known f.rule.content).1 f.word)
      in
      (not_known_lem known (map (λ (r : Rule). r.type) (keep (λ (r : Rule). has_word known r.content) g.rules)) k).1
      (Memᴰ.cast (sym f.of_type) (Memᴰ.map (λ (r : Rule). r.type) m), f.new)

  pub fruitful_closed : newly_fruitful g (fruitful g) ≡ []
  unfolding fruitful
  fruitful_closed =
      rounds_closed (newly_fruitful g) (map (λ (r : Rule). r.type) g.rules) (λ known k m. (newly_found known k m).new)
      (λ known k m.
      let f = newly_found known k m in
      Memᴰ.cast (sym f.of_type) (Memᴰ.map (λ (r : Rule). r.type) f.of_table))
      (length g.rules)
      []
      (rw (length-map g.rules (λ (r : Rule). r.type)) (omega arith))

  mutual
    pub tree_fruitful : {k : ℕ} {t : Tree} → Derives g k t → Memᴰ k (fruitful g)
    tree_fruitful (derives {k = k} {w = w} f a) =
        closed_has (newly_fruitful g) (fruitful g) k fruitful_closed
        (λ n.
        found_newly (fruitful g) k
        (record {
          rule = f.rule;
          of_table = f.of_table;
          of_type = f.of_type;
          word = (w, f.word, forest_fruitful a);
          new = n;
        }))

    pub forest_fruitful : {w : List ℕ} {ts : Forest} → DerivesAll g w ts → AllIn (fruitful g) w
    forest_fruitful derives_none = all_in_none (fruitful g)
    forest_fruitful (derives_next {k = k} {w = w} d a) =
        all_in_append (fruitful g) (k ∷ []) w
        (λ l m. Memᴰ.cast (Memᴰ.eq_of_singleton m) (tree_fruitful d))
        (forest_fruitful a)

  module _ (labelled : Labelled g) where
    found_tree : (known : List ℕ) → ((k : ℕ) → Memᴰ k known → SomeTree g k) → (k : ℕ) → FruitfulFound known k → SomeTree g k
    found_tree known h k f =
        let name = below_at g.labels f.rule.label (labelled f.rule f.of_table) in
        let w = f.word in
        let ts = some_forest g w.0 (λ l m. h l (w.2 l m)) in (
          node (record { name = name.0; text = false }) ts.0,
          derives
              (record {
                rule = f.rule;
                of_table = f.of_table;
                of_type = f.of_type;
                of_name = label_named name.1;
                of_text = λ e. absurd (false≢true e);
                word = w.1;
              })
              ts.1,
        )

    pub fruitful_is : (k : ℕ) → Memᴰ k (fruitful g) ↔ SomeTree g k
    unfolding fruitful
    fruitful_is k = (
      λ m.
          rounds_hold (newly_fruitful g) (SomeTree g) (λ known h l n. found_tree known h l (newly_found known l n))
          (length g.rules)
          []
          (λ l n. absurd (Memᴰ.not-nil n))
          k
          m,
      λ d. tree_fruitful d.1,
    )
