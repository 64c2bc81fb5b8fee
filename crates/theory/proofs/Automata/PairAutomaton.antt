-- The automaton of a table's pairs: its states are the pairs, and a pair steps to the words, in pairs, of each of its rules' contents, for
-- a node with text only by a rule for text.
--     derived_pair      what a type derives, one of its pairs accepts
--     pair_derived      and what a pair of a type accepts, the type derives
--     pairs_let_in      so the table lets in all that the automaton accepts
--     normal_alive      a pair that derives some tree in the normal form is alive
use Prim.Native.Nat.{ℕ}
use mathlib.Core.Bool.{Bool, true, false, false≢true}
use mathlib.Core.List.Memᴰ
use mathlib.Core.List.Forall₂
use mathlib.Core.List.{List, [], ◌∷◌, Memᴰ}
use mathlib.Core.Logic.{◌⊎◌, ⊎_elim}
use mathlib.Core.Path.{◌≡◌, refl, sym, ◌∙◌, subst}
use Rattle.grammar.specs.Names.{Name, SameName}
use Rattle.grammar.specs.Tree.{Head, Tree, node, Forest}
use Rattle.grammar.specs.Table.{Rule, Table, Named}
use Rattle.grammar.specs.Derivation.{Derives, derives, DerivesAll, derives_none, derives_next, LetsIn}
use Rattle.grammar.specs.Normalise.{pair_of, pairs_of, normalise}
use Rattle.theory.specs.Conditions.{Labelled}
use Rattle.theory.proofs.Automata.Automaton.{
  Automaton,
  Accepts,
  accepts,
  AcceptsAll,
  accepts_none,
  accepts_next,
  AcceptsDocument,
  Alive,
  AllAlive,
  fill,
}
use Rattle.theory.proofs.Automata.TableAutomaton.{type_name, fits_steps}
use Rattle.theory.proofs.Tables.KindTests.{same_pair_lem as pair_decides}
use Rattle.theory.proofs.Tables.NamedLabels.{label_named, same_named}
use Rattle.theory.proofs.Lists.ListLaws.{below_at}
use Rattle.theory.proofs.Trees.NameLaws.{name_sym, name_trans}
use Rattle.theory.proofs.Steps.NormaliseDocuments.{
  OfPair,
  pairs_of_lem,
  same_pair_lem,
  InPairs,
  PairWord,
  PairFits,
  fits_pair,
  pair_fits,
  normalise_types,
  normalise_labelled,
  normalise_start,
}

module _ (g : Table) where
  -- a word, in pairs, of the content of a rule of the pair, which is for text if the node holds some
  pub record PairSteps (p : ℕ) (text : Bool) (w : List ℕ) : Type 0 where
    pub rule : Rule
    pub of_pair : OfPair g p rule
    pub of_text : text ≡ true → rule.text ≡ true
    pub word : PairWord g rule.content w

  abbrev pub pair_automaton : Automaton ℕ
  pair_automaton =
      record { name = type_name (normalise g); Step = PairSteps; Start = λ p. Memᴰ p (normalise g).starts }

module _ (g : Table) (labelled : Labelled g) where
  -- the name of a pair: that of the labels of its rules
  pub pair_named : {p : ℕ} {n : Name} {w : List ℕ} → PairFits g p n w → SameName (type_name (normalise g) p) n
  pair_named {p} {n} {w} f =
      let h : Head = record { name = n; text = false } in
      ((fits_steps (normalise g) (normalise_types g) (normalise_labelled g labelled) p h w).0
      (pair_fits g {h = h} f (λ e. absurd (false≢true e)))).0

  named_pair : {p : ℕ} {n : Name} {text : Bool} {w : List ℕ} (s : PairSteps g p text w) → SameName (type_name (normalise g) p) n
      → Named g s.rule.label n
  named_pair {p} {n} {text} {w} s e =
      let (m, at) = below_at g.labels s.rule.label (labelled s.rule s.of_pair.of_table) in
      let f : PairFits g p m w =
      record { rule = s.rule; of_pair = s.of_pair; of_name = label_named at; word = s.word } in
      same_named (label_named at) (name_trans m (type_name (normalise g) p) n (name_sym (type_name (normalise g) p) m (pair_named f)) e)

  mutual
    pub derived_pair : {k : ℕ} {t : Tree} → Derives g k t → (p : ℕ) × Memᴰ p (pairs_of g k) × Accepts (pair_automaton g) p t
    derived_pair (derives {k = k} {h = h} {w = u} f ds) =
        let (w, a, es) = derived_pairs ds in
        let q : OfPair g (pair_of g f.rule) f.rule = record { of_table = f.of_table; numbered = refl } in
        let word : PairWord g f.rule.content w = record { source = u; word = f.word; paired = a } in (
          pair_of g f.rule,
          (pairs_of_lem g k (pair_of g f.rule)).1 (record { rule = f.rule; of_pair = q; of_type = f.of_type }),
          accepts (pair_named (record { rule = f.rule; of_pair = q; of_name = f.of_name; word = word }))
              (record { rule = f.rule; of_pair = q; of_text = f.of_text; word = word })
              es,
        )

    pub derived_pairs : {u : List ℕ} {ts : Forest} → DerivesAll g u ts → (w : List ℕ) × InPairs g u w × AcceptsAll (pair_automaton g) w ts
    derived_pairs derives_none = ([], Forall₂.nil, accepts_none)
    derived_pairs (derives_next d ds) =
        let (p, m, e) = derived_pair d in
        let (w, a, es) = derived_pairs ds in
        (p ∷ w, Forall₂.cons m a, accepts_next e es)

  mutual
    pub pair_derived : {p : ℕ} {t : Tree} → Accepts (pair_automaton g) p t → (k : ℕ) → Memᴰ p (pairs_of g k) → Derives g k t
    pair_derived (accepts {s = p} {h = h} e s all) k m =
        let b = (pairs_of_lem g k p).0 m in
        let same = (pair_decides s.rule b.rule).0 (same_pair_lem g s.rule b.rule s.of_pair b.of_pair) in
        derives
        (record {
          rule = s.rule;
          of_table = s.of_pair.of_table;
          of_type = same.0 ∙ b.of_type;
          of_name = named_pair s e;
          of_text = s.of_text;
          word = s.word.word;
        })
        (pairs_derived all s.word.paired)

    pairs_derived : {w : List ℕ} {ts : Forest} → AcceptsAll (pair_automaton g) w ts → {u : List ℕ} → InPairs g u w → DerivesAll g u ts
    pairs_derived accepts_none Forall₂.nil = derives_none
    pairs_derived (accepts_next a all) (Forall₂.cons {a = k} m ms) = derives_next (pair_derived a k m) (pairs_derived all ms)

  pub pairs_let_in : (d : Tree) → AcceptsDocument (pair_automaton g) d → LetsIn g d
  pairs_let_in d a =
      let (k, m, p) = normalise_start g a.start a.of_automaton in
      record { start = k; of_table = m; derived = pair_derived a.accepted k p }

  -- What the normal form derives, some rule of the pair derives without text: so the pair is alive.
  mutual
    pub normal_alive : {p : ℕ} {t : Tree} → Derives (normalise g) p t → Alive (pair_automaton g) p
    normal_alive (derives {h = h} {w = w} f ds) =
        let q = fits_pair g f in
        let filled = fill (pair_automaton g) w (λ s m. normal_all_alive ds s m) in
        record {
          tree = node (record { name = h.name; text = false }) filled.trees;
          accepted =
              accepts (pair_named q)
              (record { rule = q.rule; of_pair = q.of_pair; of_text = λ e. absurd (false≢true e); word = q.word })
              filled.accepted;
        }

    normal_all_alive : {w : List ℕ} {ts : Forest} → DerivesAll (normalise g) w ts → AllAlive (pair_automaton g) w
    normal_all_alive derives_none s m = elim m [ ]
    normal_all_alive (derives_next d ds) s m =
        ⊎_elim
        (λ e. subst (λ (r : ℕ). Alive (pair_automaton g) r) (sym e) (normal_alive d))
        (λ n. normal_all_alive ds s n)
        (Memᴰ.cases_cons m)
