-- Joining the rules of a pair lets in no more than a table of either kind must: with text at one of them, with text at all.
--     join_merge     the reduced normal form of a table is a single-type merge of the automaton of its pairs, each type its own one member
--     join_least     so a single-type table that lets in all that the table lets in lets in all that the reduced normal form lets in
--     join_some      and where the normal form lets in a document, the table does
use Prim.Native.Nat.{ℕ}
use mathlib.Core.Bool.{true, false, false≢true}
use mathlib.Core.List.Memᴰ
use mathlib.Core.List.{
  List,
  [],
  ◌∷◌,
  Memᴰ,
  Forall₂,
}
use mathlib.Core.Logic.{⊎_elim}
use mathlib.Core.Path.{◌≡◌, refl, sym, ◌∙◌, subst}
use Rattle.grammar.specs.Names.{SameName}
use Rattle.grammar.specs.Tree.{Head, Tree}
use Rattle.grammar.specs.Table.{Table, DistinctNames}
use Rattle.grammar.specs.Derivation.{Fits, LetsIn}
use Rattle.grammar.specs.Kinds.{SingleType}
use Rattle.grammar.specs.Least.{LetsInAll}
use Rattle.grammar.specs.Normalise.{normalise}
use Rattle.grammar.specs.Reduce.{fruitful, reduce}
use Rattle.theory.specs.Conditions.{Labelled}
use Rattle.theory.proofs.Trees.NameLaws.{name_refl}
use Rattle.theory.proofs.Contents.Standing.{word_stands}
use Rattle.theory.proofs.Automata.Automaton.{Alive, AllAlive}
use Rattle.theory.proofs.Automata.Merge.{Back, TextStep}
use Rattle.theory.proofs.Automata.LeastSingleType.{Arises, SingleTypeMerge, least_single_type}
use Rattle.theory.proofs.Automata.PairAutomaton.{PairSteps, pair_automaton, derived_pair, pairs_let_in, normal_alive, pair_named}
use Rattle.theory.proofs.Tables.TableConditions.{HasRule}
use Rattle.theory.proofs.Steps.Fruitful.{fruitful_is}
use Rattle.theory.proofs.Steps.NormaliseDocuments.{InPairs, marked_pair, fits_pair, normalise_labelled}
use Rattle.theory.proofs.Steps.ReduceDocuments.{reduce_fits, reduce_derived, reduce_fruitful, reduce_ruled, reduce_started}

module _ (g : Table) (labelled : Labelled g) where
  abbrev joined : Table
  joined = reduce (normalise g)

  -- each type has itself as its one member
  abbrev Itself : ℕ → ℕ → Type 0
  Itself k p = k ≡ p

  itself : (w : List ℕ) → Forall₂ Itself w w
  itself [] = Forall₂.nil
  itself (k ∷ w) = Forall₂.cons refl (itself w)

  -- a type that has a rule in the reduced normal form is alive
  type_alive : {k : ℕ} → HasRule joined k → Alive (pair_automaton g) k
  type_alive h =
      let (t, d) = reduce_fruitful (normalise g) (normalise_labelled g labelled) h.rule h.of_table in
      subst (λ (k : ℕ). Alive (pair_automaton g) k) h.of_type (normal_alive g labelled (reduce_derived (normalise g) d))

  word_alive : {k : ℕ} {h : Head} {w : List ℕ} → Fits joined k h w → AllAlive (pair_automaton g) w
  word_alive {w = w} f l m =
      type_alive
      (reduce_ruled (normalise g) (normalise_labelled g labelled) f.rule f.of_table l
      (word_stands f.rule.content w f.word l m))

  step : {k : ℕ} {h : Head} {w : List ℕ} → Fits joined k h w → PairSteps g k false w
  step f =
      let q = fits_pair g (reduce_fits (normalise g) f) in
      record { rule = q.rule; of_pair = q.of_pair; of_text = λ e. absurd (false≢true e); word = q.word }

  backward : (k : ℕ) (h : Head) (w : List ℕ) → Fits joined k h w → Back (pair_automaton g) joined Itself k h.name w
  backward k h w f =
      record {
        state = k;
        member = refl;
        named = pair_named g labelled (fits_pair g (reduce_fits (normalise g) f));
        next = w;
        step = step f;
        members = itself w;
        alive = word_alive f;
      }

  -- pairs of fruitful types that are alive
  living : (u : List ℕ) → ((k : ℕ) → Memᴰ k u → Memᴰ k (fruitful g)) → (w : List ℕ) × InPairs g u w × AllAlive (pair_automaton g) w
  living [] h = ([], Forall₂.nil, λ s m. elim m [ ])
  living (k ∷ u) h =
      let (t, d) = (fruitful_is g labelled k).0 (h k (Memᴰ.head refl)) in
      let (p, m, a) = derived_pair g labelled d in
      let (w, ms, alive) = living u (λ l n. h l (Memᴰ.tail n)) in (
        p ∷ w,
        Forall₂.cons m ms,
        λ s n.
            ⊎_elim
            (λ e. subst (λ (r : ℕ). Alive (pair_automaton g) r) (sym e) (record { tree = t; accepted = a }))
            (λ o. alive s o)
            (Memᴰ.cases_cons n),
      )

  textual : (k : ℕ) (h : Head) (w : List ℕ) → Fits joined k h w → h.text ≡ true → TextStep (pair_automaton g) joined Itself k
  textual k h w f e =
      let n = reduce_fits (normalise g) f in
      let q = marked_pair g n.rule n.of_table (n.of_text e) in
      let (u, word, known) = q.word in
      let (v, paired, alive) = living u known in
      record {
        state = k;
        member = refl;
        next = v;
        step =
            record {
              rule = q.rule;
              of_pair = record { of_table = q.of_pair.of_table; numbered = q.of_pair.numbered ∙ n.of_type };
              of_text = λ p. q.of_text;
              word = record { source = u; word = word; paired = paired };
            };
        alive = alive;
      }

  arises : (k : ℕ) (h : Head) (w : List ℕ) → Fits joined k h w → (l : ℕ) → Memᴰ l w → (s : ℕ) → Itself l s
      → Arises (pair_automaton g) joined Itself k s
  arises k h w f l m s e =
      record { state = k; member = refl; next = w; step = step f; alive = word_alive f; within = Memᴰ.cast (sym e) m }

  pub join_merge : SingleTypeMerge (pair_automaton g) (reduce (normalise g)) (λ k p. k ≡ p)
  join_merge =
      record {
        merge =
            record {
              one_name =
                  λ k r s p q.
                  subst (λ (m : ℕ). SameName ((pair_automaton g).name r) ((pair_automaton g).name m)) (sym p ∙ q)
                  (name_refl ((pair_automaton g).name r));
              backward = backward;
              textual = textual;
            };
        arises = arises;
        start_states =
            λ k m s e.
            subst (λ (p : ℕ). Memᴰ p (normalise g).starts) e (reduce_started (normalise g) (normalise_labelled g labelled) k m);
      }

  pub join_least : (H : Table) → DistinctNames H → SingleType H → LetsInAll H (LetsIn g) → LetsInAll H (LetsIn (reduce (normalise g)))
  join_least H names kind keeps = least_single_type join_merge H names kind (λ d a. keeps d (pairs_let_in g labelled d a))

  pub join_some : (d : Tree) → LetsIn (normalise g) d → (e : Tree) × LetsIn g e
  join_some d l =
      let a = normal_alive g labelled l.derived in
      (a.tree, pairs_let_in g labelled a.tree (record { start = l.start; of_automaton = l.of_table; accepted = a.accepted }))
