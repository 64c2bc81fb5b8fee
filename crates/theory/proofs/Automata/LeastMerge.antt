-- What the two kinds share.
--     least_merge    a table that lets in all that the automaton accepts, and whose labels tell the types that derive what merged
--                    states accept (Tells), lets in all that the merge lets in
-- Its types cover the merged types: they derive all that the members accept.
use Prim.Native.Nat.{ℕ}
use mathlib.Core.Bool.{true, false}
use mathlib.Core.List.Memᴰ
use mathlib.Core.List.{List, Memᴰ, Forall₂}
use mathlib.Core.Path.{◌≡◌, refl, sym, subst}
use Rattle.grammar.specs.Names.{SameName}
use Rattle.grammar.specs.Tree.{Head, Tree, node, Forest}
use Rattle.grammar.specs.Table.{Rule, Table, DistinctNames}
use Rattle.grammar.specs.Derivation.{Fits, Derives, derives, DerivesAll, derives_none, derives_next, LetsIn}
use Rattle.grammar.specs.Kinds.{Competing}
use Rattle.grammar.specs.Least.{LetsInAll}
use mathlib.Core.Logic.{⊎_elim}
use Rattle.theory.proofs.Trees.NameLaws.{name_refl, name_sym, name_trans}
use Rattle.theory.proofs.Automata.Automaton.{
  Automaton,
  Accepts,
  accepts,
  AcceptsAll,
  accepts_none,
  accepts_next,
  AcceptsDocument,
  Alive,
  fill,
}
use Rattle.theory.proofs.Automata.Merge.{Merge}
use Rattle.theory.proofs.Tables.Covering.{StartCover, WordCover, covered_let_in}
use Rattle.theory.proofs.Trees.TreeParts.{trees_of}
use Rattle.theory.proofs.Tables.NamedLabels.{one_label}
use Rattle.theory.proofs.Tables.KindLaws.{OneRuleAPair, one_fitting}

-- a type of the word that derives the tree
pub record DerivedIn (H : Table) (w : List ℕ) (t : Tree) : Type 0 where
  pub type : ℕ
  pub within : Memᴰ type w
  pub derived : Derives H type t

pub among_derived : {H : Table} {w : List ℕ} {t : Tree} {ts : Forest} → DerivesAll H w ts → Memᴰ t (trees_of ts) → DerivedIn H w t
among_derived derives_none m = elim m [ ]
among_derived {H} (derives_next {k = k} d all) m =
    ⊎_elim
    (λ e. record { type = k; within = Memᴰ.head refl; derived = subst (λ (t : Tree). Derives H k t) (sym e) d })
    (λ n.
    let r = among_derived all n in
    record { type = r.type; within = Memᴰ.tail r.within; derived = r.derived })
    (Memᴰ.cases_cons m)

-- The tree is derived by a type that is j if it has a label with j in common.
pub record Sole (H : Table) (j : ℕ) (t : Tree) : Type 0 where
  pub type : ℕ
  pub derived : Derives H type t
  pub alone : Competing H j type → j ≡ type

module _ {State : Type 0} (A : Automaton State) (G : Table) (Member : ℕ → State → Type 0) where
  -- a member of the type that is a start state and accepts some tree
  pub record StartMember (k : ℕ) : Type 0 where
    pub state : State
    pub member : Member k state
    pub start : A.Start state
    pub alive : Alive A state

  -- the type j of the other table derives all that the members of k accept
  abbrev pub Covers : Table → ℕ → ℕ → Type 0
  Covers H k j = (s : State) → Member k s → (t : Tree) → Accepts A s t → Derives H j t

  -- each tree that a member of the type k accepts has a type that its label tells from j
  abbrev pub AllSole : Table → ℕ → ℕ → Type 0
  AllSole H k j = (s : State) → Member k s → (t : Tree) → Accepts A s t → Sole H j t

  -- Labels tell start types of H apart, and the types of a word of a type that covers.
  pub record Tells (H : Table) : Type 0 where
    pub start_member : (k : ℕ) (h : Head) (w : List ℕ) → Memᴰ k G.starts → Fits G k h w → StartMember k
    pub start_sole : (k j : ℕ) → Memᴰ k G.starts → Memᴰ j H.starts → AllSole H k j
    pub word_sole : (k j : ℕ) (h : Head) (w v : List ℕ) → Covers H k j → Fits G k h w → Fits H j h v → (l i : ℕ) → Memᴰ l w
        → Memᴰ i v → AllSole H l i

module _ {State : Type 0} {A : Automaton State} {G : Table} {Member : ℕ → State → Type 0} (merge : Merge A G Member) where
  -- The members of a type have its rules' names.
  pub member_named : {k : ℕ} {h : Head} {w : List ℕ} {s : State} → Fits G k h w → Member k s → SameName (A.name s) h.name
  member_named {k} {h} {w} {s} f m =
      let b = merge.backward k h w f in
      name_trans (A.name s) (A.name b.state) h.name (merge.one_name k s b.state m b.member) b.named

  module _ (H : Table) (names : DistinctNames H) where
    -- Types that derive what states of one name accept have rules with one label.
    competing : {j l : ℕ} {r s : State} {t u : Tree} → SameName (A.name r) (A.name s) → Accepts A r t → Accepts A s u → Derives H j t
        → Derives H l u → Competing H j l
    competing {r = r} {s = s} e (accepts {h = h} p step all) (accepts {h = i} q step' all') (derives f ds) (derives f' ds') =
        record {
          rule₁ = f.rule;
          rule₂ = f'.rule;
          of_table₁ = f.of_table;
          of_table₂ = f'.of_table;
          of_type₁ = f.of_type;
          of_type₂ = f'.of_type;
          one_label =
              one_label H names f.of_name f'.of_name
              (name_trans h.name (A.name s) i.name
              (name_trans h.name (A.name r) (A.name s) (name_sym (A.name r) h.name p) e)
              q);
        }

    -- A type that derives one tree of a merged type covers it, if each of the trees has its sole type.
    covers : {k j : ℕ} {r : State} {t : Tree} → Member k r → Accepts A r t → Derives H j t → AllSole A G Member H k j
        → Covers A G Member H k j
    covers {k} {j} {r} m a d sole s n u b =
        let o = sole s n u b in
        subst (λ (l : ℕ). Derives H l u) (sym (o.alone (competing (merge.one_name k r s m n) a b d o.derived))) o.derived

    covers_all : {w v : List ℕ} {u : List State} {ts : Forest} → Forall₂ Member w u → AcceptsAll A u ts → DerivesAll H v ts
        → ((k j : ℕ) → Memᴰ k w → Memᴰ j v → AllSole A G Member H k j) → Forall₂ (Covers A G Member H) w v
    covers_all Forall₂.nil accepts_none derives_none sole = Forall₂.nil
    covers_all (Forall₂.cons {a = k} m ms) (accepts_next a all) (derives_next {k = j} d ds) sole =
        Forall₂.cons
        (covers m a d (sole k j (Memᴰ.head refl) (Memᴰ.head refl)))
        (covers_all ms all ds (λ l i p q. sole l i (Memᴰ.tail p) (Memᴰ.tail q)))

    -- Where a type is for text, so is the one rule of its name in a type that covers it: a step for text, filled with trees, is a node
    -- with text that a member accepts.
    text_covered : OneRuleAPair H → {k j : ℕ} {h i : Head} {w v : List ℕ} → Covers A G Member H k j → Fits G k h w → h.text ≡ true
        → (f : Fits H j i v) → SameName h.name i.name → f.rule.text ≡ true
    text_covered one_each {k} {j} {h} {i} {w} c g_fits e f same =
        let s = merge.textual k h w g_fits e in
        let filled = fill A s.next s.alive in
        go (c s.state s.member (node (record { name = h.name; text = true }) filled.trees)
        (accepts (member_named g_fits s.member) s.step filled.accepted))
      where
        go : {ts : Forest} → Derives H j (node (record { name = h.name; text = true }) ts) → f.rule.text ≡ true
        go (derives f' ds) =
            subst (λ (r : Rule). r.text ≡ true) (one_fitting H names one_each f' f same) (f'.of_text refl)

    pub least_merge : OneRuleAPair H → LetsInAll H (AcceptsDocument A) → Tells A G Member H → LetsInAll H (LetsIn G)
    least_merge one_each keeps tells = covered_let_in (record { starts = start_covers; words = word_covers })
      where
        start_covers : (k : ℕ) (h : Head) (w : List ℕ) → Memᴰ k G.starts → Fits G k h w
            → StartCover G H (Covers A G Member H) k
        start_covers k h w m f =
            let s = tells.start_member k h w m f in
            let a = s.alive.accepted in
            let l = keeps s.alive.tree (record { start = s.state; of_automaton = s.start; accepted = a }) in
            record {
              type = l.start;
              of_table = l.of_table;
              covers = covers s.member a l.derived (tells.start_sole k l.start m l.of_table);
            }

        word_covers : (k j : ℕ) (h : Head) (w : List ℕ) → Covers A G Member H k j → Fits G k h w
            → WordCover G H (Covers A G Member H) j h w
        word_covers k j h w c f =
            let b = merge.backward k h w f in
            let filled = fill A b.next b.alive in
            go b.members filled.accepted
            (c b.state b.member (node (record { name = h.name; text = false }) filled.trees)
            (accepts b.named b.step filled.accepted))
          where
            go : {u : List State} {ts : Forest} → Forall₂ Member w u → AcceptsAll A u ts
                → Derives H j (node (record { name = h.name; text = false }) ts) → WordCover G H (Covers A G Member H) j h w
            go ms all (derives {w = v} f' ds) =
                let fits : Fits H j h v =
                record {
                  rule = f'.rule;
                  of_table = f'.of_table;
                  of_type = f'.of_type;
                  of_name = f'.of_name;
                  of_text = λ e. text_covered one_each c f e f' (name_refl h.name);
                  word = f'.word;
                }
                in
                record { word = v; fits = fits; covers = covers_all ms all ds (tells.word_sole k j h w v c f fits) }
