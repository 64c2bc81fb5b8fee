-- A table and the states of an automaton: each of its types has some states as members.
--     Embeds    each step of a member is a word of the type: what the automaton accepts, the table lets in (`accepted_let_in`)
--     Merge     and each word of a type is, up to text, a step of a member, and a type for text has a member with a step for text
use Prim.Native.Nat.{ℕ}
use mathlib.Core.Bool.{Bool, true, false}
use mathlib.Core.List.{List, Memᴰ, Forall₂}
use mathlib.Core.Path.{◌≡◌, refl}
use Rattle.grammar.specs.Names.{Name, SameName}
use Rattle.grammar.specs.Tree.{Head, Tree, Forest}
use Rattle.grammar.specs.Table.{Table}
use Rattle.grammar.specs.Derivation.{Fits, Derives, derives, DerivesAll, derives_none, derives_next, LetsIn}
use Rattle.theory.proofs.Automata.Automaton.{
  Automaton,
  Accepts,
  accepts,
  AcceptsAll,
  accepts_none,
  accepts_next,
  AcceptsDocument,
  AllAlive,
}
use Rattle.theory.proofs.Tables.SameTree.{same_fits}

module _ {State : Type 0} (A : Automaton State) (G : Table) (Member : ℕ → State → Type 0) where
  -- a word of the type that a step of a member gives
  pub record Forth (k : ℕ) (s : State) (text : Bool) (u : List State) : Type 0 where
    pub word : List ℕ
    pub fits : Fits G k (record { name = A.name s; text = text }) word
    pub members : Forall₂ Member word u

  -- a step of a member of the type, all of it alive, that gives the word
  pub record Back (k : ℕ) (n : Name) (w : List ℕ) : Type 0 where
    pub state : State
    pub member : Member k state
    pub named : SameName (A.name state) n
    pub next : List State
    pub step : A.Step state false next
    pub members : Forall₂ Member w next
    pub alive : AllAlive A next

  -- a step of a member of the type, all of it alive, for nodes with text
  pub record TextStep (k : ℕ) : Type 0 where
    pub state : State
    pub member : Member k state
    pub next : List State
    pub step : A.Step state true next
    pub alive : AllAlive A next

  -- a start type of which the state is a member
  pub record StartType (s : State) : Type 0 where
    pub type : ℕ
    pub of_table : Memᴰ type G.starts
    pub member : Member type s

  pub record Embeds : Type 0 where
    pub forward : (k : ℕ) (s : State) (text : Bool) (u : List State) → Member k s → A.Step s text u → Forth k s text u
    pub starts : (s : State) → A.Start s → StartType s

  pub record Merge : Type 0 where
    pub one_name : (k : ℕ) (r s : State) → Member k r → Member k s → SameName (A.name r) (A.name s)
    pub backward : (k : ℕ) (h : Head) (w : List ℕ) → Fits G k h w → Back k h.name w
    pub textual : (k : ℕ) (h : Head) (w : List ℕ) → Fits G k h w → h.text ≡ true → TextStep k

module _ {State : Type 0} {A : Automaton State} {G : Table} {Member : ℕ → State → Type 0} (embeds : Embeds A G Member) where
  mutual
    pub accepted_derived : {s : State} {t : Tree} → Accepts A s t → (k : ℕ) → Member k s → Derives G k t
    accepted_derived (accepts {s = s} {h = h} {u = u} e step all) k m =
        let f = embeds.forward k s h.text u m step in
        derives (same_fits f.fits e refl) (accepted_derived_all all f.members)

    pub accepted_derived_all : {u : List State} {ts : Forest} → AcceptsAll A u ts → {w : List ℕ} → Forall₂ Member w u
        → DerivesAll G w ts
    accepted_derived_all accepts_none Forall₂.nil = derives_none
    accepted_derived_all (accepts_next a all) (Forall₂.cons {a = k} m ms) =
        derives_next (accepted_derived a k m) (accepted_derived_all all ms)

  pub accepted_let_in : (d : Tree) → AcceptsDocument A d → LetsIn G d
  accepted_let_in d a =
      let s = embeds.starts a.start a.of_automaton in
      record { start = s.type; of_table = s.of_table; derived = accepted_derived a.accepted s.type s.member }
