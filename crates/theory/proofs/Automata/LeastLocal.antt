-- A merge in which each member is reached from a start state, and in which each start type has a start state as a member.
--     least_local    a local table that lets in all that the automaton accepts lets in all that the merge lets in
use Prim.Native.Nat.{ℕ}
use mathlib.Core.Bool.{false}
use mathlib.Core.List.{List, Memᴰ}
use Rattle.grammar.specs.Tree.{Head, Tree, node, Forest}
use Rattle.grammar.specs.Table.{Table, DistinctNames}
use Rattle.grammar.specs.Derivation.{Derives, derives, LetsIn}
use Rattle.grammar.specs.Kinds.{Local}
use Rattle.grammar.specs.Least.{LetsInAll}
use Rattle.theory.proofs.Trees.NameLaws.{name_refl}
use Rattle.theory.proofs.Tables.KindLaws.{local_compete, local_single_type}
use Rattle.theory.proofs.Automata.Automaton.{Automaton, Accepts, accepts, AcceptsDocument, AllAlive, fill_at}
use Rattle.theory.proofs.Automata.Merge.{Merge}
use Rattle.theory.proofs.Automata.LeastMerge.{StartMember, AllSole, among_derived, least_merge}
use Rattle.theory.proofs.Trees.TreeParts.{trees_of}

-- a start state, or in a step, all of it alive, of a state that is reached
pub data Reached {State : Type 0} (A : Automaton State) : State → Type 0 where
  at_start : {s : State} → A.Start s → Reached A s
  by_step : {r s : State} {u : List State} → Reached A r → A.Step r false u → AllAlive A u → Memᴰ s u → Reached A s

pub record LocalMerge {State : Type 0} (A : Automaton State) (G : Table) (Member : ℕ → State → Type 0) : Type 0 where
  pub merge : Merge A G Member
  pub reached : (k : ℕ) (s : State) → Member k s → Reached A s
  pub start_members : (k : ℕ) → Memᴰ k G.starts → StartMember A G Member k

-- some type derives the tree
pub record Derived (H : Table) (t : Tree) : Type 0 where
  pub type : ℕ
  pub derived : Derives H type t

module _ {State : Type 0} {A : Automaton State} (H : Table) (keeps : LetsInAll H (AcceptsDocument A)) where
  pub reached_derived : {s : State} → Reached A s → (t : Tree) → Accepts A s t → Derived H t
  reached_derived (at_start {s = s} start) t a =
      let l = keeps t (record { start = s; of_automaton = start; accepted = a }) in
      record { type = l.start; derived = l.derived }
  reached_derived (by_step {r = r} reached step alive within) t a =
      let filled = fill_at A within alive a in
      go
      (reached_derived reached (node (record { name = A.name r; text = false }) filled.trees)
      (accepts (name_refl (A.name r)) step filled.accepted)).derived
      filled.among
    where
      go : {h : Head} {ts : Forest} {k : ℕ} → Derives H k (node h ts) → Memᴰ t (trees_of ts) → Derived H t
      go (derives f all) among = let d = among_derived all among in record { type = d.type; derived = d.derived }

module _ {State : Type 0} {A : Automaton State} {G : Table} {Member : ℕ → State → Type 0} (merged : LocalMerge A G Member)
    (H : Table) (names : DistinctNames H) (kind : Local H) (keeps : LetsInAll H (AcceptsDocument A)) where
  -- Whatever type derives the tree, no other has a rule with its label.
  sole : (k j : ℕ) → AllSole A G Member H k j
  sole k j s m t a =
      let d = reached_derived H keeps (merged.reached k s m) t a in
      record { type = d.type; derived = d.derived; alone = local_compete H kind j d.type }

  pub least_local : LetsInAll H (LetsIn G)
  least_local =
      least_merge merged.merge H names (local_single_type H kind).rules keeps
      (record {
        start_member = λ k h w m f. merged.start_members k m;
        start_sole = λ k j p q. sole k j;
        word_sole = λ k j h w v c f f' l i p q. sole l i;
      })
