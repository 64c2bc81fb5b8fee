-- A merge in which each member of a type within a word of a type k arises from a step of a member of k, and in which the members of
-- start types are start states.
--     least_single_type    a single-type table that lets in all that the automaton accepts lets in all that the merge lets in
use Prim.Native.Nat.{ℕ}
use mathlib.Core.Bool.{false}
use mathlib.Core.List.{List, Memᴰ}
use mathlib.Core.Path.{subst}
use Rattle.grammar.specs.Content.{types_in}
use Rattle.grammar.specs.Tree.{Head, node, Forest}
use Rattle.grammar.specs.Table.{Rule, Table, DistinctNames}
use Rattle.grammar.specs.Derivation.{Fits, Derives, derives, LetsIn}
use Rattle.grammar.specs.Kinds.{SingleType}
use Rattle.grammar.specs.Least.{LetsInAll}
use Rattle.theory.proofs.Trees.NameLaws.{name_refl}
use Rattle.theory.proofs.Contents.Standing.{word_stands}
use Rattle.theory.proofs.Tables.KindLaws.{one_fitting}
use Rattle.theory.proofs.Automata.Automaton.{Automaton, accepts, AcceptsDocument, AllAlive, fill, fill_at}
use Rattle.theory.proofs.Automata.Merge.{Merge}
use Rattle.theory.proofs.Automata.LeastMerge.{Sole, StartMember, Covers, AllSole, among_derived, member_named, least_merge}
use Rattle.theory.proofs.Trees.TreeParts.{trees_of}

module _ {State : Type 0} (A : Automaton State) (G : Table) (Member : ℕ → State → Type 0) where
  -- the state stands in a step, all of it alive, of a member of the type
  pub record Arises (k : ℕ) (s : State) : Type 0 where
    pub state : State
    pub member : Member k state
    pub next : List State
    pub step : A.Step state false next
    pub alive : AllAlive A next
    pub within : Memᴰ s next

  pub record SingleTypeMerge : Type 0 where
    pub merge : Merge A G Member
    pub arises : (k : ℕ) (h : Head) (w : List ℕ) → Fits G k h w → (l : ℕ) → Memᴰ l w → (s : State) → Member l s → Arises k s
    pub start_states : (k : ℕ) → Memᴰ k G.starts → (s : State) → Member k s → A.Start s

module _ {State : Type 0} {A : Automaton State} {G : Table} {Member : ℕ → State → Type 0} (single : SingleTypeMerge A G Member)
    (H : Table) (names : DistinctNames H) (kind : SingleType H) (keeps : LetsInAll H (AcceptsDocument A)) where
  start_member : (k : ℕ) (h : Head) (w : List ℕ) → Memᴰ k G.starts → Fits G k h w → StartMember A G Member k
  start_member k h w m f =
      let b = single.merge.backward k h w f in
      let filled = fill A b.next b.alive in
      record {
        state = b.state;
        member = b.member;
        start = single.start_states k m b.state b.member;
        alive =
            record {
              tree = node (record { name = h.name; text = false }) filled.trees;
              accepted = accepts b.named b.step filled.accepted;
            };
      }

  start_sole : (k j : ℕ) → Memᴰ k G.starts → Memᴰ j H.starts → AllSole A G Member H k j
  start_sole k j p q s m t a =
      let l = keeps t (record { start = s; of_automaton = single.start_states k p s m; accepted = a }) in
      record { type = l.start; derived = l.derived; alone = kind.starts j l.start q l.of_table }

  -- One rule of the type j has the name, so the types of all its words stand in one content.
  word_sole : (k j : ℕ) (h : Head) (w v : List ℕ) → Covers A G Member H k j → Fits G k h w → Fits H j h v → (l i : ℕ)
      → Memᴰ l w → Memᴰ i v → AllSole A G Member H l i
  word_sole k j h w v c f f' l i p q s m t a =
      let r = single.arises k h w f l p s m in
      let filled = fill_at A r.within r.alive a in
      go
      (c r.state r.member (node (record { name = h.name; text = false }) filled.trees)
      (accepts (member_named single.merge f r.member) r.step filled.accepted))
      filled.among
    where
      go : {ts : Forest} → Derives H j (node (record { name = h.name; text = false }) ts) → Memᴰ t (trees_of ts) → Sole H i t
      go (derives f'' ds) among =
          let d = among_derived ds among in
          record {
            type = d.type;
            derived = d.derived;
            alone =
                kind.contents f'.rule f'.of_table i d.type (word_stands f'.rule.content v f'.word i q)
                (subst
                (λ (r : Rule). Memᴰ d.type (types_in r.content))
                (one_fitting H names kind.rules f'' f' (name_refl h.name))
                (word_stands f''.rule.content _ f''.word d.type d.within));
          }

  pub least_single_type : LetsInAll H (LetsIn G)
  least_single_type =
      least_merge single.merge H names kind.rules keeps
      (record { start_member = start_member; start_sole = start_sole; word_sole = word_sole })
