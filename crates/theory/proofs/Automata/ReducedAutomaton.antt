-- The automaton of a reduced table.
--     type_alive      each type that has a rule accepts some tree
--     step_rules      the types of a step have rules, step_alive and so accept some tree
--     rule_step       each rule has a step, for text if the rule is for text
--     type_reached    a type that is reached from a start is so through steps
use Prim.Native.Nat.{ℕ}
use mathlib.Core.Bool.{Bool, true, false, false≢true}
use mathlib.Core.List.{List, Memᴰ}
use mathlib.Core.Path.{◌≡◌, refl, subst}
use Rattle.grammar.specs.Content.{Word}
use Rattle.grammar.specs.Tree.{Tree}
use Rattle.grammar.specs.Table.{Rule, Table}
use Rattle.grammar.specs.Derivation.{Derives, derives}
use Rattle.theory.proofs.Contents.Standing.{word_stands}
use Rattle.theory.proofs.Tables.KindLaws.{one_rule}
use Rattle.theory.proofs.Automata.Automaton.{Alive, AllAlive}
use Rattle.theory.proofs.Automata.LeastLocal.{Reached, at_start, by_step}
use Rattle.theory.proofs.Automata.TableAutomaton.{Steps, table_automaton, type_accepts}
use Rattle.theory.proofs.Tables.ReducedTable.{ReducedTable}
use Rattle.theory.proofs.Tables.TableConditions.{HasRule, Reaches, from_start, through}

module _ (g : Table) (reduced : ReducedTable g) where
  pub type_alive : {k : ℕ} → HasRule g k → Alive (table_automaton g) k
  type_alive {k} h =
      let d = reduced.derives_some h.rule h.of_table in
      record {
        tree = d.0;
        accepted =
            (type_accepts g reduced.one_rule_each reduced.labelled k d.0).1
            (subst (λ (j : ℕ). Derives g j d.0) h.of_type d.1);
      }

  -- the types of a step have rules
  pub step_rules : {k : ℕ} {text : Bool} {u : List ℕ} → Steps g k text u → (j : ℕ) → Memᴰ j u → HasRule g j
  step_rules {u = u} step j at =
      reduced.content_rules step.rule step.of_table j (word_stands step.rule.content u step.word j at)

  pub step_alive : {k : ℕ} {text : Bool} {u : List ℕ} → Steps g k text u → AllAlive (table_automaton g) u
  step_alive step j at = type_alive (step_rules step j at)

  pub rule_step : (r : Rule) → Memᴰ r g.rules → (text : Bool) → (text ≡ true → r.text ≡ true)
      → (u : List ℕ) × Steps g r.type text u
  rule_step r m text marked = go (reduced.derives_some r m).1
    where
      go : {t : Tree} → Derives g r.type t → (u : List ℕ) × Steps g r.type text u
      go (derives {w = w} f all) =
          let same = one_rule g (λ r s. r.type ≡ s.type) reduced.one_rule_each f.rule r f.of_table m f.of_type in
          let word = subst (λ (q : Rule). Word q.content w) same f.word in
          (w, record { rule = r; of_table = m; of_type = refl; of_text = marked; word = word })

  pub type_reached : {k : ℕ} → Reaches g k → Reached (table_automaton g) k
  type_reached (from_start m) = at_start m
  type_reached (through {r = r} {k = k} m before at) =
      let w = reduced.content_words r m k at in
      let step : Steps g r.type false w.0 =
      record { rule = r; of_table = m; of_type = refl; of_text = λ e. absurd (false≢true e); word = w.1 }
      in
      by_step (type_reached before) step (step_alive step) w.2
