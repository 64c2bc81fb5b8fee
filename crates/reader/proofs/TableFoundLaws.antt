-- What a table that was read means for those above:
--   table_found : Loads classes → Reads s (read_table lim classes s) r index → r ≡ Readable → TableFound lim classes s index
--   table_refused : Reads s (read_table lim classes s) r index → r ≡ Unreadable q → read_table lim classes s ≡ refused q
--   held_roomier : a table that is held under some limits is held under roomier ones
--   label_found_at, start_small, rule_found_at : what stands at each number below the count, with its bounds
--   content_in_part : the content of a rule, as the walks over contents have it
use Rattle.reader.specs.declared.index.TableIndex.{TableIndex}
use Prim.Native.Nat.{ℕ, ◌+◌, ◌-◌, ◌<◌}
use native.Mathlib.Omega.{arith}
use mathlib.Core.List.{List, [], append-nil}
use mathlib.Core.Option.{some as just}
use mathlib.Core.Path.{◌≡◌, sym, ◌∙◌, ap}
use lib.ListN.{length, get_elem?}
use Rattle.grammar.specs.Limits.{Limits, NoneAbove, large}
use Rattle.grammar.specs.Names.{Name, Classes, Loads}
use Rattle.grammar.specs.Content.{Content}
use Rattle.grammar.specs.Table.{Rule, Table}
use Rattle.std.specs.Prelude.{Ok, Err, Result}
use Rattle.grammar.specs.ReadContent.{content_bytes}
use Rattle.grammar.specs.ReadTable.{read_table}
use Rattle.grammar.specs.WithinLimits.{NameWithin, RuleWithin, TableWithin}
use Rattle.grammar.specs.declared.Refusal.{Refusal}
use Rattle.theory.specs.Conditions.{all_letters}
use Rattle.theory.proofs.Lists.ListLaws.{at_mem}
use Rattle.theory.proofs.Tables.RoomierLimits.{table_roomier}
use Rattle.theory.proofs.Bytes.ReadWithin.{read_within}
use Rattle.theory.proofs.Bytes.ClassLaws.{all_classed, table_letters}
use Rattle.reader.specs.ExprAt.{◌up_to◌, expr_at}
use Rattle.reader.specs.Held.{Held, SomeHeld}
use Rattle.reader.specs.TableIndex.{
  part,
  label_from,
  label_to,
  start_type,
  rule_type,
  rule_label,
  label_count,
  start_count,
  rule_count,
  BytesStand,
  RuleAt,
  Indexes,
  Reads,
}
use Rattle.reader.proofs.AnswerLaws.{was_readable, was_unreadable}
use Rattle.reader.proofs.ExprLaws.{expr_of}
use Rattle.reader.proofs.TableFaults.{part_size}
use Rattle.reader.proofs.TableIndexLaws.{label_at, start_at, rule_at}

-- the table that was read is held
pub record TableFound (lim : Limits) (classes : Classes) (s : List ℕ) (index : TableIndex) : Type 0 where
  pub some : SomeHeld lim s index
  pub read : read_table lim classes s ≡ Ok some.table

module _ (lim : Limits) (classes : Classes) (s : List ℕ) (r : Result (Unit {0}) Refusal) (index : TableIndex) (so : Reads s (read_table lim classes s) r index) where
  pub table_found : Loads classes → r ≡ Ok tt → TableFound lim classes s index
  table_found load e =
      let all = all_classed classes load in
      let f = was_readable (read_table lim classes s) (sym so.answer ∙ e) in
      record {
        some = record {
          table = f.0;
          held = record { indexes = so.index_of f.0 f.1; within = table_letters (omega arith) (read_within lim classes s f.0 f.1) };
        };
        read = f.1;
      }

  pub table_refused : (q : Refusal) → r ≡ Err q → read_table lim classes s ≡ Err q
  table_refused q e = was_unreadable (read_table lim classes s) q (sym so.answer ∙ e)

module _ {lim lim' : Limits} (none_above : NoneAbove lim lim') where
  pub held_roomier : {s : List ℕ} {index : TableIndex} {g : Table} → Held lim s index g → Held lim' s index g
  held_roomier h = record { indexes = h.indexes; within = table_roomier none_above h.within }

  abbrev pub some_roomier : {s : List ℕ} {index : TableIndex} → SomeHeld lim s index → SomeHeld lim' s index
  some_roomier f = record { table = f.table; held = held_roomier f.held }

-- a content that stands somewhere is the expression in that part
pub content_in_part : {s : List ℕ} {from to : ℕ} (c : Content) → BytesStand s from to (content_bytes c)
    → expr_at (part s from to) 0 ≡ just (c up_to (to - from))
content_in_part {s} {from} {to} c w =
    let size = ap length (sym w.bytes_are) ∙ part_size s from to w.inside in
    let end : 0 + length (content_bytes c) ≡ to - from = omega arith in
    expr_of (part s from to) 0 c [] (w.bytes_are ∙ sym (append-nil (content_bytes c))) ∙ ap (λ (n : ℕ). just (c up_to n)) end

-- a rule at a number below the count
pub record RuleFound (s : List ℕ) (index : TableIndex) (g : Table) (i : ℕ) : Type 0 where
  pub rule : Rule
  pub listed : get_elem? g.rules i ≡ just rule
  pub at : RuleAt s index i rule
  pub within : RuleWithin large (length g.labels) rule
  pub type_below : rule_type index i < 128
  pub label_below : rule_label index i < label_count index

module _ {s : List ℕ} {index : TableIndex} {g : Table} (x : Indexes s index g) (b : TableWithin large all_letters g) where
  -- a label's name is a name
  pub label_found_at : (i : ℕ) → i < label_count index
      → (n : Name) × (get_elem? g.labels i ≡ just n) × BytesStand s (label_from index i) (label_to index i) n × NameWithin large all_letters n
  label_found_at i h =
      let p = label_at x i h in
      (p.0, p.1, p.2, b.names p.0 (at_mem g.labels i p.1))

  pub start_small : (i : ℕ) → i < start_count index → start_type index i < 128
  unfolding large
  start_small i h = b.start_types (start_type index i) (at_mem g.starts i (start_at x i h))

  pub rule_found_at : (i : ℕ) → i < rule_count index → RuleFound s index g i
  unfolding large
  rule_found_at i h =
      let p = rule_at x i h in
      let w = b.each_rule p.0 (at_mem g.rules i p.1) in
      let type = w.type in
      let label = w.label in
      record {
        rule = p.0;
        listed = p.1;
        at = p.2;
        within = w;
        type_below = omega (arith, p.2.type);
        label_below = omega (arith, p.2.label, x.labels);
      }
