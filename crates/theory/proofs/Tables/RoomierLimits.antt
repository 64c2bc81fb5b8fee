-- What is within some limits is within all that are nowhere below them:
--     proper_roomier, are_proper_roomier    of a proper content, of proper operands
--     counted_roomier                       of a counted content
--     content_roomier, rule_roomier, table_roomier, document_roomier    of what a file holds
-- Limits that are nowhere above others:
--     none_above_self                       themselves
--     site_below_large                      those of any site with no more rules, nodes and levels than the large size has
--     small_below_large, standard_below_large
use Prim.Native.Nat.{ℕ, ◌≤◌}
use native.Mathlib.Nat.{le_trans}
use native.Mathlib.Omega.{arith}
use mathlib.Core.Bool.{true}
use mathlib.Core.Path.{◌≡◌, refl}
use borrow.Author.Tests.{ltb-true, lt-ltb}
use Rattle.grammar.specs.Limits.{Limits, NoneAbove, limits_for, small, standard, large}
use Rattle.grammar.specs.LimitSets.{limits_of}
use Rattle.grammar.specs.declared.SizeLimits.{SizeLimits}
use Rattle.grammar.specs.Names.{Classes, Name}
use Rattle.grammar.specs.Content.{
  Content,
  none,
  empty,
  type,
  sequence,
  choice,
  any_number,
  one_or_more,
  optional,
  Contents,
  []ᶜ,
  ◌∷ᶜ◌,
}
use Rattle.grammar.specs.Tree.{Tree}
use Rattle.grammar.specs.Table.{Rule, Table}
use Rattle.grammar.specs.ReadContent.{is_proper, are_proper}
use Rattle.grammar.specs.ReadDocument.{Node}
use Rattle.grammar.specs.WithinLimits.{NameWithin, ContentWithin, RuleWithin, TableWithin, NodeWithin, TreeWithin, DocumentWithin}
use Rattle.theory.specs.Conditions.{Counted, AllCounted}
use Rattle.theory.proofs.Lists.BoolLaws.{and_left, and_right, and_intro}
use Rattle.theory.proofs.Contents.ProperContents.{proper_operands}

module _ {lim lim' : Limits} (none_above : NoneAbove lim lim') where
  operands_roomier : (cs : Contents) → (are_proper lim cs ≡ true → are_proper lim' cs ≡ true) → is_proper lim (sequence cs) ≡ true
      → is_proper lim' (sequence cs) ≡ true
  unfolding is_proper
  operands_roomier cs each e =
      let (some, few, proper) = (proper_operands lim cs).0 e in
      let roomier = none_above.operands in
      (proper_operands lim' cs).1 (some, omega arith, each proper)

  mutual
    unfolding is_proper are_proper

    pub proper_roomier : (c : Content) → is_proper lim c ≡ true → is_proper lim' c ≡ true
    proper_roomier none e = refl
    proper_roomier empty e = refl
    proper_roomier (type k) e =
        let below = ltb-true k lim.types e in
        let roomier = none_above.types in
        lt-ltb k lim'.types (omega arith)
    proper_roomier (sequence cs) e = operands_roomier cs (λ h. are_proper_roomier cs h) e
    proper_roomier (choice cs) e = operands_roomier cs (λ h. are_proper_roomier cs h) e
    proper_roomier (any_number c) e = proper_roomier c e
    proper_roomier (one_or_more c) e = proper_roomier c e
    proper_roomier (optional c) e = proper_roomier c e

    pub are_proper_roomier : (cs : Contents) → are_proper lim cs ≡ true → are_proper lim' cs ≡ true
    are_proper_roomier []ᶜ e = refl
    are_proper_roomier (c ∷ᶜ cs) e =
        and_intro (is_proper lim' c) (are_proper lim' cs)
        (proper_roomier c (and_left (is_proper lim c) (are_proper lim cs) e))
        (are_proper_roomier cs (and_right (is_proper lim c) (are_proper lim cs) e))

  mutual
    pub counted_roomier : (c : Content) → Counted lim c → Counted lim' c
    counted_roomier none h = tt
    counted_roomier empty h = tt
    counted_roomier (type k) h = tt
    counted_roomier (sequence cs) h = (h.0, le_trans h.1 none_above.operands, all_counted_roomier cs h.2)
    counted_roomier (choice cs) h = (h.0, all_counted_roomier cs h.1)
    counted_roomier (any_number c) h = counted_roomier c h
    counted_roomier (one_or_more c) h = counted_roomier c h
    counted_roomier (optional c) h = counted_roomier c h

    all_counted_roomier : (cs : Contents) → AllCounted lim cs → AllCounted lim' cs
    all_counted_roomier []ᶜ h = tt
    all_counted_roomier (c ∷ᶜ cs) h = (counted_roomier c h.0, all_counted_roomier cs h.1)

  name_roomier : {classes : Classes} {n : Name} → NameWithin lim classes n → NameWithin lim' classes n
  name_roomier within = record { rule = within.rule; size = le_trans within.size none_above.name }

  pub content_roomier : {c : Content} → ContentWithin lim c → ContentWithin lim' c
  content_roomier {c} within =
      record {
        proper = proper_roomier c within.proper;
        size = le_trans within.size none_above.content;
        nests = le_trans within.nests none_above.nesting;
      }

  pub rule_roomier : {labels : ℕ} {r : Rule} → RuleWithin lim labels r → RuleWithin lim' labels r
  rule_roomier within =
      record {
        type = le_trans within.type none_above.types;
        label = within.label;
        content = content_roomier within.content;
      }

  pub table_roomier : {classes : Classes} {g : Table} → TableWithin lim classes g → TableWithin lim' classes g
  table_roomier within =
      record {
        names = λ n m. name_roomier (within.names n m);
        labels_differ = within.labels_differ;
        labels = le_trans within.labels none_above.labels;
        start_types = λ k m. le_trans (within.start_types k m) none_above.types;
        starts_differ = within.starts_differ;
        starts = le_trans within.starts none_above.starts;
        each_rule = λ r m. rule_roomier (within.each_rule r m);
        rules = le_trans within.rules none_above.rules;
        size = le_trans within.size none_above.input;
      }

  node_roomier : {classes : Classes} {n : Node} → NodeWithin lim classes n → NodeWithin lim' classes n
  node_roomier within =
      record { name = name_roomier within.name; children = le_trans within.children none_above.children }

  pub tree_roomier : {classes : Classes} {d : Tree} → TreeWithin lim classes d → TreeWithin lim' classes d
  tree_roomier within =
      record {
        each_node = λ n m. node_roomier (within.each_node n m);
        nodes = le_trans within.nodes none_above.nodes;
        levels = le_trans within.levels none_above.levels;
      }

  pub document_roomier : {classes : Classes} {d : Tree} → DocumentWithin lim classes d → DocumentWithin lim' classes d
  document_roomier within =
      record { tree = tree_roomier within.tree; size = le_trans within.size none_above.input }

pub none_above_self : (lim : Limits) → NoneAbove lim lim
none_above_self lim =
    record {
      input = omega arith;
      name = omega arith;
      labels = omega arith;
      starts = omega arith;
      rules = omega arith;
      types = omega arith;
      content = omega arith;
      operands = omega arith;
      nesting = omega arith;
      children = omega arith;
      nodes = omega arith;
      levels = omega arith;
    }

pub site_below_large : (rules nodes levels words : ℕ) → rules ≤ 128 → nodes ≤ 2048 → levels ≤ 64
    → NoneAbove (limits_for rules nodes levels words) large
unfolding large
site_below_large rules nodes levels words few_rules few_nodes few_levels =
    record {
      input = omega arith;
      name = omega arith;
      labels = few_rules;
      starts = few_rules;
      rules = few_rules;
      types = few_rules;
      content = omega arith;
      operands = omega arith;
      nesting = omega arith;
      children = omega arith;
      nodes = few_nodes;
      levels = few_levels;
    }

pub small_below_large : NoneAbove small large
unfolding small
small_below_large = site_below_large 16 256 16 12288 (omega arith) (omega arith) (omega arith)

pub standard_below_large : NoneAbove standard large
unfolding standard
standard_below_large = site_below_large 64 1024 64 16384 (omega arith) (omega arith) (omega arith)

-- the limits of any size
pub within_large : (l : SizeLimits) → NoneAbove (limits_of l) large
within_large l = site_below_large l.rules l.nodes l.levels l.words l.rules_fit l.nodes_fit l.levels_fit
