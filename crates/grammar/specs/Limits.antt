-- The limits of files. Every definition that reads one takes this record as an argument.
use Rattle.std.specs.Prelude.{ℕ, ◌≤◌}

pub record Limits : Type 0 where
  pub words : ℕ  -- working words that a call needs
  pub input : ℕ  -- bytes of an input or a result
  pub name : ℕ  -- bytes of a name
  pub labels : ℕ
  pub starts : ℕ
  pub rules : ℕ
  pub types : ℕ  -- types are the numbers below this
  pub content : ℕ  -- bytes of a content
  pub operands : ℕ  -- operands of a sequence or a choice
  pub nesting : ℕ
  pub children : ℕ  -- children of a node
  pub nodes : ℕ
  pub levels : ℕ  -- the root is level 1

-- Some of them by name, for contracts.
abbrev pub input_limit : ℕ
input_limit = 32768

abbrev pub name_limit : ℕ
name_limit = 63

abbrev pub content_limit : ℕ
content_limit = 1024

abbrev pub operand_limit : ℕ
operand_limit = 255

abbrev pub nesting_limit : ℕ
nesting_limit = 32

abbrev pub child_limit : ℕ
child_limit = 200

-- A size of site sets four limits: rules, nodes, levels and working words. Labels, starts and types are limited as rules are, and the
-- other limits are the same for all sizes.
abbrev pub limits_for : (rules nodes levels words : ℕ) → Limits
limits_for rules nodes levels words =
    record {
      words = words;
      input = input_limit;
      name = name_limit;
      labels = rules;
      starts = rules;
      rules = rules;
      types = rules;
      content = content_limit;
      operands = operand_limit;
      nesting = nesting_limit;
      children = child_limit;
      nodes = nodes;
      levels = levels;
    }

-- the three sizes: that of a kiosk, that of document 01, that of a campus
unfoldable pub small : Limits
small = limits_for 16 256 16 12288

unfoldable pub standard : Limits
standard = limits_for 64 1024 64 16384

unfoldable pub large : Limits
large = limits_for 128 2048 64 32768

-- A file may have as many labels, starts and rules as types, and a content may name as many types as a node has children.
pub record LimitsAgree (lim : Limits) : Type 0 where
  pub labels : lim.types ≤ lim.labels
  pub starts : lim.types ≤ lim.starts
  pub rules : lim.types ≤ lim.rules
  pub children : lim.children ≤ lim.operands

-- No limit of one set is above the other's. The working words are no limit of a file, and are left aside.
pub record NoneAbove (lim lim' : Limits) : Type 0 where
  pub input : lim.input ≤ lim'.input
  pub name : lim.name ≤ lim'.name
  pub labels : lim.labels ≤ lim'.labels
  pub starts : lim.starts ≤ lim'.starts
  pub rules : lim.rules ≤ lim'.rules
  pub types : lim.types ≤ lim'.types
  pub content : lim.content ≤ lim'.content
  pub operands : lim.operands ≤ lim'.operands
  pub nesting : lim.nesting ≤ lim'.nesting
  pub children : lim.children ≤ lim'.children
  pub nodes : lim.nodes ≤ lim'.nodes
  pub levels : lim.levels ≤ lim'.levels
