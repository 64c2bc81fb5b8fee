-- The contents of a sample, by arrays of parents and types.
use Rattle.std.specs.Prelude.{
  ℕ,
  suc,
  ◌+◌,
  ◌-◌,
  ◌≤◌,
  ◌<◌,
  Bool,
  true,
  false,
  ◌&&◌,
  List,
  [],
  map,
  ◌≡◌,
  eqb,
  ltb,
  length,
  get_or,
  Err,
  Ok,
  Result,
}
use Rattle.std.proofs.Math.Option.{some as just}
use Rattle.grammar.specs.Limits.{large, content_limit, child_limit}
use Rattle.grammar.specs.Lists.{keep, numbers_from, numbers_below}
use Rattle.grammar.specs.Content.{Content, operands, choice_of}
use Rattle.grammar.specs.ReadContent.{operand_bytes}
use Rattle.grammar.specs.Size.{content_too_large}
use Rattle.grammar.specs.Sample.{Run, run_content, sequence_of}
use Rattle.grammar.specs.declared.TooLarge.{TooLarge}
use Rattle.theory.specs.Alternatives.{gathered}
use Rattle.reader.specs.ExprAt.{◌up_to◌, expr_at}
use Rattle.operands.specs.declared.drafts.OperandRow.{OperandRow}

-- A content is made in scratch bytes: where its operands end at most, where it ends, and how many bytes are lent.
abbrev pub operands_end : ℕ
operands_end = 4 + content_limit

abbrev pub rule_end : ℕ
rule_end = 2 + content_limit

abbrev pub scratch_bytes : ℕ
scratch_bytes = 2048

-- the types of a node's children: the later nodes of which it is the parent
abbrev pub kid_types : (parents types : List ℕ) → ℕ → ℕ → List ℕ
kid_types parents types n i =
    map (λ (j : ℕ). get_or types j 0) (keep (λ (j : ℕ). eqb (get_or parents j 0) i) (numbers_from (suc i) (n - suc i)))

-- the child after the one at a place is of the same type
abbrev pub goes_on : List ℕ → ℕ → Bool
goes_on ks at = ltb (at + 1) (length ks) && eqb (get_or ks at 0) (get_or ks (at + 1) 0)

-- a run, and the bytes of runs one after the other
abbrev pub run : ℕ → Bool → Run
run k several = record { type = k; several = several }

abbrev pub runs_bytes : List Run → List ℕ
runs_bytes rs = operand_bytes (operands (map run_content rs))

-- the arrays hold the parents and types of nodes, of which none has too many children, and the types are bytes
pub record NodesHeld (parents types : List ℕ) (n : ℕ) : Type 0 where
  pub few : (i : ℕ) → i < n → length (kid_types parents types n i) ≤ child_limit
  pub parents_held : n ≤ length parents
  pub types_held : n ≤ length types
  pub fits : n < 65536
  pub bytes : (j : ℕ) → j < n → get_or types j 0 < 256

-- the child sequence of a node, and those of the nodes of a type, up to a node
abbrev pub sequence_in : (parents types : List ℕ) → ℕ → ℕ → Content
sequence_in parents types n i = sequence_of (kid_types parents types n i)

abbrev pub sequences_among : (parents types : List ℕ) → ℕ → ℕ → List ℕ → List Content
sequences_among parents types n k nodes = map (sequence_in parents types n) (keep (λ (j : ℕ). eqb (get_or types j 0) k) nodes)

-- the operands of a content, after the type and the label of its rule and two bytes for a choice: so many up to here, and none yet
abbrev pub sequence_row : (count end : ℕ) → OperandRow
sequence_row count end = record { base = 4; count = count; end = end; limit = operands_end }

abbrev pub no_sequences : OperandRow
no_sequences = sequence_row 0 4

-- the content of a type
abbrev pub content_in : (parents types : List ℕ) → ℕ → ℕ → Content
content_in parents types n k = choice_of (gathered [] (sequences_among parents types n k (numbers_below n)))

-- the content stands in a draft from the second place on; or it is too large
abbrev pub ContentMade : List ℕ → Content → Result ℕ TooLarge → Type 0
ContentMade draft c (Ok stop) =
    (expr_at draft 2 ≡ just (c up_to stop)) × (stop ≤ rule_end) × (content_too_large large c ≡ false)
ContentMade draft c (Err over) = content_too_large large c ≡ true
