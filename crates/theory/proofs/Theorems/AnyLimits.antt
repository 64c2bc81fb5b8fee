-- The limits that the code has room for, and what is promised under them.
--     size_within       the three sizes are within
--     others_within     and so is any other set with the words of the largest and no limit above its limits, zeros included
--     size_there, others_there    and there is a value of each of these limits
--     demands           under any four limits an answer that is settled decides membership and kind, and writes pages, a sample or a least table
use native.Mathlib.Omega.{arith}
use mathlib.Core.List.{List}
use mathlib.Core.Path.{◌≡◌, refl}
use Prim.Native.Nat.{ℕ, ◌≤◌}
use Rattle.grammar.specs.Limits.{Limits, limits_for, small, standard, large}
use Rattle.grammar.specs.LimitSets.{size_limits, limits_of, Within}
use Rattle.grammar.specs.Names.{Classes}
use Rattle.grammar.specs.Kinds.{Kind}
use Rattle.grammar.specs.Answers.{Numbers, bit}
use Rattle.grammar.specs.Calls.{After, answered, wrote, table_lets_in, table_is_of_kind, table_pages, document_sample, widened}
use Rattle.grammar.specs.Promises.{Membership, KindTest, Paging, Sampling, Widening}
use Rattle.grammar.specs.declared.Size.{Size}
use Rattle.grammar.specs.declared.Size.TheVariants.{Small, Standard, Large}
use Rattle.grammar.specs.declared.SizeLimits.{SizeLimits}
use Rattle.grammar.specs.declared.Format.{Format}
use Rattle.grammar.specs.declared.Source.{Source}
use Rattle.theory.proofs.Bytes.NumberedTable.{sized_agree}
use Rattle.theory.proofs.Theorems.CallPromises.{membership, kind_test, paging, sampling, widening}

-- a value of these limits
abbrev pub Sized : Limits → Type 0
Sized lim = (l : SizeLimits) × (limits_of l ≡ lim)

four : (rules nodes levels words : ℕ) → rules ≤ 128 → nodes ≤ 2048 → levels ≤ 64 → 12288 ≤ words → Sized (limits_for rules nodes levels words)
four rules nodes levels words few_rules few_nodes few_levels some_words = (
  record {
    rules = rules;
    nodes = nodes;
    levels = levels;
    words = words;
    rules_fit = few_rules;
    nodes_fit = few_nodes;
    levels_fit = few_levels;
    words_suffice = some_words;
  },
  refl,
)

-- a value is within, by what its type asks
within : (l : SizeLimits) → Within l
within l = record { rules = l.rules_fit; nodes = l.nodes_fit; levels = l.levels_fit; words = l.words_suffice }

pub size_within : (size : Size) (l : SizeLimits) → limits_of l ≡ size_limits size → Within l
size_within size l e = within l

pub others_within : (l : SizeLimits) → l.words ≡ 32768 → l.rules ≤ 128 → l.nodes ≤ 2048 → l.levels ≤ 64 → Within l
others_within l words rules nodes levels = within l

pub size_there : (size : Size) → Sized (size_limits size)
unfolding size_limits small standard large
size_there Small = four 16 256 16 12288 (omega arith) (omega arith) (omega arith) (omega arith)
size_there Standard = four 64 1024 64 16384 (omega arith) (omega arith) (omega arith) (omega arith)
size_there Large = four 128 2048 64 32768 (omega arith) (omega arith) (omega arith) (omega arith)

pub others_there : (rules nodes levels : ℕ) → rules ≤ 128 → nodes ≤ 2048 → levels ≤ 64 → Sized (limits_for rules nodes levels 32768)
others_there rules nodes levels few_rules few_nodes few_levels = four rules nodes levels 32768 few_rules few_nodes few_levels (omega arith)

-- Every answer that is as the definition gives it keeps the demands.
pub record Demands (lim : Limits) (classes : Classes) : Type 0 where
  pub lets_in : (table : List ℕ) (format : Format) (document work : List ℕ) (left : After Numbers)
      → left ≡ answered lim bit (table_lets_in lim classes table format document work) work
      → Membership lim classes table format document work left
  pub is_of_kind : (kind : Kind) (table work : List ℕ) (left : After Numbers)
      → left ≡ answered lim bit (table_is_of_kind lim classes kind table work) work → KindTest lim classes kind table work left
  pub prints : (table out work : List ℕ) (left : After Numbers) → left ≡ wrote lim (table_pages lim classes table out work) out work
      → Paging lim classes table out work left
  pub samples : (format : Format) (document out work : List ℕ) (left : After Numbers)
      → left ≡ wrote lim (document_sample lim classes format document out work) out work
      → Sampling lim classes format document out work left
  pub widens : (kind : Kind) (source : Source) (old addition out work : List ℕ) (left : After Numbers)
      → left ≡ wrote lim (widened lim classes kind source old addition out work) out work
      → Widening lim classes kind source old addition out work left

pub demands : (rules nodes levels words : ℕ) (classes : Classes) → Demands (limits_for rules nodes levels words) classes
demands rules nodes levels words classes =
    let lim : Limits = limits_for rules nodes levels words in
    record {
      lets_in = membership lim classes;
      is_of_kind = kind_test lim classes;
      prints = paging lim classes;
      samples = sampling lim classes (sized_agree rules nodes levels words);
      widens = widening lim classes (sized_agree rules nodes levels words);
    }
