-- The values of the calls that write: a table that is given has at most 32,768 bytes, and pages at most 183,960, so no length written
-- reaches 2^32.
--   sampled_value, widened_value, most_below
use Prim.Native.Nat.{ℕ, ◌≤◌, ◌<◌}
use native.Mathlib.Omega.{arith}
use mathlib.Core.Bool.{Bool, true, false}
use mathlib.Core.List.{List}
use mathlib.Core.Path.{◌≡◌, refl, sym, ap, subst}
use lib.ListN.{length}
use lib.Dec.{ltb}
use Rattle.grammar.specs.Limits.{Limits, input_limit, small, standard, large}
use Rattle.grammar.specs.LimitSets.{size_limits}
use Rattle.grammar.specs.declared.Size.{Size}
use Rattle.grammar.specs.declared.Size.TheVariants.{Small, Standard, Large}
use Rattle.grammar.specs.Names.{Classes}
use Rattle.grammar.specs.Tree.{Tree}
use Rattle.grammar.specs.Table.{Table}
use Rattle.grammar.specs.Kinds.{Kind}
use Rattle.grammar.specs.Least.{Addition, by_table, by_document}
use Rattle.std.specs.Prelude.{Result, Ok, Err}
use Rattle.grammar.specs.Outcome.{◌>>=◌, ◌>>◌, turn_back}
use Rattle.grammar.specs.declared.Refusal.{Refusal}
use Rattle.grammar.specs.Answers.{Numbers, refused_by, numbers_of}
use Rattle.grammar.specs.WriteTable.{table_bytes}
use Rattle.grammar.specs.Sample.{sample}
use Rattle.grammar.specs.Size.{too_large}
use Rattle.grammar.specs.Widen.{of_size, sample_table, widen_by_table, widen}
use Rattle.grammar.specs.Calls.{written_to, table_reads, document_reads, document_sample, read_addition, widened, After, after, wrote}
use Rattle.grammar.specs.Promises.{Sampling, Widening}
use Rattle.grammar.specs.declared.Format.{Format}
use Rattle.grammar.specs.declared.Source.{Source}
use Rattle.grammar.specs.declared.Refusal.TheVariants.{ResultTooLarge, OutputTooShort}
use Rattle.theory.proofs.Bytes.OutcomeLaws.{was_given, had_no_fault, given_eq}
use Rattle.theory.proofs.Bytes.NumberedTable.{table_small}
use Rattle.theory.proofs.Theorems.WidenLeast as widening
use Rattle.pages.specs.MostBytes.{most_bytes}

-- the value told for an outcome is below 2^32
abbrev Below : Result (List ℕ) Refusal → Type 0
Below o = (numbers_of length o).value < 4294967296

-- after a step, if it is so for whatever the step gives
then_below : {A : Type 0} (o : Result A Refusal) (next : A → Result (List ℕ) Refusal) → ((a : A) → o ≡ Ok a → Below (next a))
    → Below (o >>= next)
unfolding numbers_of refused_by
then_below (Err r) next h = omega arith
then_below (Ok a) next h = h a refl

-- a table of at most 32,768 bytes
table_below : (out : List ℕ) (g : Table) → length (table_bytes g) ≤ input_limit → Below (written_to out g)
unfolding written_to numbers_of refused_by
table_below out g h = go (ltb (length out) (length (table_bytes g)))
  where
    go : (short : Bool) → Below (turn_back short OutputTooShort >> Ok (table_bytes g))
    go true = omega arith
    go false = omega arith

module _ (lim : Limits) (same_input : lim.input ≡ input_limit) where
  sample_size : (d : Tree) (g : Table) → sample_table lim d ≡ Ok g → length (table_bytes g) ≤ input_limit
  unfolding sample_table of_size
  sample_size d g e =
      let (small, same) = had_no_fault (too_large lim (sample d)) ResultTooLarge (Ok (sample d)) g e in
      subst (λ (r : Table). length (table_bytes r) ≤ input_limit) (given_eq same) (let size = (table_small lim (sample d) small).size in omega arith)

  result_size : (kind : Kind) (old addition result : Table) → widen_by_table lim kind old addition ≡ Ok result
      → length (table_bytes result) ≤ input_limit
  result_size kind old addition result e =
      let w = widening.widened lim kind old addition result e in
      subst (λ (r : Table). length (table_bytes r) ≤ input_limit) (sym w.made) (let size = w.small.size in omega arith)

  widen_size : (kind : Kind) (old : Table) (addition : Addition) (result : Table) → widen lim kind old addition ≡ Ok result
      → length (table_bytes result) ≤ input_limit
  unfolding widen
  widen_size kind old (by_table a) result e = result_size kind old a result e
  widen_size kind old (by_document d) result e =
      let (a, _, p) = was_given (sample_table lim d) (λ a. widen_by_table lim kind old a) result e in
      result_size kind old a result p

  sample_below : (classes : Classes) (format : Format) (document out work : List ℕ)
      → (numbers_of length (document_sample lim classes format document out work)).value < 4294967296
  unfolding document_sample
  sample_below classes format document out work =
      then_below (document_reads lim classes format document work) _
      (λ d _. then_below (sample_table lim d) _ (λ g e. table_below out g (sample_size d g e)))

  widening_below : (classes : Classes) (kind : Kind) (source : Source) (old addition : List ℕ) (out work : List ℕ)
      → (numbers_of length (widened lim classes kind source old addition out work)).value < 4294967296
  unfolding widened
  widening_below classes kind source old addition out work =
      then_below (table_reads lim classes old work) _
      (λ g _.
      then_below (read_addition lim classes source addition) _
      (λ a _. then_below (widen lim kind g a) _ (λ r e. table_below out r (widen_size kind g a r e))))

-- all sizes have inputs of one length
size_input : (size : Size) → (size_limits size).input ≡ input_limit
unfolding size_limits small standard large
size_input Small = refl
size_input Standard = refl
size_input Large = refl

-- so is the value of what a call promised
pub sampled_value : (size : Size) (classes : Classes) (format : Format) (document out work left kept : List ℕ) (n : Numbers) → Sampling (size_limits size) classes format document out work (after n left kept)
    → n.value < 4294967296
unfolding wrote
sampled_value size classes format document out work left kept n s =
    let same = ap (λ (a : After Numbers). a.answer.value) s.settled in
    let below = sample_below (size_limits size) (size_input size) classes format document out work in
    omega arith

pub widened_value : (size : Size) (classes : Classes) (kind : Kind) (source : Source) (old addition : List ℕ) (out work left kept : List ℕ) (n : Numbers)
    → Widening (size_limits size) classes kind source old addition out work (after n left kept) → n.value < 4294967296
unfolding wrote
widened_value size classes kind source old addition out work left kept n s =
    let same = ap (λ (a : After Numbers). a.answer.value) s.settled in
    let below = widening_below (size_limits size) (size_input size) classes kind source old addition out work in
    omega arith

-- and that of pages
pub most_below : (size : Size) {n : ℕ} → n ≤ most_bytes size → n < 4294967296
most_below Small h = omega arith
most_below Standard h = omega arith
most_below Large h = omega arith
