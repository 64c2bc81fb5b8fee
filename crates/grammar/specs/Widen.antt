-- Widening a table by a table or by a document, and the sample as a table file.
use Rattle.grammar.specs.Limits.{Limits}
use Rattle.grammar.specs.Tree.{Tree}
use Rattle.grammar.specs.Table.{Table}
use Rattle.grammar.specs.Kinds.{Kind, local, single_type}
use Rattle.grammar.specs.Least.{Addition, by_table, by_document}
use Rattle.std.specs.Prelude.{Result, Ok}
use Rattle.grammar.specs.Outcome.{◌>>=◌, ◌>>◌, turn_back}
use Rattle.grammar.specs.declared.Refusal.{Refusal}
use Rattle.grammar.specs.ReadTable.{is_empty}
use Rattle.grammar.specs.Sample.{sample}
use Rattle.grammar.specs.Unite.{unite}
use Rattle.grammar.specs.Normalise.{normalise}
use Rattle.grammar.specs.Reduce.{reduce}
use Rattle.grammar.specs.LocalForm.{local_form}
use Rattle.grammar.specs.SingleTypeForm.{single_type_form}
use Rattle.grammar.specs.UsedLabels.{with_used_labels}
use Rattle.grammar.specs.Tidy.{tidy_table}
use Rattle.grammar.specs.Size.{too_large}
use Rattle.grammar.specs.declared.Refusal.TheVariants.{NoDocument, ResultTooLarge}

unfoldable pub form : Limits → Kind → Table → Table
unfolding local_form single_type_form
form lim local g = local_form g
form lim single_type g = single_type_form lim g

-- the table, unless it is too large
unfoldable pub of_size : Limits → Table → Result Table Refusal
unfolding too_large
of_size lim g = do
  turn_back (too_large lim g) ResultTooLarge
  Ok g

-- both tables' documents, in normal form, reduced
unfoldable pub reduced_union : Limits → Table → Table → Table
unfolding unite normalise reduce
reduced_union lim old addition = reduce (normalise (unite lim old addition))

-- The united tables derive no document where no start is left.
unfoldable pub widen_by_table : Limits → Kind → Table → Table → Result Table Refusal
unfolding reduced_union form with_used_labels tidy_table of_size
widen_by_table lim kind old addition = do
  let reduced = reduced_union lim old addition
  turn_back (is_empty reduced.starts) NoDocument
  of_size lim (tidy_table (with_used_labels (form lim kind reduced)))

unfoldable pub sample_table : Limits → Tree → Result Table Refusal
unfolding sample of_size
sample_table lim d = of_size lim (sample d)

-- A document is added through its sample.
unfoldable pub widen : Limits → Kind → Table → Addition → Result Table Refusal
unfolding widen_by_table sample_table
widen lim kind old (by_table addition) = widen_by_table lim kind old addition
widen lim kind old (by_document document) = sample_table lim document >>= λ addition. widen_by_table lim kind old addition
