-- The three mistakes of earlier wideners, computed: what each would give, beside what the definition gives (PaperCases).
use mathlib.Core.Bool.{true, false}
use mathlib.Core.List.{List, [], ◌∷◌, map}
use mathlib.Core.Path.{◌≡◌, refl}
use Rattle.grammar.specs.Ascii.{ascii}
use Rattle.grammar.specs.Names.{Name}
use Rattle.grammar.specs.Table.{Table}
use Rattle.grammar.specs.Membership.{lets_in}
use Rattle.grammar.specs.KindTests.{is_local, is_single_type}
use Rattle.grammar.specs.Normalise.{normalise}
use Rattle.grammar.specs.Reduce.{without_unfruitful, without_unreached}
use Rattle.grammar.specs.UsedLabels.{with_used_labels}
use Rattle.grammar.specs.LocalForm.{local_form}
use Rattle.grammar.proofs.PaperTables.{p5_table, p5_local, p5_document, p7_table, p7_result, p8_table, p8_result}

-- Dropping unreached types before unfruitful ones: P7's local result then keeps time.
unreached_first : Table → List Name
unfolding normalise without_unreached without_unfruitful local_form with_used_labels
unreached_first g = (with_used_labels (local_form (without_unfruitful (without_unreached (normalise g))))).labels

unreached_first_keeps_time : unreached_first p7_table ≡ map ascii ("list" ∷ "door" ∷ "time" ∷ "code" ∷ [])
unfolding unreached_first p7_table ascii
unreached_first_keeps_time = refl

p7_drops_time : p7_result.labels ≡ map ascii ("list" ∷ "door" ∷ "code" ∷ [])
unfolding p7_result ascii
p7_drops_time = refl

-- Comparing types over the whole table in single-type work merges P5's doors, which compete nowhere within one content:
-- the merged table lets in what the least one does not.
p5_is_single_type : is_single_type p5_table ≡ true
unfolding is_single_type p5_table
p5_is_single_type = refl

p5_is_not_local : is_local p5_table ≡ false
unfolding is_local p5_table
p5_is_not_local = refl

p5_merged_lets_in_more : lets_in p5_local p5_document ≡ true
unfolding lets_in p5_local p5_document
p5_merged_lets_in_more = refl

-- Taking two labels of one type for competition: P8's table is of both kinds as it stands, and its two labels stay apart.
p8_is_local : is_local p8_table ≡ true
unfolding is_local p8_table
p8_is_local = refl

p8_is_single_type : is_single_type p8_table ≡ true
unfolding is_single_type p8_table
p8_is_single_type = refl

p8_result_keeps_both : p8_result.labels ≡ p8_table.labels
unfolding p8_result p8_table
p8_result_keeps_both = refl
