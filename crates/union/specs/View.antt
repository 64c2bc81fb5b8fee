-- The united view of two tables: what a program keeps of their union. Each rule of the union stands by its number, old rules first;
-- its content stands in the bytes of its own table, with that table's own types, and behind its tag, which tells whether it is for text.
use Rattle.reader.specs.declared.index.TableIndex.{TableIndex}
use Rattle.std.specs.Prelude.{ℕ, ◌+◌, ◌-◌, ◌≤◌, ◌<◌, true, List, [], ◌≡◌, length, get_or, take, drop}
use Rattle.std.proofs.Math.Option.{some as just}
use Rattle.std.proofs.Math.ListN.{get_elem?}
use Rattle.grammar.specs.Limits.{large}
use Rattle.grammar.specs.Content.{Content, type, replace}
use Rattle.grammar.specs.Table.{Rule, Table}
use Rattle.grammar.specs.ReadContent.{is_proper}
use Rattle.grammar.specs.Unite.{shifted, united_labels, unite}
use Rattle.grammar.specs.Normalise.{pair_of}
use Rattle.grammar.specs.ReadTable.{rule_tag}
use Rattle.reader.specs.FieldAt.{TagBefore}
use Rattle.reader.specs.ExprAt.{◌up_to◌, expr_at}
use Rattle.reader.specs.Held.{Held}
use Rattle.reader.specs.TableIndex.{Indexes}
use Rattle.union.specs.declared.labels.Names.{Names}
use Rattle.union.specs.declared.united.United.{United}
use Rattle.union.specs.declared.united.Union.{Union}
use Rattle.union.specs.UnitedLabels.{NamesHeld, new_names, united_names}

-- this content, proper, is a part of the bytes
pub record SourceContent (s : List ℕ) (from to : ℕ) (c : Content) : Type 0 where
  pub order : from ≤ to
  pub within : to ≤ length s
  pub stands : expr_at (take (to - from) (drop from s)) 0 ≡ just (c up_to (to - from))
  pub proper : is_proper large c ≡ true

abbrev pub type_in : United → ℕ → ℕ
type_in v i = get_or v.types i 0

abbrev pub label_in : United → ℕ → ℕ
label_in v i = get_or v.labels i 0

abbrev pub first_in : United → ℕ → ℕ
first_in v i = get_or v.firsts i 0

abbrev pub from_in : United → ℕ → ℕ
from_in v i = get_or v.content_from i 0

abbrev pub to_in : United → ℕ → ℕ
to_in v i = get_or v.content_to i 0

-- a content of the addition in the union
abbrev pub shifted_content : Content → Content
shifted_content c = replace c (λ k. type (shifted large k))

-- where the content of a rule of the union comes from
pub record FromAddition (add : List ℕ) (v : United) (i : ℕ) (c : Content) : Type 0 where
  pub source : Content
  pub stands : SourceContent add (from_in v i) (to_in v i) source
  pub same : c ≡ shifted_content source

pub record RuleSeen (old add : List ℕ) (v : United) (u : Table) (i : ℕ) (r : Rule) : Type 0 where
  pub type : type_in v i ≡ r.type
  pub small : r.type < 256
  pub label : label_in v i ≡ r.label
  pub first : first_in v i ≡ pair_of u r
  pub in_old : i < v.old_rules → SourceContent old (from_in v i) (to_in v i) r.content
  pub in_addition : v.old_rules ≤ i → FromAddition add v i r.content
  pub tag_old : i < v.old_rules → TagBefore old (from_in v i - 2) (rule_tag r.text)
  pub tag_addition : v.old_rules ≤ i → TagBefore add (from_in v i - 2) (rule_tag r.text)

pub record ViewRooms (v : United) : Type 0 where
  pub types : length v.types ≡ 256
  pub labels : length v.labels ≡ 256
  pub firsts : length v.firsts ≡ 256
  pub content_from : length v.content_from ≡ 256
  pub content_to : length v.content_to ≡ 256

-- The view is that of this table.
pub record Views (old add : List ℕ) (v : United) (u : Table) : Type 0 where
  pub rooms : ViewRooms v
  pub rules : v.rules ≡ length u.rules
  pub few : v.rules ≤ 256
  pub rule : (i : ℕ) (r : Rule) → get_elem? u.rules i ≡ just r → RuleSeen old add v u i r

-- It is that of some table.
pub record Viewed (old add : List ℕ) (v : United) : Type 0 where
  pub table : Table
  pub views : Views old add v table

-- a table of rules alone
abbrev pub rules_only : List Rule → Table
rules_only rs = record { labels = []; starts = []; rules = rs }

-- what is put down for one rule more
pub record NextRule (old add : List ℕ) (v : United) (ty label from to : ℕ) (x : Rule) : Type 0 where
  pub type : ty ≡ x.type
  pub small : x.type < 256
  pub label_is : label ≡ x.label
  pub in_old : v.rules < v.old_rules → SourceContent old from to x.content
  pub in_addition : v.old_rules ≤ v.rules → (c : Content) × SourceContent add from to c × (x.content ≡ shifted_content c)
  pub tag_old : v.rules < v.old_rules → TagBefore old (from - 2) (rule_tag x.text)
  pub tag_addition : v.old_rules ≤ v.rules → TagBefore add (from - 2) (rule_tag x.text)

pub record Grown (v more : United) : Type 0 where
  pub one : more.rules ≡ v.rules + 1
  pub old : more.old_rules ≡ v.old_rules

-- the old table, the addition, and where its new labels stand, as its rules are put down
pub record AddingTo (old : List ℕ) (olds : TableIndex) (add : List ℕ) (adds : TableIndex) (fresh : Names) (g h : Table) : Type 0 where
  pub old_table : Indexes old olds g
  pub addition : Held large add adds h
  pub new_names : NamesHeld add fresh (new_names g.labels h.labels)

pub record Adding (old : List ℕ) (olds : TableIndex) (add : List ℕ) (adds : TableIndex) (fresh : Names) : Type 0 where
  pub first : Table
  pub second : Table
  pub so : AddingTo old olds add adds fresh first second

-- The union: the view of its rules, and where its new labels stand.
pub record UnionSeen (old add : List ℕ) (g h : Table) (r : Union) : Type 0 where
  pub rules : Views old add r.rules (unite large g h)
  pub new_names : NamesHeld add r.new_names (new_names g.labels h.labels)
  pub labels : united_labels g h ≡ united_names g.labels h.labels
