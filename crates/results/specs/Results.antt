-- What the table of a result is written from: the union of two tables, its fruitful pairs by type, its pairs for text, the pairs left, and
-- the sets of pairs that are the types of the result.
use Rattle.reader.specs.declared.index.TableIndex.{TableIndex}
use Rattle.std.specs.Prelude.{ℕ, ◌≤◌, ◌<◌, Bool, ◌≡◌, eqb, length, get_or}
use mathlib.Core.List.{List, [], ◌∷◌, ◌++◌, Memᴰ}
use Rattle.grammar.specs.Lists.{any_pass, keep, joined_of, numbers_below}
use Rattle.grammar.specs.Names.{Name}
use Rattle.grammar.specs.Table.{Rule, Table}
use Rattle.grammar.specs.Fields.{field_bytes}
use Rattle.grammar.specs.ReadTable.{label_tag, start_tag}
use Rattle.grammar.specs.Kinds.{Kind}
use Rattle.grammar.specs.SingleTypeForm.{TypeSet}
use Rattle.theory.specs.Conditions.{Labelled, Regular}
use Rattle.sets.specs.Sets.{member, set_of_eight_at}
use Rattle.union.specs.declared.labels.Names.{Names}
use Rattle.union.specs.declared.united.United.{United}
use Rattle.union.specs.View.{Views}
use Rattle.union.specs.TypeLists.{ListsOf}
use Rattle.union.specs.Places.{left_at, used_at}
use Rattle.union.specs.PairNumbers.{fruitful_of, is_left, is_text}
use Rattle.reader.specs.NamePlaces.{NamesAt}
use Rattle.reader.specs.TableIndex.{label_count}
use Rattle.union.specs.UnitedLabels.{NamesHeld}
use Rattle.contents.specs.Joining.{Shallow}
use Rattle.forms.specs.SetForms.{set_label, rule_by_set, pairs_within}
use Rattle.forms.specs.SetWords.{SetsHeld}
use Rattle.writer.specs.Tables.{rest_bytes}
use Rattle.results.specs.declared.plan.Plan.{Plan}
use Rattle.results.specs.PlanKind.{kind_of}

-- the rule of a set, by its number
abbrev pub result_rule : Table → List TypeSet → Kind → ℕ → Rule
result_rule u sets kind = rule_by_set u sets (pairs_within kind u)

-- some set has the label
abbrev pub is_used : Table → List TypeSet → ℕ → Bool
is_used u sets l = any_pass (λ s. eqb (set_label u s) l) sets

-- the labels of a union stand in the bytes of its two tables: the old names, then the addition's new ones
pub record LabelsIn (old add : List ℕ) (olds : TableIndex) (news : Names) : Type 0 where
  pub first : List Name
  pub second : List Name
  pub old_names : NamesAt old olds.names (label_count olds) first
  pub new_names : NamesHeld add news second

-- sets of pairs of a union stand in the words
pub record SetsIn (old add : List ℕ) (v : United) (words : List ℕ) (count : ℕ) : Type 0 where
  pub table : Table
  pub sets : List TypeSet
  pub views : Views old add v table
  pub labelled : Labelled table
  pub labels_few : length table.labels ≤ 256
  pub held : SetsHeld words sets
  pub count_is : count ≡ length sets
  pub some : (s : TypeSet) → Memᴰ s sets → 0 < length s
  pub pairs : (s : TypeSet) → Memᴰ s sets → (p : ℕ) → Memᴰ p s → p < length table.rules

-- and what their contents are made from
pub record RulesFrom (old add : List ℕ) (plan : Plan) (words : List ℕ) : Type 0 where
  pub in_words : SetsIn old add plan.union words plan.count
  pub labels_are : plan.labels ≡ length in_words.table.labels
  pub lists_are : ListsOf (fruitful_of in_words.table) plan.lists
  pub text_is : member plan.text.words 0 ≡ is_text in_words.table
  pub room : 12288 ≤ length words
  pub left_is : set_of_eight_at words left_at ≡ is_left in_words.table
  pub shallow : Shallow in_words.table
  pub regular : (i : ℕ) → i < plan.count → Regular (result_rule in_words.table in_words.sets (kind_of plan.kind) i).content

-- with the labels that are used
pub record RulesWith (old add : List ℕ) (plan : Plan) (words : List ℕ) : Type 0 where
  pub rules : RulesFrom old add plan words
  pub used_are : set_of_eight_at words used_at ≡ is_used rules.in_words.table rules.in_words.sets

-- the rule of a number
abbrev pub rule_from : {old add : List ℕ} {plan : Plan} {words : List ℕ} → RulesFrom old add plan words → ℕ → Rule
rule_from {plan = plan} q = result_rule q.in_words.table q.in_words.sets (kind_of plan.kind)

-- What a result is written from: its rules, and where the labels stand.
pub record ResultFrom (old add : List ℕ) (plan : Plan) (olds : TableIndex) (news : Names) (words : List ℕ) : Type 0 where
  pub rules : RulesFrom old add plan words
  pub names : LabelsIn old add olds news
  pub same : rules.in_words.table.labels ≡ names.first ++ names.second

-- the bytes of some of the labels, and of some of the types as starts
abbrev pub labels_bytes : List Name → (ℕ → Bool) → List ℕ
labels_bytes names on = joined_of (λ l. field_bytes label_tag (get_or names l [])) (keep on (numbers_below (length names)))

abbrev pub starts_bytes : (ℕ → Bool) → ℕ → List ℕ
starts_bytes on count = joined_of (λ k. field_bytes start_tag (k ∷ [])) (keep on (numbers_below count))

-- the starts, the rules and the end
abbrev pub body_bytes : (ℕ → Bool) → (ℕ → Rule) → ℕ → List ℕ
body_bytes on rule count = starts_bytes on count ++ rest_bytes rule count
