-- The types that a table gives a node whose children are known, found rule by rule.
use Rattle.reader.specs.declared.index.TableIndex.{TableIndex}
use Rattle.std.specs.Prelude.{ℕ, ◌+◌, ◌<◌, Bool, true, false, ◌&&◌, List, [], map, ◌≡◌, get_or, drop}
use Rattle.std.proofs.Math.Option.{some as just}
use Rattle.std.proofs.Math.ListN.{get_elem?}
use Rattle.grammar.specs.Lists.{keep, place}
use Rattle.grammar.specs.Limits.{large}
use Rattle.grammar.specs.Names.{same_name}
use Rattle.grammar.specs.Tree.{Head}
use Rattle.grammar.specs.Table.{Rule, Table}
use Rattle.grammar.specs.Membership.{is_named, takes_text}
use Rattle.theory.specs.Marked.{run, holds}
use Rattle.sets.specs.Sets.{add}
use Rattle.reader.specs.TableIndex.{part, content_from, content_to, rule_count}
use Rattle.reader.specs.Held.{Held}
use Rattle.walks.specs.TypeSets.{set_at, tests_at}
use Rattle.walks.specs.WalkAt.{run_at}

-- for each rule of an index, whether its content matches no children
abbrev pub NullableAre : (s : List ℕ) (index : TableIndex) → List Bool → Type 0
NullableAre s index nullable =
    (i : ℕ) → i < rule_count index → get_or nullable i false ≡ run_at (part s (content_from index i) (content_to index i)) []

-- the rule fits a node of this head, with children that are given by tests of types
unfoldable pub rule_fits : Table → Head → List (ℕ → Bool) → Rule → Bool
unfolding is_named takes_text run
rule_fits g h tests r = is_named g r.label h.name && takes_text r h && run r.content tests

-- the types of the rules that fit
unfoldable pub types_for : Table → Head → List (ℕ → Bool) → List Rule → List ℕ
unfolding rule_fits keep
types_for g h tests rules = map (λ (r : Rule). r.type) (keep (rule_fits g h tests) rules)

-- the answer is whether the rule of a number fits, at a node that has its label and this mark of text
abbrev pub FitsIfNamed : (s : List ℕ) (index : TableIndex) (rule : ℕ) (text : Bool) → List (ℕ → Bool) → Bool → Type 0
FitsIfNamed s index rule text tests fits =
    (g : Table) → Held large s index g → (r : Rule) → get_elem? g.rules rule ≡ just r → (h : Head) → h.text ≡ text
    → is_named g r.label h.name ≡ true → fits ≡ rule_fits g h tests r

-- the set at a word has one number more if the flag says so, and the words behind it are kept
pub record PutIf (words : List ℕ) (base : ℕ) (flag : Bool) (k : ℕ) (after : List ℕ) : Type 0 where
  pub members : set_at after base ≡ elim flag as (λ f. ℕ → Bool) [ true ↦ add k (set_at words base) | false ↦ set_at words base ]
  pub behind : drop (base + 4) after ≡ drop (base + 4) words

-- the set at a word has the types of the rules that fit a node, the place of whose name among the labels is `label` and whose mark of
-- text is `text`; the sets of its children stand behind it, and the words there are kept
pub record TypesAre (s : List ℕ) (index : TableIndex) (label : ℕ) (text : Bool) (words : List ℕ)
    (base count : ℕ) (after : List ℕ) : Type 0 where
  pub types : (g : Table) → Held large s index g → (h : Head) → label ≡ place same_name h.name g.labels → h.text ≡ text
      → set_at after base ≡ holds (types_for g h (tests_at words (base + 4) count) g.rules)
  pub behind : drop (base + 4) after ≡ drop (base + 4) words
