-- What the content of one rule gives.
--   old_part, added_part      where the content stands in the bytes of its table
--   old_source, added_source  the emitter is given that content, with its table's lists and types
--   old_gives, added_gives    what the emitter answers is what the content of the rule gives
--   first_is                  the first rule of a rule's pair
use Prim.Native.Nat.{ℕ, ◌+◌, ◌-◌, ◌/◌, ◌%◌, ◌≤◌, ◌<◌}
use native.Mathlib.Omega.{arith}
use mathlib.Core.List.{List}
use mathlib.Core.Path.{◌≡◌, sym, ◌∙◌, ap, ap₂, subst}
use lib.ListN.{length, get_or, take, drop, length-take, length-drop}
use lib.Seq.{get_or-take, get_or-drop}
use Rattle.std.specs.Prelude.{Ok, Err, Result}
use Rattle.grammar.specs.Limits.{large, nesting_limit}
use Rattle.grammar.specs.Content.{Content, nesting}
use Rattle.grammar.specs.Table.{Rule, Table}
use Rattle.grammar.specs.Unite.{shifted}
use Rattle.grammar.specs.Normalise.{pair_of}
use Rattle.grammar.specs.declared.TooLarge.{TooLarge}
use Rattle.theory.specs.Alternatives.{alts, some_left, gathered}
use Rattle.theory.proofs.Lists.ListLaws.{at_mem, at_else}
use Rattle.theory.proofs.Emission.AlternativeLaws.{alts_renamed}
use Rattle.sets.specs.Sets.{bit_of, member}
use Rattle.union.specs.declared.united.United.{United}
use Rattle.union.specs.View.{SourceContent, FromAddition, Views, from_in, to_in, first_in}
use Rattle.union.specs.Walks.{list_of_type}
use Rattle.union.specs.Rounds.{content_of_rule}
use Rattle.union.specs.PairNumbers.{rule_numbered, no_rule}
use Rattle.union.proofs.ViewLaws.{content_is, seen}
use Rattle.contents.specs.declared.joining.ResultTypes.{ResultTypes}
use Rattle.operands.specs.declared.drafts.OperandRow.{OperandRow}
use Rattle.operands.specs.declared.drafts.Gathering.{Gathering}
use Rattle.operands.specs.Drafts.{Gathers, GathersWith, GathersIn}
use Rattle.operands.specs.Notes.{Registered}
use Rattle.emitting.specs.Emitting.{Maps, Source}
use Rattle.contents.specs.Joining.{Joining, Ready, GathersRegistered}
use Rattle.contents.proofs.AgreeLaws.{alts_agree, nesting_renamed}

pub first_is : {old add : List ℕ} {v : United} {u : Table} → Views old add v u → (i : ℕ) → i < v.rules
    → first_in v i ≡ pair_of u (rule_numbered u i)
first_is {u = u} x i h =
    let s = seen x i h in
    s.2.first ∙ ap (pair_of u) (sym (at_else u.rules i no_rule s.1))

-- a content stands between equal places too
source_as : {s : List ℕ} {from to from' to' : ℕ} {c : Content} → from ≡ from' → to ≡ to' → SourceContent s from' to' c
    → SourceContent s from to c
source_as {s} {from} {to} {from'} {to'} {c} e f x =
    subst (λ (n : ℕ). SourceContent s n to c) (sym e) (subst (λ (n : ℕ). SourceContent s from' n c) (sym f) x)

-- the addition's types stand four words further on
added_member : (words : List ℕ) (k : ℕ) → k < 128 → member (take (8 - 4) (drop 4 words)) 0 k ≡ member words 0 (128 + k)
unfolding member
added_member words k h =
    let word : 4 + (0 + k / 32) ≡ 0 + (128 + k) / 32 = omega arith in
    let bit : k % 32 ≡ (128 + k) % 32 = omega arith in
    ap₂ bit_of
    (get_or-take (8 - 4) (drop 4 words) (0 + k / 32) 0 (omega arith)
    ∙ get_or-drop 4 words (0 + k / 32) 0
    ∙ ap (λ (i : ℕ). get_or words i 0) word)
    bit

part_long : (words : List ℕ) → length words ≡ 8 → 4 ≤ length (take (8 - 4) (drop 4 words))
part_long words e =
    let a = length-drop 4 words in
    let b = length-take (8 - 4) (drop 4 words) in
    omega arith

-- an answer of the emitter
gathers_in : (d d' : List ℕ) (row : OperandRow) (next : ℕ) (ds : List Content) (r : Result Gathering TooLarge)
    → Gathers d d' row.base row.end row.limit next ds r → GathersIn d' row ds r
unfolding Gathers GathersIn
gathers_in d d' row next ds (Err over) g = g
gathers_in d d' row next ds (Ok got) g = (g.1.row, g.1.fits)

pub gathers_registered : {d d' : List ℕ} {row : OperandRow} {next : ℕ} {register : List ℕ} {ds : List Content} {r : Result Gathering TooLarge}
    → GathersWith (Registered register) d d' row next ds r → GathersRegistered d' register row ds r
gathers_registered {d} {d'} {row} {next} {ds = ds} {r = r} g =
    record { gathers = gathers_in d d' row next ds r g.gathers; registered = g.noted }

module _ {old add : List ℕ} {v : United} {results : ResultTypes} (q : Joining old add v results) where
  pub maps_old : length results.types.words ≡ 8 → Maps results.types.words results.lists.old.from results.lists.old.numbers
  unfolding some_left
  maps_old eight =
      record {
        words = omega arith;
        agree = λ k h. q.typed k (omega arith) ∙ ap (λ (l : List ℕ). some_left (λ j. l) k) (sym (q.lists.old k h));
      }

  pub maps_added : length results.types.words ≡ 8
      → Maps (take (8 - 4) (drop 4 results.types.words)) results.lists.addition.from results.lists.addition.numbers
  unfolding some_left shifted large
  maps_added eight =
      record {
        words = part_long results.types.words eight;
        agree =
            λ k h.
            added_member results.types.words k h
            ∙ q.typed (128 + k) (omega arith)
            ∙ ap (λ (l : List ℕ). some_left (λ j. l) k) (sym (q.lists.added k h));
      }

  module _ (i : ℕ) (h : i < v.rules) where
    abbrev pub rule : Rule
    rule = (seen q.views i h).0

    pub deep : nesting rule.content ≤ nesting_limit
    deep = q.shallow rule (at_mem q.table.rules i (seen q.views i h).1)

    rule_content : content_of_rule q.table i ≡ rule.content
    rule_content = content_is q.table i rule (seen q.views i h).1

    -- where its content stands, as it is read
    module _ {from to : ℕ} (begins : from ≡ from_in v i) (ends : to ≡ to_in v i) {draft register : List ℕ} {row : OperandRow}
        (k : Ready draft register row) where
      -- a rule of the old table
      module _ (is_old : i < v.old_rules) where
        pub old_part : SourceContent old from to rule.content
        old_part = source_as begins ends ((seen q.views i h).2.in_old is_old)

        abbrev pub old_source : length results.types.words ≡ 8
            → Source (take (to - from) (drop from old)) 0 results.types.words
            results.lists.old.from results.lists.old.numbers draft row (length register)
        old_source eight =
            record {
              there = record { content = rule.content; next = to - from; stands = old_part.stands; proper = old_part.proper };
              maps = maps_old eight;
              kept = k.kept;
              fits = k.fits;
              small = k.small;
              room = let d = deep in let r = k.room in omega arith;
              deep = let d = deep in let w = k.deep in omega arith;
            }

        pub old_gives : (after register' : List ℕ) (r : Result Gathering TooLarge)
            → GathersRegistered after register' row
            (gathered k.kept.list (alts (list_of_type results.lists.old.from results.lists.old.numbers) rule.content)) r
            → GathersRegistered after register' row (gathered k.kept.list (alts q.of (content_of_rule q.table i))) r
        unfolding large
        old_gives after register' r g =
            subst (λ (l : List Content). GathersRegistered after register' row (gathered k.kept.list l) r)
            (alts_agree large (list_of_type results.lists.old.from results.lists.old.numbers) q.of q.lists.old rule.content old_part.proper
            ∙ ap (alts q.of) (sym rule_content))
            g

      -- a rule of the addition
      module _ (is_added : v.old_rules ≤ i) where
        abbrev added_rule : FromAddition add v i rule.content
        added_rule = (seen q.views i h).2.in_addition is_added

        pub added_part : SourceContent add from to added_rule.source
        added_part = source_as begins ends added_rule.stands

        pub source_deep : nesting added_rule.source ≤ nesting_limit
        source_deep =
            subst (λ (d : ℕ). d ≤ nesting_limit) (ap nesting added_rule.same ∙ nesting_renamed (shifted large) added_rule.source) deep

        abbrev pub added_source : length results.types.words ≡ 8
            → Source (take (to - from) (drop from add)) 0 (take (8 - 4) (drop 4 results.types.words))
            results.lists.addition.from results.lists.addition.numbers draft row (length register)
        added_source eight =
            record {
              there =
                  record {
                    content = added_rule.source;
                    next = to - from;
                    stands = added_part.stands;
                    proper = added_part.proper;
                  };
              maps = maps_added eight;
              kept = k.kept;
              fits = k.fits;
              small = k.small;
              room = let d = source_deep in let r = k.room in omega arith;
              deep = let d = source_deep in let w = k.deep in omega arith;
            }

        pub added_gives : (after register' : List ℕ) (r : Result Gathering TooLarge)
            → GathersRegistered after register' row
            (gathered k.kept.list (alts (list_of_type results.lists.addition.from results.lists.addition.numbers) added_rule.source)) r
            → GathersRegistered after register' row (gathered k.kept.list (alts q.of (content_of_rule q.table i))) r
        unfolding large
        added_gives after register' r g =
            subst (λ (l : List Content). GathersRegistered after register' row (gathered k.kept.list l) r)
            (alts_agree large (list_of_type results.lists.addition.from results.lists.addition.numbers) (λ j. q.of (shifted large j)) q.lists.added
            added_rule.source
            added_part.proper
            ∙ sym (alts_renamed (shifted large) q.of added_rule.source)
            ∙ ap (alts q.of) (sym (rule_content ∙ added_rule.same)))
            g
