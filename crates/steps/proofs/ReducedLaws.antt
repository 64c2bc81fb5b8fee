-- What a reduced union gives to the writing of a result:
--   names_few, labels_few                    the numbers of the union are small
--   sets_lent, sets_held, reduced_stay       the first words are lent for the sets of the result: what stands in them, and behind them
--   types_laid                               the sets of a kind and the start types in the words
--   result_after                             all that the result is written from then
--   widens_many, drafted                     what is answered, of either kind
use Rattle.reader.specs.declared.index.TableIndex.{TableIndex}
use Prim.Native.Nat.{ℕ, ◌+◌, ◌≤◌, ◌<◌}
use native.Mathlib.Omega.{arith}
use mathlib.Core.Bool.{Bool, true}
use mathlib.Core.List.{List, ◌++◌, Memᴰ}
use mathlib.Core.Path.{◌≡◌, sym, ◌∙◌, ap, subst}
use lib.ListN.{length, length-append, length-drop, get_or, take, drop}
use lib.Seq.{take-take, take-append-le, drop_at, length-take-le}
use Rattle.std.specs.Prelude.{MatchResult, IsErrAnd, Result, Ok, Err, Option, Some, None}
use Rattle.grammar.specs.Lists.{keep, place, same_numbers, numbers_below}
use Rattle.grammar.specs.Limits.{Limits, large}
use Rattle.grammar.specs.LimitSets.{limits_of}
use Rattle.grammar.specs.declared.SizeLimits.{SizeLimits}
use Rattle.grammar.specs.Table.{Rule, Table}
use Rattle.grammar.specs.Kinds.{Kind, local, single_type}
use Rattle.grammar.specs.SingleTypeForm.{TypeSet}
use Rattle.grammar.specs.Unite.{unite}
use Rattle.grammar.specs.WriteTable.{table_bytes}
use Rattle.grammar.specs.declared.Refusal.{Refusal}
use Rattle.grammar.specs.declared.TooLarge.{TooLarge}
use Rattle.grammar.specs.declared.Refusal.TheVariants.{ResultTooLarge}
use Rattle.theory.specs.Conditions.{Regular, all_letters}
use Rattle.theory.proofs.Lists.ListLaws.{mem_at, at_below}
use Rattle.theory.proofs.Tables.RoomierLimits.{within_large, table_roomier}
use Rattle.reader.specs.TableIndex.{label_count}
use Rattle.sets.specs.declared.set.Set.{Set}
use Rattle.sets.specs.Sets.{member, set_of_eight_at, nothing, KeptAround}
use Rattle.sets.proofs.SetLaws.{eight_before, eight_after}
use Rattle.union.specs.declared.lists.TypeLists.{TypeLists}
use Rattle.union.specs.declared.united.Union.{Union}
use Rattle.union.specs.View.{label_in}
use Rattle.union.specs.Places.{sets_end, starts_at, left_at, start_types_at}
use Rattle.union.specs.Rounds.{puts}
use Rattle.union.specs.PairNumbers.{is_start, is_left, is_text}
use Rattle.writer.specs.Tables.{TablePut}
use Rattle.contents.proofs.AgreeLaws.{union_shallow}
use Rattle.forms.specs.SetWords.{SetsHeld, SetsCounted}
use Rattle.forms.specs.Worklist.{NumbersOf}
use Rattle.forms.specs.SetForms.{
  pairs_labelled,
  label_sets,
  rule_by_set,
  table_by_sets,
  met_within,
  pairs_within,
  local_sets,
  local_starts,
  local_table,
  single_type_sets,
  single_type_table,
  sets_of,
  table_of,
}
use Rattle.forms.proofs.StandingPairs.{left_pair}
use Rattle.forms.proofs.SetsFound.{start_sets_first}
use Rattle.forms.proofs.SetWordLaws.{sets_stay}
use Rattle.forms.proofs.UnionFit.{UnionFit, union_fit}
use Rattle.forms.proofs.WidenedBySets as by_sets
use Rattle.results.specs.Results.{SetsIn, ResultFrom}
use Rattle.results.specs.PlanKind.{kind_of}
use Rattle.steps.specs.Widened.{made_of, Widens, UnionReduced, TypesLaid}
use Rattle.results.specs.declared.plan.Kind.{Kind as Asked}
use Rattle.steps.proofs.StartTypes.{local_starts_lem, start_key, first_starts}
use Rattle.results.proofs.ResultLaws.{union_names, union_same, union_count, union_few}
use Rattle.steps.proofs.WidenLaws.{too_many, put_widens}

pub some_length : (s : TypeSet) → Memᴰ (get_or s 0 0) s → 0 < length s
some_length s m =
    let (i, at) = mem_at m in
    let b = at_below s i at in
    omega arith

-- what is answered of what was drafted of a result
pub told : (d : Result ℕ TooLarge) (a : Result ℕ Refusal) → MatchResult d (λ n. a ≡ Ok n) (λ over. IsErrAnd a (λ q. q ≡ ResultTooLarge)) → a ≡ made_of d
unfolding made_of
told (Ok n) a h = h
told (Err over) (Ok n) h = let none = h in absurd none
told (Err over) (Err q) h = ap Err h

-- the first words are lent for the sets of the result
module _ (words : List ℕ) (room : 12288 ≤ length words) where
  lent_long : length (take sets_end words) ≡ sets_end
  lent_long = length-take-le sets_end words (omega arith)

  pub lent_room : 1024 ≤ length (take sets_end words)
  lent_room = let e = lent_long in omega arith

  pub sets_lent : {sets : List TypeSet} → SetsHeld words sets → SetsHeld (take sets_end words) sets
  sets_lent held =
      sets_stay words (take sets_end words) sets_end (take-take sets_end sets_end words (omega arith)) (omega arith) lent_room held

  module _ (front : List ℕ) (same : length front ≡ length (take sets_end words)) where
    long : length front ≡ sets_end
    long = same ∙ lent_long

    pub room_stays : 12288 ≤ length (front ++ drop sets_end words)
    room_stays =
        let a = length-append front (drop sets_end words) in
        let b = length-drop sets_end words in
        let c = long in
        omega arith

    pub sets_held : {sets : List TypeSet} → SetsHeld front sets → SetsHeld (front ++ drop sets_end words) sets
    sets_held held =
        let r = room_stays in
        let l = long in
        sets_stay front (front ++ drop sets_end words) sets_end (take-append-le sets_end front (drop sets_end words) (omega arith)) (omega arith)
        (omega arith) held

    pub set_stays : (place : ℕ) → sets_end ≤ place → set_of_eight_at (front ++ drop sets_end words) place ≡ set_of_eight_at words place
    set_stays place h = eight_after words (front ++ drop sets_end words) sets_end place (drop_at front (drop sets_end words) sets_end long) h

-- the start types are laid down
module _ {before after : List ℕ} (kept : KeptAround start_types_at 8 before after) where
  types_stay : 1024 ≤ length after → {sets : List TypeSet} → SetsHeld before sets → SetsHeld after sets
  types_stay room held = sets_stay before after start_types_at kept.front (omega arith) room held

  pub types_left : set_of_eight_at after left_at ≡ set_of_eight_at before left_at
  types_left = eight_before kept left_at (omega arith)

module _ (l : SizeLimits) {old add : List ℕ} {index : TableIndex} {union : Union} {lists : TypeLists} {words : List ℕ} {g h : Table}
    (r : UnionReduced (limits_of l) old add index union lists words g h) where
  abbrev lim : Limits
  lim = limits_of l

  abbrev u : Table
  u = unite large g h

  pub fit : UnionFit lim u
  fit = union_fit lim (within_large l) g h r.old_held.within r.second_within

  pub names_few : (label_count index ≤ 128) × (union.new_names.count ≤ 128)
  names_few = (r.old_held.indexes.few_labels, r.seen.new_names.few)

  pub label_count_is : label_count index + union.new_names.count ≡ length u.labels
  label_count_is = union_count r.seen r.old_held

  pub labels_few : length u.labels ≤ 256
  labels_few = union_few r.seen r.old_held

  pub reduced_stay : 12288 ≤ length words → (front : List ℕ) → length front ≡ length (take sets_end words)
      → UnionReduced lim old add index union lists (front ++ drop sets_end words) g h
  reduced_stay room front same =
      record {
        old_held = r.old_held;
        second_within = r.second_within;
        seen = r.seen;
        lists_are = r.lists_are;
        starts_are = set_stays words room front same starts_at (omega arith) ∙ r.starts_are;
        left_are = set_stays words room front same left_at (omega arith) ∙ r.left_are;
        some_start = r.some_start;
      }

  module _ (kind : Kind) (after : List ℕ) (count : ℕ) (held : SetsHeld after (sets_of lim kind u))
      (many : count ≡ length (sets_of lim kind u)) (few : count ≤ l.rules) where
    abbrev sets_in : SetsIn old add union.rules after count
    sets_in =
        record {
          table = u;
          sets = sets_of lim kind u;
          views = r.seen.rules;
          labelled = fit.labelled;
          labels_few = union_few r.seen r.old_held;
          held = held;
          count_is = many;
          some = λ s m. some_length s (by_sets.set_of_kind u fit kind s m).first;
          pairs = λ s m p n. (left_pair u p ((by_sets.set_of_kind u fit kind s m).left p n)).below;
        }

    pub regular : (i : ℕ) → i < count → Regular (rule_by_set u (sets_of lim kind u) (pairs_within kind u) i).content
    regular i b =
        let x = by_sets.regular_by_set u fit kind (omega (arith, many, few)) i (omega (arith, many)) in
        record { counted = x.counted; below = x.below }

    pub widens_put : (types : ℕ → Bool)
        → table_by_sets u (sets_of lim kind u) (pairs_within kind u) (keep types (numbers_below count)) ≡ table_of lim kind u
        → (before end : List ℕ) (d : Result ℕ TooLarge)
        → TablePut before 0 (rule_by_set u (sets_of lim kind u) (pairs_within kind u)) count
        (table_bytes (table_by_sets u (sets_of lim kind u) (pairs_within kind u) (keep types (numbers_below count)))) end d
        → Widens lim kind g h before end (made_of d)
    widens_put types e before end d put =
        let rule : ℕ → Rule = rule_by_set u (sets_of lim kind u) (pairs_within kind u) in
        put_widens l g h r.old_held.within r.second_within kind r.some_start.0 r.some_start.1 (omega (arith, many, few)) before end d
        (subst (λ (n : ℕ). TablePut before 0 rule n (table_bytes (table_of lim kind u)) end d) many
        (subst (λ (t : Table). TablePut before 0 rule count (table_bytes t) end d) e put))

  -- the sets of a kind are laid down in the first words, and then the start types
  pub types_laid : (kind : Kind) → 12288 ≤ length words → (front : List ℕ) → length front ≡ length (take sets_end words) → (count : ℕ)
      → (count ≡ length (sets_of lim kind u)) × (count ≤ l.rules) × SetsHeld front (sets_of lim kind u) → (last : List ℕ)
      → KeptAround start_types_at 8 (front ++ drop sets_end words) last → length last ≡ length (front ++ drop sets_end words)
      → table_by_sets u (sets_of lim kind u) (pairs_within kind u) (keep (set_of_eight_at last start_types_at) (numbers_below count))
      ≡ table_of lim kind u
      → TypesLaid lim kind u last count
  types_laid kind room front same count (many, few, held) last kept long table =
      let a = room_stays words room front same in
      record {
        many = many;
        few = few;
        held = types_stay kept (omega arith) (sets_held words room front same held);
        table = table;
        left_are = types_left kept ∙ (reduced_stay room front same).left_are;
      }

  -- what the result is written from then
  module _ (asked : Asked) {last : List ℕ} {count : ℕ} (x : TypesLaid lim (kind_of asked) u last count) where
    abbrev pub result_after : 12288 ≤ length last → (labels : ℕ) → labels ≡ length u.labels → (text : Set 8)
        → member text.words 0 ≡ is_text u
        → ResultFrom old add
        (record { union = union.rules; labels = labels; lists = lists; text = text; count = count; kind = asked })
        index union.new_names last
    result_after room labels labels_are text text_is =
        record {
          rules =
              record {
                in_words = sets_in (kind_of asked) last count x.held x.many x.few;
                labels_are = labels_are;
                lists_are = r.lists_are;
                text_is = text_is;
                room = room;
                left_is = x.left_are;
                shallow = union_shallow all_letters g h (table_roomier (within_large l) r.old_held.within) (table_roomier (within_large l) r.second_within);
                regular = regular (kind_of asked) last count x.held x.many x.few;
              };
          names = union_names r.seen r.old_held;
          same = union_same r.seen r.old_held;
        }

  -- and what is answered when it is drafted
  pub drafted : {kind : Kind} {last : List ℕ} {count : ℕ} (x : TypesLaid lim kind u last count) (before end : List ℕ) (d : Result ℕ TooLarge)
      (a : Result ℕ Refusal) → a ≡ made_of d
      → TablePut before 0 (rule_by_set u (sets_of lim kind u) (pairs_within kind u)) count
      (table_bytes (table_by_sets u (sets_of lim kind u) (pairs_within kind u) (keep (set_of_eight_at last start_types_at) (numbers_below count)))) end d
      → Widens lim kind g h before end a
  drafted {kind} {last} {count} x before end d a told put =
      subst (Widens lim kind g h before end) (sym told)
      (widens_put kind last count x.held x.many x.few (set_of_eight_at last start_types_at) x.table before end d put)

  pub widens_many : (kind : Kind) → l.rules < length (sets_of lim kind u) → (before after : List ℕ) → Widens lim kind g h before after (Err ResultTooLarge)
  unfolding Widens
  widens_many kind few before after = too_many l g h r.old_held.within r.second_within kind r.some_start.0 r.some_start.1 few

  -- the tables of the kinds, with the start types as they are found
  pub local_table_lem : (types : ℕ → Bool) (count : ℕ) → count ≡ length (local_sets u) → keep types (numbers_below (length (local_sets u))) ≡ local_starts u
      → table_by_sets u (sets_of lim local u) (pairs_within local u) (keep types (numbers_below count)) ≡ table_of lim local u
  unfolding sets_of table_of local_table
  local_table_lem types count many e =
      ap (table_by_sets u (local_sets u) (λ s. is_left u)) (ap (λ (n : ℕ). keep types (numbers_below n)) many ∙ e)

  pub single_type_table_lem : (first count : ℕ) → count ≡ length (single_type_sets lim u) → first ≡ length (label_sets u (is_start u))
      → table_by_sets u (sets_of lim single_type u) (pairs_within single_type u)
      (keep (puts (λ t. true) (λ t. t) nothing first) (numbers_below count))
      ≡ table_of lim single_type u
  unfolding sets_of table_of single_type_table
  single_type_table_lem first count many e =
      let (rest, f) = start_sets_first u lim in
      let n = ap length f ∙ length-append (label_sets u (is_start u)) rest in
      ap (table_by_sets u (single_type_sets lim u) (met_within u)) (first_starts first count (omega arith) ∙ ap numbers_below e)

  -- the sets of the labels, counted
  pub local_counted : (front : List ℕ) (a : Option ℕ) (pairs : ℕ → Bool) → pairs ≡ is_left u → SetsCounted l.rules front (label_sets u pairs) a
      → (count : ℕ) → a ≡ Some count → (count ≡ length (sets_of lim local u)) × (count ≤ l.rules) × SetsHeld front (sets_of lim local u)
  unfolding sets_of
  local_counted front a pairs are c count e =
      subst (λ (p : ℕ → Bool). SetsCounted l.rules front (label_sets u p) (Some count)) are (subst (SetsCounted l.rules front (label_sets u pairs)) e c)

  pub local_over : (front : List ℕ) (a : Option ℕ) (pairs : ℕ → Bool) → pairs ≡ is_left u → SetsCounted l.rules front (label_sets u pairs) a → a ≡ None
      → l.rules < length (sets_of lim local u)
  unfolding sets_of
  local_over front a pairs are c e =
      subst (λ (p : ℕ → Bool). SetsCounted l.rules front (label_sets u p) None) are (subst (SetsCounted l.rules front (label_sets u pairs)) e c)

  pub start_counted : (front : List ℕ) (a : Option ℕ) (pairs : ℕ → Bool) → pairs ≡ is_start u → SetsCounted l.rules front (label_sets u pairs) a
      → (count : ℕ) → a ≡ Some count → (count ≡ length (label_sets u (is_start u))) × (count ≤ l.rules) × SetsHeld front (label_sets u (is_start u))
  start_counted front a pairs are c count e =
      subst (λ (p : ℕ → Bool). SetsCounted l.rules front (label_sets u p) (Some count)) are (subst (SetsCounted l.rules front (label_sets u pairs)) e c)

  pub start_over : (front : List ℕ) (a : Option ℕ) (pairs : ℕ → Bool) → pairs ≡ is_start u → SetsCounted l.rules front (label_sets u pairs) a → a ≡ None
      → l.rules < length (sets_of lim single_type u)
  unfolding sets_of
  start_over front a pairs are c e =
      let few : l.rules < length (label_sets u (is_start u)) =
      subst (λ (p : ℕ → Bool). SetsCounted l.rules front (label_sets u p) None) are (subst (SetsCounted l.rules front (label_sets u pairs)) e c) in
      let (rest, f) = start_sets_first u lim in
      let n = ap length f ∙ length-append (label_sets u (is_start u)) rest in
      omega arith

  pub single_type_counted : (front : List ℕ) (a : Option ℕ) → SetsCounted l.rules front (single_type_sets lim u) a → (count : ℕ) → a ≡ Some count
      → (count ≡ length (sets_of lim single_type u)) × (count ≤ l.rules) × SetsHeld front (sets_of lim single_type u)
  unfolding sets_of
  single_type_counted front a c count e = subst (SetsCounted l.rules front (single_type_sets lim u)) e c

  pub single_type_over : (front : List ℕ) (a : Option ℕ) → SetsCounted l.rules front (single_type_sets lim u) a → a ≡ None
      → l.rules < length (sets_of lim single_type u)
  unfolding sets_of
  single_type_over front a c e = subst (SetsCounted l.rules front (single_type_sets lim u)) e c

  -- the start types of the local form, as the program finds them
  local_types : (of : List ℕ) (n : ℕ) → n ≡ length u.labels → (left starts : ℕ → Bool) → left ≡ is_left u → starts ≡ is_start u
      → NumbersOf (λ l. place same_numbers (pairs_labelled u left l) (local_sets u)) n of → (types : ℕ → Bool)
      → types ≡ puts starts (λ p. get_or of (label_in union.rules p) 0) nothing union.rules.rules
      → keep types (numbers_below (length (local_sets u))) ≡ local_starts u
  local_types of n labels left starts left_is starts_are numbers types e =
      let key : ℕ → ℕ = λ p. get_or of (label_in union.rules p) 0 in
      ap (λ (test : ℕ → Bool). keep test (numbers_below (length (local_sets u))))
      (e
      ∙ ap (λ (s : ℕ → Bool). puts s key nothing union.rules.rules) starts_are
      ∙ ap (puts (is_start u) key nothing) r.seen.rules.rules)
      ∙ local_starts_lem u key
      (start_key u r.seen.rules fit of
      (subst (λ (m : ℕ). NumbersOf (λ l. place same_numbers (pairs_labelled u (is_left u) l) (local_sets u)) m of) labels
      (subst (λ (set : ℕ → Bool). NumbersOf (λ l. place same_numbers (pairs_labelled u set l) (local_sets u)) n of) left_is numbers)))

  -- the tables of the kinds, once the start types are laid down
  pub local_laid : (count : ℕ) → count ≡ length (sets_of lim local u) → (of : List ℕ) (n : ℕ) → n ≡ length u.labels
      → (left starts : ℕ → Bool) → left ≡ is_left u → starts ≡ is_start u
      → NumbersOf (λ l. place same_numbers (pairs_labelled u left l) (local_sets u)) n of → (types : ℕ → Bool)
      → types ≡ puts starts (λ p. get_or of (label_in union.rules p) 0) nothing union.rules.rules
      → table_by_sets u (sets_of lim local u) (pairs_within local u) (keep types (numbers_below count)) ≡ table_of lim local u
  unfolding sets_of
  local_laid count many of n labels left starts left_is starts_are numbers types e =
      local_table_lem types count many (local_types of n labels left starts left_is starts_are numbers types e)

  pub single_type_laid : (first count : ℕ) → count ≡ length (sets_of lim single_type u) → first ≡ length (label_sets u (is_start u))
      → (types : ℕ → Bool) → types ≡ puts (λ t. true) (λ t. t) nothing first
      → table_by_sets u (sets_of lim single_type u) (pairs_within single_type u) (keep types (numbers_below count)) ≡ table_of lim single_type u
  unfolding sets_of
  single_type_laid first count many e types t =
      ap (λ (test : ℕ → Bool). table_by_sets u (single_type_sets lim u) (met_within u) (keep test (numbers_below count))) t
      ∙ single_type_table_lem first count many e
