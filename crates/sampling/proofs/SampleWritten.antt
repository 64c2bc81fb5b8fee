-- What the arrays hold is the sample:
--   content_same, text_same, rule_same : the content of a type, whether it is for text, and its rule
--   table_same : the bytes written are the sample's
--   sample_drafted : so the sample is written, or is too large ; sample_wide : too many types
use Prim.Native.Nat.{ℕ, suc, ◌+◌, ◌-◌, ◌≤◌, ◌<◌}
use native.Mathlib.Omega.{arith}
use mathlib.Core.Bool.{Bool, true, false}
use mathlib.Core.List.Memᴰ
use mathlib.Core.List.{List, [], ◌∷◌, ◌++◌, map, append_assoc, append-nil, Memᴰ}
use mathlib.Core.Logic.{⊎_elim}
use mathlib.Core.Option.{Option, some as just}
use mathlib.Core.Path.{◌≡◌, sym, ◌∙◌, ap, subst}
use lib.Dec.{eqb}
use lib.ListN.{length, length-map, get_elem?, get_or, take, drop}
use lib.Seq.{length-take-le, get_or-take}
use Rattle.grammar.specs.Lists.{any_pass, keep, distinct, place, joined_of, numbers_from, numbers_below}
use Rattle.grammar.specs.Limits.{large}
use Rattle.grammar.specs.LimitSets.{limits_of}
use Rattle.grammar.specs.Names.{Name, same_name}
use Rattle.grammar.specs.Content.{Content, choice_of}
use Rattle.grammar.specs.ReadContent.{same_content}
use Rattle.std.specs.Prelude.{Ok, Err, Result}
use Rattle.grammar.specs.Tree.{Tree}
use Rattle.grammar.specs.Table.{Rule, Table}
use Rattle.grammar.specs.Fields.{field_bytes}
use Rattle.grammar.specs.ReadDocument.{Node}
use Rattle.grammar.specs.WriteTable.{rule_field, table_bytes}
use Rattle.grammar.specs.Size.{content_too_large, too_large}
use Rattle.grammar.specs.Sample.{sample, sequence_of}
use Rattle.grammar.specs.Widen.{sample_table}
use Rattle.grammar.specs.declared.Refusal.TheVariants.{ResultTooLarge}
use Rattle.grammar.specs.declared.SizeLimits.{SizeLimits}
use Rattle.grammar.specs.declared.TooLarge.{TooLarge}
use Rattle.theory.specs.Alternatives.{gathered}
use Rattle.theory.proofs.Lists.ListLaws.{
  at_else,
  at_or_else,
  mem_at,
  at_below,
  distinct_was,
  kept,
  numbers_below_lem,
  keep_on,
  any_map,
  map_on,
  joined_on,
  taken_mem,
  listed_from,
  numbers_within,
}
use Rattle.theory.proofs.Lists.DistinctLaws.{distinct_on}
use Rattle.theory.proofs.Emission.EmittedContent.{joined_map}
use Rattle.sequences.specs.SampleContents.{kid_types, NodesHeld, sequence_in, sequences_among, content_in}
use Rattle.sequences.specs.SampleTexts.{mark_in, text_in, MarksHeld}
use Rattle.writer.specs.Tables.{numbered_field, rules_bytes, TablePut}
use Rattle.writer.proofs.TableSize.{size_over, size_fits, types_over, content_over, bytes_over, all_fit}
use Rattle.sampling.specs.SampleTable.{
  rule_in,
  label_field,
  start_bytes,
  SampleHeld,
  SampleReady,
  RulesHeld,
  SampleDrafted,
}
use Rattle.paths.specs.SampleNodes.{
  KeyAt,
  KeysAt,
  LabelledTo,
  name_in,
  same_name_in,
  name_at,
  mark_at,
  parent_at,
  kids_of,
  type_at,
  same_at,
  same_named,
  firsts_of,
  label_nodes,
  sequence_at,
  of_type,
  content_of_type,
  text_of_type,
  rule_of_node,
  sample_of_nodes,
}
use Rattle.paths.proofs.NumberingLaws.{place_agree}
use Rattle.paths.proofs.SampleByNodes.{sample_nodes, first_type}

-- lists by places
taken_at : (l : List ℕ) (c : ℕ) → c ≤ length l → take c l ≡ map (λ (t : ℕ). get_or l t 0) (numbers_below c)
unfolding numbers_below
taken_at l c h =
    let k = length-take-le c l h in
    listed_from (λ (t : ℕ). get_or l t 0) 0 (take c l) 0
    (λ j b. let z : 0 + j ≡ j = omega arith in ap (λ (t : ℕ). get_or l t 0) z ∙ sym (get_or-take c l j 0 (omega arith)))
    ∙ ap (λ (m : ℕ). map (λ (t : ℕ). get_or l t 0) (numbers_from 0 m)) k

any_on : {A : Type 0} (f g : A → Bool) (xs : List A) → ((x : A) → Memᴰ x xs → f x ≡ g x) → any_pass f xs ≡ any_pass g xs
any_on f g xs h = sym (any_map f (λ b. b) xs) ∙ ap (any_pass (λ b. b)) (map_on f g xs h) ∙ any_map g (λ b. b) xs

joined_at : (f : ℕ → List ℕ) (l : List ℕ) (c : ℕ) → c ≤ length l → joined_of (λ t. f (get_or l t 0)) (numbers_below c) ≡ joined_of f (take c l)
joined_at f l c h = sym (ap (joined_of f) (taken_at l c h) ∙ joined_map f (λ (t : ℕ). get_or l t 0) (numbers_below c))

taken_place : (l : List ℕ) (c : ℕ) {x : ℕ} → c ≤ length l → Memᴰ x (take c l) → (t : ℕ) × (t < c) × (get_or l t 0 ≡ x)
taken_place l c h m =
    let (t, at) = mem_at m in
    let b = at_below (take c l) t at in
    let k = length-take-le c l h in
    let d : t < c = omega arith in
    (t, d, sym (get_or-take c l t 0 d) ∙ at_else (take c l) t 0 at)

module _ {s names sizes shapes parents types firsts : List ℕ} {n count : ℕ}
    (q : SampleHeld s names sizes shapes parents types firsts n count) where
  abbrev ns : List Node
  ns = q.whole.list

  abbrev d : Tree
  d = q.whole.tree

  firsts_same : take count firsts ≡ firsts_of ns d
  firsts_same = q.typed.firsts_are ∙ ap (λ (m : ℕ). distinct (same_at ns d) (numbers_below m)) (sym q.whole.many)

  pub first_below : (t : ℕ) → t < count → get_or firsts t 0 < n
  first_below t h =
      (numbers_below_lem n (get_or firsts t 0)).0
      (distinct_was (same_at ns d) (numbers_below n)
      (subst (Memᴰ (get_or firsts t 0)) q.typed.firsts_are (taken_mem firsts t count h (omega (arith, q.firsts_held)))))

  parent_same : (j : ℕ) → j < n → get_or parents j 0 ≡ parent_at ns j
  parent_same j h = sym (get_or-take n parents j 0 h) ∙ ap (λ (l : List ℕ). get_or l j 0) q.whole.parents_are

  pub kids_same : (i : ℕ) → kid_types parents types n i ≡ map (type_at ns d) (kids_of ns i)
  kids_same i =
      let later = numbers_from (suc i) (n - suc i) in
      let below : (j : ℕ) → Memᴰ j later → j < n = λ j m. let w = numbers_within (suc i) (n - suc i) m in omega arith in
      map_on (λ (j : ℕ). get_or types j 0) (type_at ns d) (keep (λ (j : ℕ). eqb (get_or parents j 0) i) later)
      (λ j m. q.typed.types_are j (below j (kept (λ (j : ℕ). eqb (get_or parents j 0) i) later m).0))
      ∙ ap (map (type_at ns d))
      (keep_on (λ (j : ℕ). eqb (get_or parents j 0) i) (λ j. eqb (parent_at ns j) i) later (λ j m. ap (λ (x : ℕ). eqb x i) (parent_same j (below j m)))
      ∙ ap (λ (m : ℕ). keep (λ j. eqb (parent_at ns j) i) (numbers_from (suc i) (m - suc i))) (sym q.whole.many))

  of_type_same : (k : ℕ) → keep (λ (j : ℕ). eqb (get_or types j 0) k) (numbers_below n) ≡ of_type ns d k
  of_type_same k =
      keep_on (λ (j : ℕ). eqb (get_or types j 0) k) (λ j. eqb (type_at ns d j) k) (numbers_below n)
      (λ j m. ap (λ (x : ℕ). eqb x k) (q.typed.types_are j ((numbers_below_lem n j).0 m)))
      ∙ ap (λ (m : ℕ). keep (λ j. eqb (type_at ns d j) k) (numbers_below m)) (sym q.whole.many)

  among_same : (k : ℕ) → sequences_among parents types n k (numbers_below n) ≡ map (sequence_at ns d) (of_type ns d k)
  among_same k =
      map_on (sequence_in parents types n) (sequence_at ns d) (keep (λ (j : ℕ). eqb (get_or types j 0) k) (numbers_below n))
      (λ i m. ap sequence_of (kids_same i))
      ∙ ap (map (sequence_at ns d)) (of_type_same k)

  content_same : (k : ℕ) → content_in parents types n k ≡ content_of_type ns d k
  unfolding gathered
  content_same k = ap (λ (l : List Content). choice_of (distinct same_content l)) (among_same k)

  text_same : (k : ℕ) → text_in shapes types n k ≡ text_of_type ns d k
  text_same k =
      any_on (mark_in shapes) (mark_at ns) (keep (λ (j : ℕ). eqb (get_or types j 0) k) (numbers_below n))
      (λ i m. q.marks_are i ((numbers_below_lem n i).0 (kept (λ (j : ℕ). eqb (get_or types j 0) k) (numbers_below n) m).0))
      ∙ ap (any_pass (mark_at ns)) (of_type_same k)

  names_same : (i j : ℕ) → i < n → j < n → same_name_in s names sizes i j ≡ same_named ns d i j
  names_same i j h k =
      ap (λ (x : Name). same_name x (name_in s names sizes j)) (q.whole.names_are i h)
      ∙ ap (same_name (name_at ns i)) (q.whole.names_are j k)

  type_of_first : (t : ℕ) → t < count → type_at ns d (get_or firsts t 0) ≡ t
  type_of_first t h =
      let k = length-take-le count firsts q.firsts_held in
      first_type ns q.whole.one q.whole.enough d q.whole.is_tree t (get_or firsts t 0)
      (ap (λ (l : List ℕ). get_elem? l t) (sym firsts_same)
      ∙ at_or_else (take count firsts) t 0 (omega arith)
      ∙ ap {B = Option ℕ} just (get_or-take count firsts t 0 h))

  taken_below : (x : ℕ) → Memᴰ x (take count firsts) → x < n
  taken_below x m = let (t, h, e) = taken_place firsts count q.firsts_held m in subst (λ (y : ℕ). y < n) e (first_below t h)

  rules_many : length (sample d).rules ≡ count
  rules_many =
      ap (λ (g : Table). length g.rules) (sample_nodes ns q.whole.one q.whole.enough d q.whole.is_tree)
      ∙ length-map (firsts_of ns d) (rule_of_node ns d)
      ∙ ap length (sym firsts_same)
      ∙ length-take-le count firsts q.firsts_held

  sample_is : sample d ≡ sample_of_nodes ns d
  sample_is = sample_nodes ns q.whole.one q.whole.enough d q.whole.is_tree

  -- the sample is given if a file can hold it
  too_large_lem : (limits : SizeLimits) → too_large (limits_of limits) (sample d) ≡ true → sample_table (limits_of limits) d ≡ Err ResultTooLarge
  unfolding sample_table
  too_large_lem limits e = size_over limits (sample d) e

  fitting : (limits : SizeLimits) → too_large (limits_of limits) (sample d) ≡ false → sample_table (limits_of limits) d ≡ Ok (sample d)
  unfolding sample_table
  fitting limits e = size_fits limits (sample d) e

  -- too many types
  pub sample_wide : (limits : SizeLimits) → limits.rules < count → sample_table (limits_of limits) d ≡ Err ResultTooLarge
  sample_wide limits h = let m = rules_many in too_large_lem limits (types_over limits (sample d) (omega arith))

  module _ {labels lfirsts : List ℕ} {lcount : ℕ} (l : LabelledTo s names sizes firsts labels lfirsts lcount count) (held : lcount ≤ length lfirsts) where
    labels_distinct : distinct (same_name_in s names sizes) (take count firsts) ≡ label_nodes ns d
    labels_distinct =
        distinct_on (same_name_in s names sizes) (same_named ns d) (take count firsts)
        (λ x y m o. names_same x y (taken_below x m) (taken_below y o))
        ∙ ap (distinct (same_named ns d)) firsts_same

    labelled_below : (x : ℕ) → Memᴰ x (label_nodes ns d) → x < n
    labelled_below x m =
        taken_below x (subst (Memᴰ x) (sym firsts_same) (distinct_was (same_named ns d) (firsts_of ns d) m))

    abbrev rule : ℕ → Rule
    rule = rule_in shapes parents types labels n

    rule_same : (t : ℕ) → t < count → rule t ≡ rule_of_node ns d (get_or firsts t 0)
    rule_same t h =
        let i = get_or firsts t 0 in
        let b = first_below t h in
        let a : t ≡ type_at ns d i = sym (type_of_first t h) in
        let e : get_or labels t 0 ≡ place (same_named ns d) i (label_nodes ns d) =
        l.labels_are t h
        ∙ ap (place (same_name_in s names sizes) i) labels_distinct
        ∙ place_agree (same_name_in s names sizes) (same_named ns d) i (label_nodes ns d) (λ y m. names_same i y b (labelled_below y m)) in
        let c : content_in parents types n t ≡ content_of_type ns d (type_at ns d i) = content_same t ∙ ap (content_of_type ns d) a in
        let m : text_in shapes types n t ≡ text_of_type ns d (type_at ns d i) = text_same t ∙ ap (text_of_type ns d) a in
        λ k. record { type = a k; label = e k; content = c k; text = m k }

    labels_same : joined_of (label_field s names sizes lfirsts) (numbers_below lcount) ≡ joined_of (field_bytes 0x10) (map (name_at ns) (label_nodes ns d))
    labels_same =
        joined_at (λ i. field_bytes 0x10 (name_in s names sizes i)) lfirsts lcount held
        ∙ ap (joined_of (λ i. field_bytes 0x10 (name_in s names sizes i))) (l.firsts_are ∙ labels_distinct)
        ∙ joined_on (λ i. field_bytes 0x10 (name_in s names sizes i)) (λ i. field_bytes 0x10 (name_at ns i)) (label_nodes ns d)
        (λ i m. ap (field_bytes 0x10) (q.whole.names_are i (labelled_below i m)))
        ∙ sym (joined_map (field_bytes 0x10) (name_at ns) (label_nodes ns d))

    rules_same : rules_bytes rule count ≡ joined_of rule_field (map (rule_of_node ns d) (firsts_of ns d))
    rules_same =
        joined_on (numbered_field rule) (λ t. rule_field (rule_of_node ns d (get_or firsts t 0))) (numbers_below count)
        (λ t m. ap rule_field (rule_same t ((numbers_below_lem count t).0 m)))
        ∙ joined_at (λ i. rule_field (rule_of_node ns d i)) firsts count q.firsts_held
        ∙ ap (joined_of (λ i. rule_field (rule_of_node ns d i))) firsts_same
        ∙ sym (joined_map rule_field (rule_of_node ns d) (firsts_of ns d))

    abbrev bytes : List ℕ
    bytes = joined_of (label_field s names sizes lfirsts) (numbers_below lcount) ++ start_bytes rule count

    -- the bytes written are the sample's
    table_same : bytes ≡ table_bytes (sample d)
    unfolding table_bytes joined_of
    table_same =
        let a = joined_of (field_bytes 0x10) (map (name_at ns) (label_nodes ns d)) in
        let b = field_bytes 0x11 (0 ∷ []) in
        let r = joined_of rule_field (map (rule_of_node ns d) (firsts_of ns d)) in
        let z = field_bytes 0x1F [] in
        ap (λ (x : List ℕ). x ++ start_bytes rule count) labels_same
        ∙ ap (λ (x : List ℕ). a ++ (b ++ (x ++ z))) rules_same
        ∙ sym (append_assoc a b (r ++ z))
        ∙ sym (append_assoc (a ++ b) r z)
        ∙ ap (λ (x : List ℕ). (a ++ x) ++ r ++ z) (sym (append-nil b))
        ∙ ap table_bytes (sym sample_is)

    -- a rule of the sample is one of these
    in_sample : (t : ℕ) → t < count → Memᴰ (rule t) (sample d).rules
    in_sample t h =
        subst (λ (g : Table). Memᴰ (rule t) g.rules) (sym sample_is)
        (subst (λ (r : Rule). Memᴰ r (map (rule_of_node ns d) (firsts_of ns d))) (sym (rule_same t h))
        (Memᴰ.map (rule_of_node ns d) (subst (Memᴰ (get_or firsts t 0)) firsts_same (taken_mem firsts t count h (omega (arith, q.firsts_held))))))

    from_sample : (r : Rule) → Memᴰ r (sample d).rules → (t : ℕ) × (t < count) × (rule t ≡ r)
    from_sample r m =
        let (i, o, e) = Memᴰ.of_map (rule_of_node ns d) (firsts_of ns d) (subst (λ (g : Table). Memᴰ r g.rules) sample_is m) in
        let (t, h, f) = taken_place firsts count q.firsts_held (subst (Memᴰ i) (sym firsts_same) o) in
        (t, h, rule_same t h ∙ ap (rule_of_node ns d) f ∙ e)

    -- The limits of a content are the same for all sizes.
    pub sample_drafted : (limits : SizeLimits) → count ≤ limits.rules → (before after : List ℕ) (r : Result ℕ TooLarge)
        → TablePut before 0 rule count bytes after r → SampleDrafted (limits_of limits) d before after r
    sample_drafted limits few before after (Ok m) (p, small, fits) =
        let e = table_same in
        let long : m ≡ length (table_bytes (sample d)) = p.next_is ∙ (let z : 0 + length bytes ≡ length bytes = omega arith in z) ∙ ap length e in
        let k = rules_many in (
          fitting limits
              (all_fit limits (sample d) (omega arith)
              (λ r m.
              let (t, h, f) = from_sample r m in
              subst (λ (z : Rule). content_too_large large z.content ≡ false) f (fits t h))
              (omega arith)),
          p.is ∙ ap (λ (x : List ℕ). x ++ drop m before) e,
          long,
          small,
        )
    sample_drafted limits few before after (Err over) o =
        let e = ap length table_same in
        ⊎_elim
        (λ x. too_large_lem limits (content_over limits (sample d) (in_sample x.0 x.1) x.2))
        (λ x. too_large_lem limits (bytes_over limits (sample d) (omega arith)))
        o

-- what the writing asks of the arrays
module _ {s names sizes shapes parents types firsts : List ℕ} {n count : ℕ}
    (r : SampleReady s names sizes shapes parents types firsts n count) (few : count ≤ 128) where
  nodes_held : NodesHeld parents types n
  nodes_held =
      let w = r.held.whole in
      let f = w.few in
      record {
        few =
            λ i h.
            let k = r.kids_few i h in
            let a = ap length (kids_same r.held i) in
            let b = length-map (kids_of w.list i) (type_at w.list w.tree) in
            omega arith;
        parents_held = w.parents_held;
        types_held = r.held.types_held;
        fits = omega arith;
        bytes = λ j k. let b = r.held.typed.small j k in omega arith;
      }

  marks_held : MarksHeld shapes types n
  marks_held = record { few = r.held.whole.few; shapes_held = r.held.shapes_held; types_held = r.held.types_held }

  keys_held : {keys : List ℕ} → 2048 ≤ length keys → (i : ℕ) → i < n → KeyAt s names sizes keys i
  keys_held long i h =
      let w = r.held.whole in
      let a = w.names_held in
      let b = w.sizes_held in
      let c = w.few in
      record { name_held = omega arith; size_held = omega arith; key_held = omega arith; within = w.within i h }

  pub firsts_keys : {keys : List ℕ} → 2048 ≤ length keys → KeysAt s names sizes keys firsts count
  firsts_keys long = record { few = r.held.firsts_held; each = λ t h. keys_held long (get_or firsts t 0) (first_below r.held t h) }

  pub rules_held : {labels : List ℕ} → count ≤ length labels → RulesHeld shapes parents types labels n count
  rules_held held = record { nodes = nodes_held; marks = marks_held; few = few; labels_held = held }

  module _ {labels lfirsts : List ℕ} {lcount : ℕ} (l : LabelledTo s names sizes firsts labels lfirsts lcount count) where
    pub labels_keys : {keys : List ℕ} → 2048 ≤ length keys → lcount ≤ length lfirsts → KeysAt s names sizes keys lfirsts lcount
    labels_keys long held =
        record {
          few = held;
          each =
              λ t h.
              keys_held long (get_or lfirsts t 0)
              (taken_below r.held (get_or lfirsts t 0)
              (distinct_was (same_name_in s names sizes) (take count firsts)
              (subst (Memᴰ (get_or lfirsts t 0)) l.firsts_are (taken_mem lfirsts t lcount h (omega arith)))));
        }
