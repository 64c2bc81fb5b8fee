-- Unite keeps the documents:
--     unite_documents    where old's types are below the limit and rules' labels are among the labels, the united table lets in a
--                        document iff the old table or the addition does
--     unite_labelled     each rule's label is among the united labels
--     unite_names        no two of the united labels have equal names, if no two of old's do and no two of the addition's
--     unite_apart        a rule of old and a rule of the addition never have one type in the united table
use Prim.Native.Nat.{ℕ, ◌+◌, ◌<◌}
use native.Mathlib.Omega.{arith}
use mathlib.Core.Bool.{Bool, true, false, not}
use mathlib.Core.List.Memᴰ
use mathlib.Core.List.{
  List,
  [],
  ◌++◌,
  map,
  Memᴰ,
  Forall₂,
}
use mathlib.Core.Logic.{◌↔◌, ◌⊎◌, inl, inr, ⊎_elim}
use mathlib.Core.Option.{some}
use mathlib.Core.Path.{◌≡◌, refl, sym, ◌∙◌, ap, subst}
use lib.ListN.{length, get_elem?}
use borrow.Author.Tests.{not-true}
use Rattle.grammar.specs.Lists.{any_pass, keep, place}
use Rattle.grammar.specs.Limits.{Limits}
use Rattle.grammar.specs.Names.{Name, same_name, SameName}
use Rattle.grammar.specs.Content.{Word}
use Rattle.grammar.specs.Tree.{Head, Tree}
use Rattle.grammar.specs.Table.{Rule, Table, Named, DistinctNames}
use Rattle.grammar.specs.Derivation.{Fits, Derives, LetsIn}
use Rattle.grammar.specs.Unite.{united_labels, shifted, added, unite}
use Rattle.theory.specs.Conditions.{Labelled}
use Rattle.theory.proofs.Lists.BoolLaws.{not_both, passes_or_fails}
use Rattle.theory.proofs.Lists.ListLaws.{
  any_of,
  any_found,
  keep_mem,
  kept,
  at_mem,
  at_below,
  below_at,
  at_else,
  at_joined,
  at_front,
  related_map,
  related_turn,
}
use Rattle.theory.proofs.Lists.PlaceLaws.{place_found}
use Rattle.theory.proofs.Trees.NameLaws.{name_refl, name_sym}
use Rattle.theory.proofs.Contents.WordLaws.{rename_words}
use Rattle.theory.proofs.Contents.Standing.{word_stands}
use Rattle.theory.proofs.Tables.TableConditions.{TypesBelow}
use Rattle.theory.proofs.Lists.NoTwo.{no_two_append, no_two_keep}
use Rattle.theory.proofs.Tables.Covering.{covered_derived, WordsCovered}
use Rattle.theory.proofs.Tables.CarryDerivations.{carry_tree}
use Rattle.theory.proofs.Tables.NamedLabels.{label_named, same_named, one_name}

module _ (lim : Limits) (old addition : Table) where
  abbrev united : Table
  united = unite lim old addition

  abbrev in_united : Rule → Rule
  in_united = added lim old addition

  abbrev is_new : Name → Bool
  is_new n = not (any_pass (same_name n) old.labels)

  -- every name of the addition is among the united labels
  added_name : (n : Name) → Memᴰ n addition.labels → any_pass (same_name n) (united_labels old addition) ≡ true
  unfolding united_labels
  added_name n m = ⊎_elim found new (passes_or_fails (any_pass (same_name n) old.labels))
    where
      found : any_pass (same_name n) old.labels ≡ true → any_pass (same_name n) (old.labels ++ keep is_new addition.labels) ≡ true
      found e =
          let (x, at, p) = any_found (same_name n) old.labels e in
          any_of (same_name n) (Memᴰ.append_left (keep is_new addition.labels) at) p

      new : any_pass (same_name n) old.labels ≡ false → any_pass (same_name n) (old.labels ++ keep is_new addition.labels) ≡ true
      new e = any_of (same_name n) (Memᴰ.append_right old.labels (keep_mem is_new m (ap not e))) (name_refl n)

  -- a label of old keeps its number and its name
  old_named : (l : ℕ) (n : Name) → Named old l n → Named united l n
  unfolding unite
  old_named l n p =
      record {
        name = p.name;
        listed = at_front old.labels (keep is_new addition.labels) l p.listed;
        same = p.same;
      }

  named_old : (l : ℕ) (n : Name) → l < length old.labels → Named united l n → Named old l n
  unfolding unite
  named_old l n h p =
      record {
        name = p.name;
        listed = sym (at_joined old.labels (keep is_new addition.labels) l h) ∙ p.listed;
        same = p.same;
      }

  -- a label of the addition gets the number of an equal name
  relabelled : (r : Rule) (m : Name) → get_elem? addition.labels r.label ≡ some m → Named united (in_united r).label m
  unfolding unite
  relabelled r m e =
      let found = added_name m (at_mem addition.labels r.label e) in
      let (y, at, same) = place_found same_name m (united_labels old addition) found in
      record {
        name = y;
        listed =
            subst (λ (n : Name). get_elem? (united_labels old addition) (place same_name n (united_labels old addition)) ≡ some y)
            (sym (at_else addition.labels r.label [] e))
            at;
        same = name_sym m y same;
      }

  added_named : (r : Rule) (n : Name) → Named addition r.label n → Named united (in_united r).label n
  added_named r n p = same_named (relabelled r p.name p.listed) p.same

  named_added : (r : Rule) (n : Name) → r.label < length addition.labels → Named united (in_united r).label n
      → Named addition r.label n
  named_added r n h p =
      let (m, at) = below_at addition.labels r.label h in
      same_named (label_named at) (one_name (relabelled r m at) p)

  -- a rule of the united table is a rule of old or of the addition
  rule_of : {r : Rule} → Memᴰ r united.rules
      → Memᴰ r old.rules ⊎ ((s : Rule) × Memᴰ s addition.rules × (in_united s ≡ r))
  unfolding unite
  rule_of m = ⊎_elim inl (λ n. inr (Memᴰ.of_map in_united addition.rules n)) (Memᴰ.append_cases old.rules m)

  old_rule : {r : Rule} → Memᴰ r old.rules → Memᴰ r united.rules
  unfolding unite
  old_rule m = Memᴰ.append_left (map in_united addition.rules) m

  added_rule : {r : Rule} → Memᴰ r addition.rules → Memᴰ (in_united r) united.rules
  unfolding unite
  added_rule m = Memᴰ.append_right old.rules (Memᴰ.map in_united m)

  -- what fits a type of old fits it in the united table, and only that
  old_fits : {k : ℕ} {h : Head} {w : List ℕ} → Fits old k h w → Fits united k h w
  old_fits {h = h} f =
      record {
        rule = f.rule;
        of_table = old_rule f.of_table;
        of_type = f.of_type;
        of_name = old_named f.rule.label h.name f.of_name;
        of_text = f.of_text;
        word = f.word;
      }

  added_fits : {k : ℕ} {h : Head} {w : List ℕ} → Fits addition k h w → Fits united (shifted lim k) h (map (shifted lim) w)
  unfolding added
  added_fits {h = h} {w = w} f =
      record {
        rule = in_united f.rule;
        of_table = added_rule f.of_table;
        of_type = ap (shifted lim) f.of_type;
        of_name = added_named f.rule h.name f.of_name;
        of_text = f.of_text;
        word =
            (rename_words (shifted lim) f.rule.content (map (shifted lim) w)).1
            (record { source = w; in_language = f.word; renamed = refl });
      }

  -- a derivation of old, or of the addition, is one of the united table
  old_derives : {k : ℕ} {t : Tree} → Derives old k t → Derives united k t
  old_derives d = carry_tree old united (λ k. Unit {0}) (λ k h w ts p f a. (old_fits f, λ l m. tt)) d tt

  added_derives : {k : ℕ} {t : Tree} → Derives addition k t → Derives united (shifted lim k) t
  added_derives {k} d = covered_derived {Cover = λ k j. j ≡ shifted lim k} words d (shifted lim k) refl
    where
      words : WordsCovered addition united (λ k j. j ≡ shifted lim k)
      words k j h w e f =
          record {
            word = map (shifted lim) w;
            fits = subst (λ (i : ℕ). Fits united i h (map (shifted lim) w)) (sym e) (added_fits f);
            covers = related_map (shifted lim) w (λ l m. refl);
          }

  added_type : (s : Rule) → (in_united s).type ≡ lim.types + s.type
  unfolding added
  added_type s = refl

  module _ (below : TypesBelow lim old) where
    -- A rule of old and a rule of the addition never have one type.
    pub unite_apart : (r s : Rule) → Memᴰ r old.rules → r.type ≡ (in_united s).type → ⊥
    unite_apart r s m e = let h = below.rules r m in let f = added_type s in omega arith

    -- a derivation of the united table from a type below the limit is one of old
    fits_old : Labelled old → {k : ℕ} {h : Head} {w : List ℕ} → k < lim.types → Fits united k h w → Fits old k h w
    fits_old labelled {k} {h} {w} below_limit f = ⊎_elim here (λ t. absurd (there t)) (rule_of f.of_table)
      where
        here : Memᴰ f.rule old.rules → Fits old k h w
        here m =
            record {
              rule = f.rule;
              of_table = m;
              of_type = f.of_type;
              of_name = named_old f.rule.label h.name (labelled f.rule m) f.of_name;
              of_text = f.of_text;
              word = f.word;
            }

        there : ((s : Rule) × Memᴰ s addition.rules × (in_united s ≡ f.rule)) → ⊥
        there t =
            let e = ap (λ (r : Rule). r.type) t.2 ∙ f.of_type in
            let g = added_type t.0 in
            omega arith

    fits_below : {k : ℕ} {h : Head} {w : List ℕ} → Fits old k h w → (l : ℕ) → Memᴰ l w → l < lim.types
    fits_below {w = w} f l m = below.contents f.rule f.of_table l (word_stands f.rule.content w f.word l m)

    derives_old : Labelled old → {k : ℕ} {t : Tree} → Derives united k t → k < lim.types → Derives old k t
    derives_old labelled =
        carry_tree united old (λ k. k < lim.types) (λ k h w ts q f a. let e = fits_old labelled q f in (e, fits_below e))

    -- a derivation of the united table from a shifted type is one of the addition
    record FitsAdded (k : ℕ) (h : Head) (w : List ℕ) : Type 0 where
      source : List ℕ
      fits : Fits addition k h source
      renamed : w ≡ map (shifted lim) source

    fits_added : Labelled addition → {j : ℕ} {h : Head} {w : List ℕ} → Fits united j h w → (k : ℕ) → j ≡ shifted lim k
        → FitsAdded k h w
    unfolding added
    fits_added labelled {j} {h} {w} f k e = ⊎_elim (λ m. absurd (here m)) (λ t. there t.0 t.1 t.2) (rule_of f.of_table)
      where
        here : Memᴰ f.rule old.rules → ⊥
        here m = let b = below.rules f.rule m in let g = f.of_type ∙ e in omega arith

        there : (s : Rule) → Memᴰ s addition.rules → in_united s ≡ f.rule → FitsAdded k h w
        there s m q =
            let g = ap (λ (r : Rule). r.type) q ∙ f.of_type ∙ e in
            let v =
            (rename_words (shifted lim) s.content w).0 (subst (λ (r : Rule). Word r.content w) (sym q) f.word) in
            record {
              source = v.source;
              fits =
                  record {
                    rule = s;
                    of_table = m;
                    of_type = omega arith;
                    of_name =
                        named_added s h.name (labelled s m)
                        (subst (λ (r : Rule). Named united r.label h.name) (sym q) f.of_name);
                    of_text = λ p. ap (λ (r : Rule). r.text) q ∙ f.of_text p;
                    word = v.in_language;
                  };
              renamed = v.renamed;
            }

    derives_added : Labelled addition → {j : ℕ} {t : Tree} → Derives united j t → (k : ℕ) → j ≡ shifted lim k → Derives addition k t
    derives_added labelled = covered_derived {Cover = λ j k. j ≡ shifted lim k} words
      where
        words : WordsCovered united addition (λ j k. j ≡ shifted lim k)
        words j k h w e f =
            let a = fits_added labelled f k e in
            record {
              word = a.source;
              fits = a.fits;
              covers =
                  subst (λ (v : List ℕ). Forall₂ (λ j k. j ≡ shifted lim k) v a.source) (sym a.renamed)
                  (related_turn {R = λ k j. j ≡ shifted lim k} (λ k j p. p)
                  (related_map (shifted lim) a.source (λ l m. refl)));
            }

    pub unite_documents : Labelled old → Labelled addition → (d : Tree)
        → LetsIn (unite lim old addition) d ↔ (LetsIn old d ⊎ LetsIn addition d)
    unfolding unite
    unite_documents old_labelled added_labelled d = (apart, ⊎_elim of_old of_addition)
      where
        apart : LetsIn united d → LetsIn old d ⊎ LetsIn addition d
        apart l =
            ⊎_elim
            (λ m.
            inl
            (record {
              start = l.start;
              of_table = m;
              derived = derives_old old_labelled l.derived (below.starts l.start m);
            }))
            (λ m.
            let (k, n, e) = Memᴰ.of_map (shifted lim) addition.starts m in
            inr (record { start = k; of_table = n; derived = derives_added added_labelled l.derived k (sym e) }))
            (Memᴰ.append_cases old.starts l.of_table)

        of_old : LetsIn old d → LetsIn united d
        of_old l =
            record {
              start = l.start;
              of_table = Memᴰ.append_left (map (shifted lim) addition.starts) l.of_table;
              derived = old_derives l.derived;
            }

        of_addition : LetsIn addition d → LetsIn united d
        of_addition l =
            record {
              start = shifted lim l.start;
              of_table = Memᴰ.append_right old.starts (Memᴰ.map (shifted lim) l.of_table);
              derived = added_derives l.derived;
            }

  -- Each rule's label is among the united labels.
  pub unite_labelled : Labelled old → Labelled addition → Labelled united
  unite_labelled old_labelled added_labelled r m = ⊎_elim here (λ t. there t.0 t.1 t.2) (rule_of m)
    where
      here : Memᴰ r old.rules → r.label < length united.labels
      here n =
          let (x, at) = below_at old.labels r.label (old_labelled r n) in
          at_below united.labels r.label (old_named r.label x (label_named at)).listed

      there : (s : Rule) → Memᴰ s addition.rules → in_united s ≡ r → r.label < length united.labels
      there s n e =
          let (x, at) = below_at addition.labels s.label (added_labelled s n) in
          subst (λ (q : Rule). q.label < length united.labels) e
          (at_below united.labels (in_united s).label (relabelled s x at).listed)

  -- No two of the united labels have equal names.
  pub unite_names : DistinctNames old → DistinctNames addition → DistinctNames united
  unfolding unite
  unite_names p q =
      no_two_append SameName old.labels (keep is_new addition.labels) p
      (no_two_keep SameName is_new addition.labels q)
      (record {
        forth = λ m n at new e. differ m n at new (name_sym m n e);
        back = λ m n at new e. differ m n at new e;
      })
    where
      differ : (m n : Name) → Memᴰ m old.labels → Memᴰ n (keep is_new addition.labels) → SameName n m → ⊥
      differ m n at new e =
          not_both (any_of (same_name n) at e)
          (not-true (any_pass (same_name n) old.labels) (kept is_new addition.labels new).1)
