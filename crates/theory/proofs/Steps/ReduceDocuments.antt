-- Reduce keeps the documents, and leaves only types that derive documents and are reached. Where the rules of g have labels of g:
--     reduce_documents    LetsIn (reduce g) d ↔ LetsIn g d
--     reduce_fruitful     every type that has a rule in reduce g derives some document in it
--     reduce_starts       every start of reduce g derives some document in it
--     reduce_reached      every type that has a rule in reduce g is reached from a start of it
--     reduce_ruled        every type that stands in a content of reduce g has a rule in it
--     reduce_standing     and stands in some word of that content
--     reduce_nothing      reduce g has no start just where g lets in no document
--     reduce_something    and where it has one, g lets in some document
--     reduce_labelled     the rules of reduce g have labels of it
-- and of any table:
--     reduce-labels       the labels are those of g
--     reduce_fits         what fits in reduce g fits in g, and reduce_derived, what it derives g derives; its starts are starts of g
--                         (reduce_started)
--     reduce_no_two       where no two rules of g are alike in type and label, no two of reduce g are
--     reduce_one_rule     so where no two rules of g have one type
use Prim.Native.Nat.{ℕ}
use mathlib.Core.List.{List, [], ◌∷◌, Memᴰ}
use mathlib.Core.Logic.Iff
use mathlib.Core.Logic.{◌↔◌}
use mathlib.Core.Path.{◌≡◌, refl, sym, ◌∙◌, ap, subst}
use Rattle.grammar.specs.Lists.{keep, is_in}
use Rattle.grammar.specs.Content.{Content, Word}
use Rattle.grammar.specs.Tree.{Tree, Forest, Head}
use Rattle.grammar.specs.Table.{Rule, Table}
use Rattle.grammar.specs.Kinds.{NoTwoRules}
use Rattle.grammar.specs.Derivation.{Fits, Derives, derives, DerivesAll, LetsIn}
use Rattle.grammar.specs.Reduce.{prune, fruitful, without_unfruitful, reached, without_unreached, reduce}
use Rattle.theory.specs.Conditions.{Labelled}
use Rattle.theory.proofs.Lists.ListLaws.{kept, keep_mem, in_mem, mem_in}
use Rattle.theory.proofs.Lists.NoTwo.{no_two_keep, no_two_map}
use Rattle.theory.proofs.Contents.SimplifyWords.{prune_words, prune_standing}
use Rattle.theory.proofs.Steps.Fruitful.{tree_fruitful, forest_fruitful, fruitful_is}
use Rattle.theory.proofs.Tables.CarryDerivations.{carry_tree}
use Rattle.theory.proofs.Steps.Reached.{
  reached_is,
  reached_on,
  rule_remains,
  rule_was,
  reached_remains,
  reached_trees,
  start_reached,
  remaining_fits,
}
use Rattle.theory.proofs.Tables.TableConditions.{HasRule, Reaches, SomeTree, AllRuled, OneRuleEach}
use Rattle.theory.proofs.Contents.Standing.{StandsIn, WordWith}
use Rattle.theory.proofs.Tables.NamedLabels.{same_labels_named}

pub reduce-labels : (g : Table) → (reduce g).labels ≡ g.labels
unfolding reduce without_unreached without_unfruitful
reduce-labels g = refl

-- without the unfruitful types
module _ (g : Table) where
  abbrev pruned : Rule → Rule
  pruned r = record { type = r.type; label = r.label; content = prune (fruitful g) r.content; text = r.text }

  fruitful_rule : (r : Rule) → Memᴰ r g.rules → Memᴰ r.type (fruitful g)
      → Memᴰ (pruned r) (without_unfruitful g).rules
  unfolding without_unfruitful
  fruitful_rule r m p = mathlib.Core.List.Memᴰ.map pruned (keep_mem (λ (s : Rule). is_in s.type (fruitful g)) m (mem_in p))

  -- the rule that was pruned
  record Was (r : Rule) : Type 0 where
    pub rule : Rule
    pub of_table : Memᴰ rule g.rules
    pub of_fruitful : Memᴰ rule.type (fruitful g)
    pub of_rule : pruned rule ≡ r

  fruitful_was : (r : Rule) → Memᴰ r (without_unfruitful g).rules → Was r
  unfolding without_unfruitful
  fruitful_was r m =
      let o = mathlib.Core.List.Memᴰ.of_map pruned (keep (λ (s : Rule). is_in s.type (fruitful g)) g.rules) m in
      let p = kept (λ (s : Rule). is_in s.type (fruitful g)) g.rules o.1 in
      record { rule = o.0; of_table = p.0; of_fruitful = in_mem o.0.type (fruitful g) p.1; of_rule = o.2 }

  fruitful_labels : g.labels ≡ (without_unfruitful g).labels
  unfolding without_unfruitful
  fruitful_labels = refl

  -- what fits without the unfruitful types fits with them
  unpruned_fits : {k : ℕ} {h : Head} {w : List ℕ} → Fits (without_unfruitful g) k h w → Fits g k h w
  unpruned_fits {w = w} f =
      let o = fruitful_was f.rule f.of_table in
      let v = subst (λ (r : Rule). Word r.content w) (sym o.of_rule) f.word in
      record {
        rule = o.rule;
        of_table = o.of_table;
        of_type = ap (λ (r : Rule). r.type) o.of_rule ∙ f.of_type;
        of_name =
            same_labels_named {g = without_unfruitful g} (sym fruitful_labels)
            (rw (ap (λ (r : Rule). r.label) o.of_rule) f.of_name);
        of_text = λ e. ap (λ (r : Rule). r.text) o.of_rule ∙ f.of_text e;
        word = ((prune_words (fruitful g) o.rule.content w).0 v).0;
      }

  -- so what fits in the reduced table fits in the table
  pub reduce_fits : {k : ℕ} {h : Head} {w : List ℕ} → Fits (reduce g) k h w → Fits g k h w
  unfolding reduce
  reduce_fits f = unpruned_fits (remaining_fits (without_unfruitful g) f)

  pub reduce_derived : {k : ℕ} {t : Tree} → Derives (reduce g) k t → Derives g k t
  reduce_derived d = carry_tree (reduce g) g (λ l. Unit {0}) (λ l h w ts q f a. (reduce_fits f, λ x i. tt)) d tt

  fruitful_trees : (k : ℕ) (t : Tree) → Derives g k t ↔ Derives (without_unfruitful g) k t
  fruitful_trees k t = (
    λ d. carry_tree g (without_unfruitful g) (λ l. Unit {0}) (λ l h w ts q f a. (there l h w ts f a, λ x i. tt)) d tt,
    λ d. carry_tree (without_unfruitful g) g (λ l. Unit {0}) (λ l h w ts q f a. (unpruned_fits f, λ x i. tt)) d tt,
  )
    where
      there : (l : ℕ) (h : Head) (w : List ℕ) (ts : Forest) → Fits g l h w → DerivesAll g w ts → Fits (without_unfruitful g) l h w
      there l h w ts f a =
          record {
            rule = pruned f.rule;
            of_table = fruitful_rule f.rule f.of_table (mathlib.Core.List.Memᴰ.cast f.of_type (tree_fruitful g (derives f a)));
            of_type = f.of_type;
            of_name = same_labels_named fruitful_labels f.of_name;
            of_text = f.of_text;
            word = (prune_words (fruitful g) f.rule.content w).1 (f.word, forest_fruitful g a);
          }

  fruitful_start : (k : ℕ) → Memᴰ k (without_unfruitful g).starts ↔ (Memᴰ k g.starts × Memᴰ k (fruitful g))
  unfolding without_unfruitful
  fruitful_start k = (
    λ m.
        let p = kept (λ l. is_in l (fruitful g)) g.starts m in
        (p.0, in_mem k (fruitful g) p.1),
    λ p. keep_mem (λ l. is_in l (fruitful g)) p.0 (mem_in p.1),
  )

  fruitful_standing : (r : Rule) (k : ℕ) → Memᴰ r (without_unfruitful g).rules → StandsIn k r.content
      → WordWith k (Word r.content) × Memᴰ k (fruitful g)
  fruitful_standing r k m s =
      let o = fruitful_was r m in
      let e = ap (λ (q : Rule). q.content) o.of_rule in
      subst (λ (c : Content). WordWith k (Word c) × Memᴰ k (fruitful g)) e
      (prune_standing k (fruitful g) o.rule.content (subst (StandsIn k) (sym e) s))

  module _ (labelled : Labelled g) where
    fruitful_ruled : AllRuled (without_unfruitful g)
    fruitful_ruled r m k s =
        let p = (fruitful_standing r k m s).1 in
        rule_of ((fruitful_is g labelled k).0 p).1 p
      where
        rule_of : {k : ℕ} {t : Tree} → Derives g k t → Memᴰ k (fruitful g) → HasRule (without_unfruitful g) k
        rule_of (derives f a) p =
            record {
              rule = pruned f.rule;
              of_table = fruitful_rule f.rule f.of_table (mathlib.Core.List.Memᴰ.cast f.of_type p);
              of_type = f.of_type;
            }

    -- what reduce leaves
    reduce_trees : (k : ℕ) (t : Tree) → Memᴰ k (reached (without_unfruitful g)) → Derives g k t ↔ Derives (reduce g) k t
    unfolding reduce
    reduce_trees k t p = Iff.trans (fruitful_trees k t) (reached_trees (without_unfruitful g) fruitful_ruled k t p)

    same_starts : (without_unfruitful g).starts ≡ (reduce g).starts
    unfolding reduce without_unreached
    same_starts = refl

    pub reduce_documents : (d : Tree) → LetsIn (reduce g) d ↔ LetsIn g d
    reduce_documents d = (there, back)
      where
        there : LetsIn (reduce g) d → LetsIn g d
        there l =
            let m : Memᴰ l.start (without_unfruitful g).starts = rw same_starts l.of_table in
            record {
              start = l.start;
              of_table = ((fruitful_start l.start).0 m).0;
              derived = (reduce_trees l.start d (start_reached (without_unfruitful g) l.start m)).1 l.derived;
            }

        back : LetsIn g d → LetsIn (reduce g) d
        back l =
            let m = (fruitful_start l.start).1 (l.of_table, tree_fruitful g l.derived) in
            record {
              start = l.start;
              of_table = rw (← same_starts) m;
              derived = (reduce_trees l.start d (start_reached (without_unfruitful g) l.start m)).0 l.derived;
            }

    pub reduce_started : (k : ℕ) → Memᴰ k (reduce g).starts → Memᴰ k g.starts
    reduce_started k m = ((fruitful_start k).0 (rw same_starts m)).0

    reduce_tree : (k : ℕ) → Memᴰ k (fruitful g) → Memᴰ k (reached (without_unfruitful g)) → SomeTree (reduce g) k
    reduce_tree k p q =
        let t = (fruitful_is g labelled k).0 p in
        (t.0, (reduce_trees k t.0 q).0 t.1)

    pub reduce_starts : (k : ℕ) → Memᴰ k (reduce g).starts → SomeTree (reduce g) k
    reduce_starts k m =
        let n : Memᴰ k (without_unfruitful g).starts = rw same_starts m in
        reduce_tree k ((fruitful_start k).0 n).1 (start_reached (without_unfruitful g) k n)

    -- the rule without the unfruitful types, and the one of g
    reduce_was : (r : Rule) → Memᴰ r (reduce g).rules
        → Memᴰ r (without_unfruitful g).rules × Memᴰ r.type (reached (without_unfruitful g))
    unfolding reduce
    reduce_was r m = rule_was (without_unfruitful g) r m

    pub reduce_fruitful : (r : Rule) → Memᴰ r (reduce g).rules → SomeTree (reduce g) r.type
    reduce_fruitful r m =
        let p = reduce_was r m in
        let o = fruitful_was r p.0 in
        reduce_tree r.type (mathlib.Core.List.Memᴰ.cast (sym (ap (λ (s : Rule). s.type) o.of_rule)) o.of_fruitful) p.1

    pub reduce_reached : (r : Rule) → Memᴰ r (reduce g).rules → Reaches (reduce g) r.type
    unfolding reduce
    reduce_reached r m =
        reached_remains (without_unfruitful g) fruitful_ruled
        ((reached_is (without_unfruitful g) fruitful_ruled r.type).0 (reduce_was r m).1)

    pub reduce_ruled : AllRuled (reduce g)
    unfolding reduce
    reduce_ruled r m k s =
        let p = reduce_was r m in
        let o = fruitful_ruled r p.0 k s in
        let q = reached_on (without_unfruitful g) fruitful_ruled r k p.0 p.1 s in
        record {
          rule = o.rule;
          of_table = rule_remains (without_unfruitful g) o.rule o.of_table (mathlib.Core.List.Memᴰ.cast o.of_type q);
          of_type = o.of_type;
        }

    pub reduce_standing : (r : Rule) → Memᴰ r (reduce g).rules → (k : ℕ) → StandsIn k r.content
        → WordWith k (Word r.content)
    reduce_standing r m k s = (fruitful_standing r k (reduce_was r m).0 s).0

    pub reduce_labelled : Labelled (reduce g)
    reduce_labelled r m =
        let o = fruitful_was r (reduce_was r m).0 in
        rw (reduce-labels g, ← ap (λ (s : Rule). s.label) o.of_rule) (labelled o.rule o.of_table)

    pub reduce_something : {k : ℕ} → Memᴰ k (reduce g).starts → (d : Tree) × LetsIn g d
    reduce_something {k} m =
        let t = reduce_starts k m in
        (t.0, (reduce_documents t.0).0 (record { start = k; of_table = m; derived = t.1 }))

    pub reduce_nothing : ((reduce g).starts ≡ []) ↔ ((d : Tree) → LetsIn g d → ⊥)
    reduce_nothing = (
      λ e d l.
          let o = (reduce_documents d).1 l in
          mathlib.Core.List.Memᴰ.not-nil (subst (λ (ks : List ℕ). Memᴰ o.start ks) e o.of_table),
      λ h. no_start (reduce g).starts (λ k m. let s = reduce_something m in h s.0 s.1),
    )
      where
        no_start : (ks : List ℕ) → ((k : ℕ) → Memᴰ k ks → ⊥) → ks ≡ []
        no_start [] h = refl
        no_start (k ∷ ks) h = absurd (h k (mathlib.Core.List.Memᴰ.head refl))

-- rules alike in type and label
module _ (Alike : ℕ → ℕ → ℕ → ℕ → Type 0) where
  abbrev pub AlikeRules : Rule → Rule → Type 0
  AlikeRules r s = Alike r.type r.label s.type s.label

  pub reduce_no_two : (g : Table) → NoTwoRules g AlikeRules → NoTwoRules (reduce g) AlikeRules
  unfolding reduce without_unreached without_unfruitful
  reduce_no_two g h =
      no_two_keep AlikeRules (λ (r : Rule). is_in r.type (reached (without_unfruitful g))) (without_unfruitful g).rules
      (no_two_map (pruned g) AlikeRules (keep (λ (r : Rule). is_in r.type (fruitful g)) g.rules)
      (no_two_keep AlikeRules (λ (r : Rule). is_in r.type (fruitful g)) g.rules h))

pub reduce_one_rule : (g : Table) → OneRuleEach g → OneRuleEach (reduce g)
reduce_one_rule = reduce_no_two (λ k l m n. k ≡ m)
