-- Alternatives gathered number by number, for what the numbers below n give.
--   given_on, given_off, given_as   what is asked for, and what is not
--   so_far_none, so_far_next        no number yet; one number more; so_far_skip : one that gives nothing; ready_for : ready for the next
--   so_far_wide, so_far_all         what one number gives does not fit, so all do not; all numbers
--   pair_gives_lem, set_gives           what the contents of a pair give, by its rules; of a set, by its pairs
--   made_wide, made_kept, made_so   the content of all: too large, or made of the operands that stand in the draft
use Prim.Native.Nat.{ℕ, suc, ◌+◌, ◌-◌, ◌*◌, ◌≤◌, ◌<◌}
use native.Mathlib.Omega.{arith}
use mathlib.Core.Bool.{Bool, true, false}
use mathlib.Core.List.{List, [], ◌∷◌, ◌++◌, append_assoc, append-nil}
use mathlib.Core.Path.{◌≡◌, refl, sym, ◌∙◌, ap, subst}
use lib.ListN.{length}
use lib.Dec.{eqb}
use Rattle.std.specs.Prelude.{Err, Ok, Result}
use Rattle.grammar.specs.Lists.{keep, joined_of, numbers_from, numbers_below}
use Rattle.grammar.specs.Limits.{large, content_limit, nesting_limit}
use Rattle.grammar.specs.Content.{Content, choice_of}
use Rattle.grammar.specs.Size.{content_too_large}
use Rattle.grammar.specs.Table.{Table}
use Rattle.grammar.specs.Normalise.{pair_of}
use Rattle.grammar.specs.declared.TooLarge.{TooLarge}
use Rattle.theory.specs.Alternatives.{alts, one_content, only_if, gathered}
use Rattle.theory.specs.Conditions.{Regular}
use Rattle.theory.proofs.Lists.ListLaws.{keep_yes, keep_no}
use Rattle.theory.proofs.Emission.EmittedContent.{joined_map, joined_twice}
use Rattle.theory.proofs.Emission.GatheringLaws.{gather_nothing, gather_more, written_gathered}
use Rattle.union.specs.Rounds.{content_of_rule}
use Rattle.union.specs.PairNumbers.{rule_numbered, contents_of_pair, contents_in}
use Rattle.operands.specs.declared.drafts.OperandRow.{OperandRow}
use Rattle.operands.specs.declared.drafts.Gathering.{Gathering}
use Rattle.operands.specs.Drafts.{headed_length, reaching, Row, Kept, TooWide, GathersIn}
use Rattle.operands.specs.Notes.{Registered, register_length}
use Rattle.contents.specs.Completing.{Made}
use Rattle.operands.proofs.WideLaws.{wide_gathered, too_large}
use Rattle.operands.proofs.NoteLaws.{no_upto}
use Rattle.contents.specs.Joining.{Ready, content_row, GathersRegistered}

-- what is asked for, and what is not
pub given_on : (xs : List Content) (on : Bool) → on ≡ true → only_if on xs ≡ xs
unfolding only_if
given_on xs on e = ap (λ (b : Bool). only_if b xs) e

pub given_off : (xs : List Content) (on : Bool) → on ≡ false → only_if on xs ≡ []
unfolding only_if
given_off xs on e = ap (λ (b : Bool). only_if b xs) e

pub given_as : {draft register : List ℕ} {row : OperandRow} {r : Result Gathering TooLarge} (ds xs ys : List Content) → xs ≡ ys
    → GathersRegistered draft register row (gathered ds xs) r → GathersRegistered draft register row (gathered ds ys) r
given_as {draft} {register} {row} {r} ds xs ys e g = subst (λ (l : List Content). GathersRegistered draft register row (gathered ds l) r) e g

-- Operands stand in the draft that were kept before or that the numbers below i give.
module _ (give : ℕ → List Content) (n : ℕ) (row : OperandRow) where
  abbrev pub rest_from : ℕ → List Content
  rest_from i = joined_of give (numbers_from i (n - i))

  pub record MergedSoFar (ds : List Content) (draft register : List ℕ) (count end i : ℕ) : Type 0 where
    pub list : List Content
    pub registered : Registered register (gathered ds list)
    pub stand : Row draft row.base count (gathered ds list) end
    pub fits : end ≤ row.limit
    pub rest : list ++ rest_from i ≡ joined_of give (numbers_below n)

  rest_next : (i : ℕ) → i < n → rest_from i ≡ give i ++ rest_from (i + 1)
  unfolding joined_of numbers_from
  rest_next i h =
      let z : n - i ≡ suc (n - (i + 1)) = omega arith in
      let s : suc i ≡ i + 1 = omega arith in
      ap (λ (m : ℕ). joined_of give (numbers_from i m)) z
      ∙ ap (λ (j : ℕ). give i ++ joined_of give (numbers_from j (n - (i + 1)))) s

  rest_none : rest_from n ≡ []
  unfolding joined_of numbers_from
  rest_none = let z : n - n ≡ 0 = omega arith in ap (λ (m : ℕ). joined_of give (numbers_from n m)) z

  pub so_far_none : {draft register : List ℕ} (k : Ready draft register row)
      → MergedSoFar k.kept.list draft register row.count row.end 0
  unfolding numbers_below
  so_far_none {draft} {register} k =
      let same = sym (gather_nothing k.kept.list k.kept.row.apart) in
      record {
        list = [];
        registered = subst (Registered register) same k.registered;
        stand = subst (λ (l : List Content). Row draft row.base row.count l row.end) same k.kept.row;
        fits = k.fits;
        rest = let z : n - 0 ≡ n = omega arith in ap (λ (m : ℕ). joined_of give (numbers_from 0 m)) z;
      }

  module _ {ds : List Content} {draft register : List ℕ} {count end i : ℕ} (s : MergedSoFar ds draft register count end i) where
    -- ready for the next number
    abbrev pub ready_for : row.limit ≤ row.base + content_limit → row.limit + headed_length * nesting_limit ≤ length draft
        → register_length ≤ length register → Ready draft register (reaching row count end)
    ready_for small room deep =
        record {
          kept = record { list = gathered ds s.list; row = s.stand };
          registered = s.registered;
          fits = s.fits;
          small = small;
          room = room;
          deep = deep;
        }

    -- a number that gives nothing
    pub so_far_skip : i < n → give i ≡ [] → MergedSoFar ds draft register count end (i + 1)
    so_far_skip h none =
        record {
          list = s.list;
          registered = s.registered;
          stand = s.stand;
          fits = s.fits;
          rest =
              ap (λ (l : List Content). s.list ++ (l ++ rest_from (i + 1))) (sym none)
              ∙ ap (λ (l : List Content). s.list ++ l) (sym (rest_next i h))
              ∙ s.rest;
        }

    module _ (h : i < n) (after register' : List ℕ) (r : Result Gathering TooLarge)
        (g : GathersRegistered after register' (reaching row count end) (gathered (gathered ds s.list) (give i)) r) where
      abbrev next_list : List Content
      next_list = s.list ++ give i

      next_gathers : GathersIn after (reaching row count end) (gathered ds next_list) r
      next_gathers = subst (λ (l : List Content). GathersIn after (reaching row count end) l r) (gather_more ds s.list (give i)) g.gathers

      next_rest : next_list ++ rest_from (i + 1) ≡ joined_of give (numbers_below n)
      next_rest =
          append_assoc s.list (give i) (rest_from (i + 1))
          ∙ ap (λ (l : List Content). s.list ++ l) (sym (rest_next i h))
          ∙ s.rest

      pub so_far_wide : r ≡ Err (record {}) → (last register'' : List ℕ) (all : List Content) → joined_of give (numbers_below n) ≡ all
          → GathersRegistered last register'' row (gathered ds all) (Err (record {}))
      unfolding GathersIn
      so_far_wide e last register'' all whole =
          record {
            gathers =
                subst (λ (l : List Content). TooWide (row.limit - row.base) (gathered ds l)) (next_rest ∙ whole)
                (wide_gathered (row.limit - row.base) ds next_list (rest_from (i + 1))
                (subst (λ (x : Result Gathering TooLarge). GathersIn after (reaching row count end) (gathered ds next_list) x) e next_gathers));
            registered = λ u. no_upto u;
          }

      pub so_far_next : {m c stop : ℕ} → r ≡ Ok (record { next = m; count = c; end = stop }) → MergedSoFar ds after register' c stop (i + 1)
      unfolding GathersIn
      so_far_next {m} {c} {stop} e =
          let t : Row after row.base c (gathered ds next_list) stop × (stop ≤ row.limit) =
          subst (λ (x : Result Gathering TooLarge). GathersIn after (reaching row count end) (gathered ds next_list) x) e next_gathers in
          record {
            list = next_list;
            registered = subst (Registered register') (gather_more ds s.list (give i)) (g.registered e);
            stand = t.0;
            fits = t.1;
            rest = next_rest;
          }

    pub so_far_all : i ≡ n → (all : List Content) → joined_of give (numbers_below n) ≡ all
        → GathersRegistered draft register row (gathered ds all) (Ok (record { next = 0; count = count; end = end }))
    unfolding GathersIn
    so_far_all e all whole =
        subst (λ (l : List Content). GathersRegistered draft register row (gathered ds l) (Ok (record { next = 0; count = count; end = end })))
        (sym (append-nil s.list) ∙ ap (λ (l : List Content). s.list ++ l) (sym (ap rest_from e ∙ rest_none)) ∙ s.rest ∙ whole)
        (record { gathers = (s.stand, s.fits); registered = λ u. s.registered })

-- what some elements give, by all of them
joined_kept : {A B : Type 0} (f : A → List B) (test : A → Bool) (xs : List A)
    → joined_of f (keep test xs) ≡ joined_of (λ x. only_if (test x) (f x)) xs
unfolding joined_of keep only_if
joined_kept f test [] = refl
joined_kept {A} {B} f test (x ∷ xs) = go (test x) refl (joined_kept f test xs)
  where
    rest : List B
    rest = joined_of (λ y. only_if (test y) (f y)) xs

    go : (b : Bool) → test x ≡ b → joined_of f (keep test xs) ≡ rest
        → joined_of f (keep test (x ∷ xs)) ≡ only_if (test x) (f x) ++ rest
    go true e ih =
        ap (joined_of f) (keep_yes test x xs e)
        ∙ ap (λ (l : List B). f x ++ l) ih
        ∙ ap (λ (b : Bool). only_if b (f x) ++ rest) (sym e)
    go false e ih = ap (joined_of f) (keep_no test x xs e) ∙ ih ∙ ap (λ (b : Bool). only_if b (f x) ++ rest) (sym e)

module _ (of : ℕ → List ℕ) (u : Table) where
  -- what a rule gives to a pair, and a pair to a set; it gives nothing to another
  abbrev pub rule_gives : (p i : ℕ) → List Content
  rule_gives p i = only_if (eqb (pair_of u (rule_numbered u i)) p) (alts of (content_of_rule u i))

  abbrev pub pair_gives : (ℕ → Bool) → ℕ → List Content
  pair_gives set p = only_if (set p) (joined_of (alts of) (contents_of_pair u p))

  pub pair_gives_lem : (p n : ℕ) → n ≡ length u.rules → joined_of (rule_gives p) (numbers_below n) ≡ joined_of (alts of) (contents_of_pair u p)
  unfolding contents_of_pair
  pair_gives_lem p n e =
      let own : ℕ → Bool = λ i. eqb (pair_of u (rule_numbered u i)) p in
      ap (λ (m : ℕ). joined_of (rule_gives p) (numbers_below m)) e
      ∙ sym (joined_kept (λ i. alts of (content_of_rule u i)) own (numbers_below (length u.rules)))
      ∙ sym (joined_map (alts of) (content_of_rule u) (keep own (numbers_below (length u.rules))))

  pub set_gives : (set : ℕ → Bool) (n : ℕ) → n ≡ length u.rules
      → joined_of (pair_gives set) (numbers_below n) ≡ joined_of (alts of) (contents_in u set)
  unfolding contents_in
  set_gives set n e =
      ap (λ (m : ℕ). joined_of (pair_gives set) (numbers_below m)) e
      ∙ sym (joined_kept (λ p. joined_of (alts of) (contents_of_pair u p)) set (numbers_below (length u.rules)))
      ∙ sym (joined_twice (alts of) (contents_of_pair u) (keep set (numbers_below (length u.rules))))

-- the content of all
module _ (draft : List ℕ) (xs : List Content) (r : Result Gathering TooLarge) (g : GathersIn draft content_row (gathered [] xs) r) where
  pub made_wide : r ≡ Err (record {}) → (after : List ℕ) → Made after (one_content xs) (Err (record {}))
  unfolding GathersIn Made
  made_wide e after =
      ap (λ (l : List Content). content_too_large large (one_content l)) (sym (append-nil xs))
      ∙ too_large xs [] (subst (λ (x : Result Gathering TooLarge). GathersIn draft content_row (gathered [] xs) x) e g)

  pub made_row : {m count end : ℕ} → r ≡ Ok (record { next = m; count = count; end = end }) → Row draft 2 count (gathered [] xs) end
  unfolding GathersIn
  made_row {m} {count} {end} e =
      let t : Row draft 2 count (gathered [] xs) end × (end ≤ headed_length) = subst (λ (x : Result Gathering TooLarge). GathersIn draft content_row (gathered [] xs) x) e g in
      t.0

  abbrev pub made_kept : {m count end : ℕ} → r ≡ Ok (record { next = m; count = count; end = end }) → Kept draft 2 count end
  made_kept e = record { list = gathered [] xs; row = made_row e }

pub made_so : (draft : List ℕ) (xs : List Content) (r : Result ℕ TooLarge)
    → (Regular (choice_of (gathered [] xs)) → Made draft (choice_of (gathered [] xs)) r)
    → Regular (one_content xs) → Made draft (one_content xs) r
made_so draft xs r f q =
    subst (λ (c : Content). Made draft c r) (sym (written_gathered xs)) (f (subst Regular (written_gathered xs) q))
