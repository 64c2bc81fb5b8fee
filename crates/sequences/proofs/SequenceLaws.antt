-- The child sequences of the nodes of a type, gathered node by node.
--   among_other, among_own, among_next : the sequences among one node of another type, among one of the type, with one node more
--   among_skip : a node of another type; newest_is : a sequence written after the operands
--   gather_stop, gather_next, gather_all : step by step
use Prim.Native.Nat.{ℕ, ◌+◌, ◌≤◌, ◌<◌}
use native.Mathlib.Omega.{arith}
use mathlib.Core.List.{List, [], ◌∷◌, ◌++◌, map, append_assoc, map-append}
use mathlib.Core.Option.{some as just}
use mathlib.Core.Path.{◌≡◌, sym, ◌∙◌, ap, subst}
use lib.Dec.{eqb}
use borrow.Author.Tests.{eq-eqb, ne_eqb}
use lib.ListN.{length, get_or, drop}
use Rattle.std.specs.Prelude.{Err, Ok, Result}
use Rattle.grammar.specs.Limits.{content_limit, operand_limit}
use Rattle.grammar.specs.Lists.{keep, distinct, numbers_below}
use Rattle.grammar.specs.Content.{Content, operands}
use Rattle.grammar.specs.ReadContent.{content_bytes}
use Rattle.grammar.specs.declared.TooLarge.{TooLarge}
use Rattle.theory.specs.Alternatives.{gathered}
use Rattle.theory.proofs.Lists.ListLaws.{keep_yes, keep_no, numbers_end, numbers_split}
use Rattle.theory.proofs.Lists.DistinctLaws.{keep_append}
use Rattle.theory.proofs.Emission.GatheringLaws.{gathered_so, gather_nothing, gather_more}
use Rattle.reader.specs.ExprAt.{◌up_to◌}
use Rattle.reader.proofs.ExprLaws.{expr_of, exprs_none, exprs_kept}
use Rattle.operands.specs.declared.drafts.Gathering.{Gathering}
use Rattle.operands.specs.Drafts.{Row, Kept, Newest, TooWide, GathersWith, GathersIn}
use Rattle.operands.specs.Notes.{Noted}
use Rattle.writer.specs.Writing.{Put}
use Rattle.operands.proofs.NoteLaws.{noted_none}
use Rattle.operands.proofs.WideLaws.{wide_gathered}
use Rattle.operands.proofs.GatherLaws.{told_large, told_upto}
use Rattle.writer.proofs.PutLaws.{put_length, put_kept, put_there}
use Rattle.sequences.specs.SampleContents.{operands_end, sequence_in, sequences_among, sequence_row, no_sequences}

module _ (parents types : List ℕ) (n k : ℕ) where
  abbrev among : List ℕ → List Content
  among = sequences_among parents types n k

  among_join : (xs ys : List ℕ) → among (xs ++ ys) ≡ among xs ++ among ys
  among_join xs ys =
      ap (map (sequence_in parents types n)) (keep_append (λ (j : ℕ). eqb (get_or types j 0) k) xs ys)
      ∙ map-append (sequence_in parents types n) (keep (λ (j : ℕ). eqb (get_or types j 0) k) xs) (keep (λ (j : ℕ). eqb (get_or types j 0) k) ys)

  pub among_other : (i : ℕ) → (get_or types i 0 ≡ k → ⊥) → among (i ∷ []) ≡ []
  unfolding keep
  among_other i h =
      ap (map (sequence_in parents types n)) (keep_no (λ (j : ℕ). eqb (get_or types j 0) k) i [] (ne_eqb (get_or types i 0) k h))

  pub among_own : (i : ℕ) → get_or types i 0 ≡ k → among (i ∷ []) ≡ sequence_in parents types n i ∷ []
  unfolding keep
  among_own i h =
      ap (map (sequence_in parents types n)) (keep_yes (λ (j : ℕ). eqb (get_or types j 0) k) i [] (eq-eqb (get_or types i 0) k h))

  pub among_next : (i : ℕ) → gathered (gathered [] (among (numbers_below i))) (among (i ∷ [])) ≡ gathered [] (among (numbers_below (i + 1)))
  among_next i =
      gather_more [] (among (numbers_below i)) (among (i ∷ []))
      ∙ ap (gathered []) (sym (among_join (numbers_below i) (i ∷ [])) ∙ ap among (sym (numbers_end i)))

  -- what is too wide already stays so
  pub among_wide : (i m : ℕ) → i < m → TooWide content_limit (gathered [] (among (numbers_below (i + 1)))) → TooWide content_limit (gathered [] (among (numbers_below m)))
  among_wide i m h w =
      let (later, e) = numbers_split m i h in
      subst (λ (l : List Content). TooWide content_limit (gathered [] l))
      (sym
      (ap among (e ∙ sym (append_assoc (numbers_below i) (i ∷ []) later) ∙ ap (λ (l : List ℕ). l ++ later) (sym (numbers_end i)))
      ∙ among_join (numbers_below (i + 1)) later))
      (wide_gathered content_limit [] (among (numbers_below (i + 1))) (among later) w)

  pub among_start : (d : List ℕ) → 4 ≤ length d → Row d 4 0 (gathered [] (among (numbers_below 0))) 4
  unfolding operands gathered distinct keep numbers_below
  among_start d h = record { stand = exprs_none d 4; apart = gathered_so [] []; forward = omega arith; inside = h; few = omega arith }

  -- a node of another type gives nothing, one of the type its sequence
  pub among_skip : (i : ℕ) → (get_or types i 0 ≡ k → ⊥) → gathered [] (among (numbers_below i)) ≡ gathered [] (among (numbers_below (i + 1)))
  among_skip i e =
      let ds = gathered [] (among (numbers_below i)) in
      sym (ap (gathered ds) (among_other i e) ∙ gather_nothing ds (gathered_so [] (among (numbers_below i)))) ∙ among_next i

  among_more : (i : ℕ) → get_or types i 0 ≡ k
      → gathered (gathered [] (among (numbers_below i))) (sequence_in parents types n i ∷ []) ≡ gathered [] (among (numbers_below (i + 1)))
  among_more i e = ap (gathered (gathered [] (among (numbers_below i)))) (sym (among_own i e)) ∙ among_next i

  -- a node of the type: its sequence stands after the operands
  module _ (i : ℕ) {before after : List ℕ} {end fresh : ℕ} (p : Put before end (content_bytes (sequence_in parents types n i)) after fresh) where
    abbrev pub newest_is : {count : ℕ} (q : Kept before 4 count end) → Newest after (sequence_row count end) fresh
    newest_is {count} q =
        let r = q.row in
        let l = put_length p in
        record {
          kept =
              record {
                list = q.list;
                row =
                    record {
                      stand = exprs_kept before after 4 count (operands q.list) end (omega arith) (sym (put_kept p)) r.stand;
                      apart = r.apart;
                      forward = r.forward;
                      inside = omega arith;
                      few = r.few;
                    };
              };
          newest = sequence_in parents types n i;
          stands =
              expr_of after end (sequence_in parents types n i) (drop fresh after) (put_there p)
              ∙ ap (λ (m : ℕ). just (sequence_in parents types n i up_to m)) (sym p.next_is);
        }

  -- after one node of the type
  module _ (before after notes : List ℕ) (count end i : ℕ) (own : get_or types i 0 ≡ k) (r : Result Gathering TooLarge)
      (g : GathersWith (Noted notes) before after (sequence_row count end) 0
      (gathered (gathered [] (among (numbers_below i))) (sequence_in parents types n i ∷ [])) r) where
    so_far : GathersWith (Noted notes) before after (sequence_row count end) 0 (gathered [] (among (numbers_below (i + 1)))) r
    so_far = subst (λ (l : List Content). GathersWith (Noted notes) before after (sequence_row count end) 0 l r) (among_more i own) g

    pub gather_stop : r ≡ Err (record {}) → i < n → GathersIn after no_sequences (gathered [] (among (numbers_below n))) (Err (record {}))
    unfolding GathersIn
    gather_stop e h =
        among_wide i n h
        (told_large before after 4 end operands_end 0 (gathered [] (among (numbers_below (i + 1)))) r e so_far.gathers)

    pub gather_next : {m c stop : ℕ} → r ≡ Ok (record { next = m; count = c; end = stop })
        → Row after 4 c (gathered [] (among (numbers_below (i + 1)))) stop
        × (stop ≤ operands_end)
        × Noted notes (gathered [] (among (numbers_below (i + 1))))
    gather_next {m} {c} {stop} e =
        let t = (told_upto before after 4 end operands_end 0 (gathered [] (among (numbers_below (i + 1)))) r m c stop e so_far.gathers).1 in
        (t.row, t.fits, so_far.noted e)

  pub gather_all : {d : List ℕ} {c stop i : ℕ} (m : ℕ) → Row d 4 c (gathered [] (among (numbers_below i))) stop → stop ≤ operands_end → i ≡ n
      → GathersIn d no_sequences (gathered [] (among (numbers_below n))) (Ok (record { next = m; count = c; end = stop }))
  unfolding GathersIn
  gather_all {d} {c} {stop} m row fits e =
      (subst (λ (j : ℕ). Row d 4 c (gathered [] (among (numbers_below j))) stop) e row, fits)

  pub among_noted : (notes : List ℕ) → operand_limit ≤ length notes → Noted notes (gathered [] (among (numbers_below 0)))
  unfolding gathered distinct keep numbers_below
  among_noted notes h = noted_none notes h

-- what a gathering's answer says
module _ (d : List ℕ) (ds : List Content) (r : Result Gathering TooLarge) (g : GathersIn d no_sequences ds r) where
  pub upto_row : {m c e : ℕ} → r ≡ Ok (record { next = m; count = c; end = e }) → Row d 4 c ds e × (e ≤ operands_end)
  unfolding GathersIn
  upto_row e = subst (λ (x : Result Gathering TooLarge). GathersIn d no_sequences ds x) e g

  pub stop_wide : r ≡ Err (record {}) → TooWide content_limit ds
  unfolding GathersIn
  stop_wide e = subst (λ (x : Result Gathering TooLarge). GathersIn d no_sequences ds x) e g
