-- The set of the result types among the operands kept, along a gathering:
--   registered_none, registered_zeros, registered_part, noted_part   the register of no operands; its notes lent, and as they come back
--   types_put                    one more, once it is gathered
--   types_same, types_plain      alternatives that are no types do not change it; so with a content that is neither a type nor a choice
--   TypesSoFar, types_start, types_next, types_wide, types_all   the result types of a part gathered one by one
use Prim.Native.Nat.{ℕ, ◌+◌, ◌-◌, ◌≤◌, ◌<◌}
use native.Mathlib.Omega.{arith}
use mathlib.Core.Bool.{Bool, true, false, ◌||◌, or_comm}
use mathlib.Core.List.{List, [], ◌∷◌, ◌++◌, map, append_assoc, append-nil}
use mathlib.Core.Option.{some as just}
use mathlib.Core.Path.{◌≡◌, refl, sym, ◌∙◌, ap, ap₂, subst}
use lib.Dec.{eqb}
use lib.ListN.{length, get_or, take, drop, replicate, length-append, length-drop, length-replicate}
use lib.Seq.{length-take-le, take_at, drop_at, get_or-take, get_or-drop}
use borrow.Author.Tests.{eqb-true, eq-eqb}
use Rattle.std.specs.Prelude.{Err, Ok, Result}
use Rattle.grammar.specs.Limits.{content_limit}
use Rattle.grammar.specs.Lists.{any_pass}
use Rattle.grammar.specs.Content.{
  Content,
  none,
  empty,
  type,
  sequence,
  choice,
  any_number,
  one_or_more,
  optional,
  operands,
}
use Rattle.grammar.specs.ReadContent.{content_bytes, same_content}
use Rattle.grammar.specs.ReadTable.{is_empty}
use Rattle.grammar.specs.declared.TooLarge.{TooLarge}
use Rattle.theory.specs.Alternatives.{alts, alts_of_each, one_content, around, in_sequence, gathered}
use Rattle.theory.proofs.Lists.BoolLaws.{same_test}
use Rattle.theory.proofs.Contents.ContentBytes.{same_content_lem}
use Rattle.theory.proofs.Lists.ListLaws.{any_append, decided_sym, decided_trans}
use Rattle.theory.proofs.Lists.DistinctLaws.{among_distinct}
use Rattle.theory.proofs.Emission.GatheringLaws.{gather_nothing, gather_more}
use Rattle.sets.specs.Sets.{member, put_at, words_at}
use Rattle.sets.proofs.SetLaws.{length_put, member_put, member-words, member_zeros}
use Rattle.reader.specs.ExprAt.{◌up_to◌, expr_at}
use Rattle.reader.proofs.ExprLaws.{expr_bytes, expr_forward}
use Rattle.operands.specs.declared.drafts.OperandRow.{OperandRow}
use Rattle.operands.specs.declared.drafts.Gathering.{Gathering}
use Rattle.operands.specs.Drafts.{headed_length, reaching, Row, OperandsAdded, Gathers, GathersWith}
use Rattle.operands.specs.Notes.{Noted, type_words, TypesKept, Registered, row_words}
use Rattle.emitting.specs.Emitting.{RoomForMore}
use Rattle.operands.proofs.NoteLaws.{noted_none, lent_from, with_lent, lent_is, lent_after, lent_before, lent_long}
use Rattle.operands.proofs.GatherLaws.{gathers_then, told_large, told_upto, first_wide, with_as, with_large, types_from, types_first}

-- an equal one is among what is gathered just where it was there or was given
among_gathered : (x : Content) (ds xs : List Content)
    → any_pass (same_content x) (gathered ds xs) ≡ (any_pass (same_content x) ds || any_pass (same_content x) xs)
unfolding gathered
among_gathered x ds xs =
    among_distinct same_content (decided_sym same_content same_content_lem) (decided_trans same_content same_content_lem)
    (λ y. (same_content_lem y y).1 refl)
    x
    (ds ++ xs)
    ∙ any_append (same_content x) ds xs

same_type : (t k : ℕ) → same_content (type t) (type k) ≡ eqb t k
same_type t k =
    same_test (same_content (type t) (type k)) (eqb t k) (
      λ e. eq-eqb t k (cc ((same_content_lem (type t) (type k)).0 e)),
      λ e. (same_content_lem (type t) (type k)).1 (ap type (eqb-true t k e)),
    )

or_no : (a b : Bool) → b ≡ false → (a || b) ≡ a
or_no true b e = refl
or_no false b e = e

-- no types among these
abbrev Plain : List Content → Type 0
Plain xs = (t : ℕ) → any_pass (same_content (type t)) xs ≡ false

-- a number that stands in the first words is in the set just where it is in theirs
member_front : (words : List ℕ) (t : ℕ) → t < 256 → member (take type_words words) 0 t ≡ member words 0 t
unfolding words_at
member_front words t h = member-words words 0 type_words t (omega arith)

types_front : {words after : List ℕ} {ds : List Content} → take type_words after ≡ take type_words words → type_words ≤ length after
    → TypesKept words ds → TypesKept after ds
types_front {words} {after} e h s =
    record {
      room = h;
      there =
          λ t m.
          sym (member_front after t m)
          ∙ ap (λ (l : List ℕ). member l 0 t) e
          ∙ member_front words t m
          ∙ s.there t m;
    }

no_types : (words : List ℕ) → take type_words words ≡ replicate type_words 0 → type_words ≤ length words → TypesKept words []
unfolding any_pass
no_types words e h =
    record {
      room = h;
      there =
          λ t m.
          sym (member_front words t m)
          ∙ ap (λ (l : List ℕ). member l 0 t) e
          ∙ ap (λ p. p t) (member_zeros type_words 0);
    }

-- the register of no operands, and after its notes were lent
pub registered_none : (front register : List ℕ) → row_words ≤ length register → front ≡ replicate (length (take type_words register)) 0
    → Registered (front ++ drop type_words register) []
registered_none front register h z =
    let e : front ≡ replicate type_words 0 =
    z ∙ ap (λ (n : ℕ). replicate n 0) (length-take-le type_words register (omega arith)) in
    let l : length front ≡ type_words = ap length e ∙ length-replicate {A = ℕ} type_words 0 in
    let a = length-append front (drop type_words register) in
    let d = length-drop type_words register in
    record {
      types = no_types (front ++ drop type_words register) (take_at front (drop type_words register) type_words l ∙ e) (omega arith);
      noted =
          subst (λ (w : List ℕ). Noted w []) (sym (drop_at front (drop type_words register) type_words l))
          (noted_none (drop type_words register) (omega arith));
    }

pub registered_zeros : (n : ℕ) → row_words ≤ n → Registered (replicate n 0) []
unfolding any_pass
registered_zeros n h =
    let zeros : List ℕ = replicate n 0 in
    let l = length-replicate {A = ℕ} n 0 in
    let d = length-drop type_words zeros in
    record {
      types = record { room = omega arith; there = λ t m. ap (λ p. p t) (member_zeros n 0) };
      noted = noted_none (drop type_words zeros) (omega arith);
    }

pub registered_part : {register part : List ℕ} {ds : List Content} → TypesKept register ds → length part ≡ length (lent_from type_words register)
    → Noted part ds → Registered (with_lent type_words register part) ds
registered_part {register} {part} {ds} types e noted =
    let h = types.room in
    let l = lent_long type_words register h part e in
    record {
      types = types_front (lent_before type_words register h part e) (omega arith) types;
      noted = subst (λ (w : List ℕ). Noted w ds) (sym (lent_after type_words register h part e)) noted;
    }

-- the notes that are lent
pub noted_part : {register : List ℕ} {ds : List Content} → Registered register ds → Noted (lent_from type_words register) ds
noted_part {register} {ds} s = subst (λ (w : List ℕ). Noted w ds) (sym (lent_is type_words register s.types.room)) s.noted

module _ {words : List ℕ} {ds : List Content} (s : TypesKept words ds) where
  pub types_same : (xs : List Content) → Plain xs → TypesKept words (gathered ds xs)
  types_same xs plain =
      record {
        room = s.room;
        there =
            λ t h.
            s.there t h
            ∙ sym (or_no (any_pass (same_content (type t)) ds) (any_pass (same_content (type t)) xs) (plain t))
            ∙ sym (among_gathered (type t) ds xs);
      }

  pub types_put : (k : ℕ) → k < 256 → {after : List ℕ} → after ≡ put_at words 0 k → TypesKept after (gathered ds (type k ∷ []))
  unfolding any_pass
  types_put k h {after} put =
      let l = ap length put ∙ length_put words 0 k in
      let w = s.room in
      record {
        room = omega arith;
        there =
            λ t m.
            ap (λ (l : List ℕ). member l 0 t) put
            ∙ ap (λ p. p t) (member_put words 0 k (omega arith))
            ∙ ap₂ (λ (a b : Bool). a || b) (sym (or_no (same_content (type t) (type k)) false refl ∙ same_type t k)) (s.there t m)
            ∙ or_comm (same_content (type t) (type k) || false) (any_pass (same_content (type t)) ds)
            ∙ sym (among_gathered (type t) ds (type k ∷ []));
      }

-- what a content gives that is neither a type nor a choice
module _ (results : ℕ → List ℕ) where
  plain_around : (f : Content → Content) (others xs : List Content) → ((t : ℕ) (c : Content) → same_content (type t) (f c) ≡ false)
      → Plain others → Plain (around f others xs)
  unfolding around any_pass
  plain_around f others [] apart p t = p t
  plain_around f others (x ∷ xs) apart p t = or_no (same_content (type t) (f (one_content (x ∷ xs)))) false refl ∙ apart t (one_content (x ∷ xs))

  plain_sequence : (xss : List (List Content)) → Plain (in_sequence xss)
  unfolding in_sequence any_pass same_content
  plain_sequence xss t = go (any_pass is_empty xss)
    where
      go : (b : Bool)
          → any_pass (same_content (type t)) (elim b as (λ x. List Content) [ true ↦ [] | false ↦ sequence (operands (map one_content xss)) ∷ [] ]) ≡ false
      go true = refl
      go false = refl

  plain_alts : (c : Content) → (get_or (content_bytes c) 0 0 ≡ 2 → ⊥) → (get_or (content_bytes c) 0 0 ≡ 4 → ⊥) → Plain (alts results c)
  unfolding alts any_pass same_content
  plain_alts none h k t = refl
  plain_alts empty h k t = refl
  plain_alts (type n) h k t = absurd (h refl)
  plain_alts (sequence cs) h k t = plain_sequence (alts_of_each results cs) t
  plain_alts (choice cs) h k t = absurd (k refl)
  plain_alts (any_number c) h k t = plain_around any_number (empty ∷ []) (alts results c) (λ u d. refl) (λ u. refl) t
  plain_alts (one_or_more c) h k t = plain_around one_or_more [] (alts results c) (λ u d. refl) (λ u. refl) t
  plain_alts (optional c) h k t = plain_around optional (empty ∷ []) (alts results c) (λ u d. refl) (λ u. refl) t

  first_byte : (s : List ℕ) (at next : ℕ) (c : Content) → expr_at s at ≡ just (c up_to next) → get_or (content_bytes c) 0 0 ≡ get_or s at 0
  first_byte s at next c e =
      let f = expr_forward s at c next e in
      let z : at + 0 ≡ at = omega arith in
      ap (λ (l : List ℕ). get_or l 0 0) (sym (expr_bytes s at c next e))
      ∙ get_or-take (next - at) (drop at s) 0 0 (omega arith)
      ∙ get_or-drop at s 0 0
      ∙ ap (λ (i : ℕ). get_or s i 0) z

  pub types_plain : (s : List ℕ) (at next : ℕ) (c : Content) → expr_at s at ≡ just (c up_to next) → (get_or s at 0 ≡ 2 → ⊥) → (get_or s at 0 ≡ 4 → ⊥)
      → {words : List ℕ} {ds : List Content} → TypesKept words ds → TypesKept words (gathered ds (alts results c))
  types_plain s at next c e h k {words} {ds} y =
      let b = first_byte s at next c e in
      types_same y (alts results c) (plain_alts c (λ z. h (sym b ∙ z)) (λ z. k (sym b ∙ z)))

-- The result types of a part, gathered one by one.
module _ (results : List ℕ) (first stop : ℕ) (row : OperandRow) (ds : List Content) (d₀ : List ℕ) where
  pub record TypesSoFar (d register : List ℕ) (total last i : ℕ) : Type 0 where
    pub list : List Content
    pub rest : list ++ types_from results i stop ≡ types_from results first stop
    pub added : OperandsAdded d₀ d row.base row.end (gathered ds list) row.limit total last
    pub registered : Registered register (gathered ds list)

  module _ {d register : List ℕ} {total last i : ℕ} (s : TypesSoFar d register total last i) where
    abbrev pub room_for : row.limit ≤ row.base + content_limit → row.limit + headed_length ≤ length d
        → RoomForMore d (reaching row total last)
    room_for small room =
        record {
          kept = record { list = gathered ds s.list; row = s.added.row };
          fits = s.added.fits;
          small = small;
          room = room;
        }

    pub types_all : (next : ℕ) → types_from results i stop ≡ []
        → GathersWith (Registered register) d₀ d row next (gathered ds (types_from results first stop)) (Ok (record { next = next; count = total; end = last }))
    unfolding Gathers
    types_all next e =
        let whole : s.list ≡ types_from results first stop =
        sym (append-nil s.list) ∙ ap (λ (l : List Content). s.list ++ l) (sym e) ∙ s.rest in
        with_as ds s.list (types_from results first stop) refl whole
        (record { gathers = (refl, s.added); noted = λ u. s.registered })

    module _ (h : i < stop) (k : i < length results) (next : ℕ) (d' register' : List ℕ) (r : Result Gathering TooLarge)
        (g : GathersWith (Registered register') d d' (reaching row total last) next (gathered (gathered ds s.list) (type (get_or results i 0) ∷ [])) r) where
      abbrev one : List Content
      one = type (get_or results i 0) ∷ []

      abbrev more : List Content
      more = s.list ++ one

      more_rest : more ++ types_from results (i + 1) stop ≡ types_from results first stop
      more_rest =
          append_assoc s.list one (types_from results (i + 1) stop)
          ∙ ap (λ (l : List Content). s.list ++ l) (sym (types_first results i stop h k))
          ∙ s.rest

      more_gathers : Gathers d₀ d' row.base row.end row.limit next (gathered ds more) r
      more_gathers =
          gathers_then d₀ d d' row.base row.end last row.limit next (gathered ds more) r s.added.grows s.added.keeps
          (subst (λ (l : List Content). Gathers d d' row.base last row.limit next l r) (gather_more ds s.list one) g.gathers)

      pub types_wide : r ≡ Err (record {})
          → GathersWith (Registered register') d₀ d' row next (gathered ds (types_from results first stop)) (Err (record {}))
      types_wide e =
          with_large (gathered ds (types_from results first stop))
          (first_wide (row.limit - row.base) ds more (types_from results (i + 1) stop) (types_from results first stop) (sym more_rest)
          (told_large d₀ d' row.base row.end row.limit next (gathered ds more) r e more_gathers))

      pub types_next : {n more' fresh : ℕ} → r ≡ Ok (record { next = n; count = more'; end = fresh }) → TypesSoFar d' register' more' fresh (i + 1)
      types_next {n} {more'} {fresh} e =
          record {
            list = more;
            rest = more_rest;
            added = (told_upto d₀ d' row.base row.end row.limit next (gathered ds more) r n more' fresh e more_gathers).1;
            registered = subst (Registered register') (gather_more ds s.list one) (g.noted e);
          }

pub types_start : (results : List ℕ) (first stop : ℕ) {d register : List ℕ} {row : OperandRow} (q : RoomForMore d row)
    → Registered register q.kept.list
    → TypesSoFar results first stop row q.kept.list d d register row.count row.end first
types_start results first stop {d} {register} {row} q s =
    let same = sym (gather_nothing q.kept.list q.kept.row.apart) in
    record {
      list = [];
      rest = refl;
      added =
          record {
            row = subst (λ (l : List Content). Row d row.base row.count l row.end) same q.kept.row;
            fits = q.fits;
            grows = omega arith;
            keeps = refl;
          };
      registered = subst (Registered register) same s;
    }
