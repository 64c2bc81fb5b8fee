-- Gathering step by step:
--   kept_row  operands stand where their bytes are kept; newest_of : and one more expression after them
--   gathers_from, gathers_then : a gathering from a draft that keeps the operands' bytes; one gathering after another
--   nothing_new, nothing_added : alternatives that are all there; no alternatives
--   with_as, with_from, with_none, with_large : answers with what is noted of the operands
--   types_of, types_first : the result types of a source type; of some result types the first and the others
use Prim.Native.Nat.{ℕ, suc, ◌+◌, ◌-◌, ◌≤◌, ◌<◌}
use native.Mathlib.Omega.{arith}
use native.Mathlib.Numerals.{add-one}
use mathlib.Core.List.{List, [], ◌∷◌, ◌++◌, map}
use mathlib.Core.Option.{some as just}
use mathlib.Core.Path.{◌≡◌, refl, sym, ◌∙◌, ap, ap₂, subst}
use lib.ListN.{length, get_or, take, drop, drop_of_length-le}
use lib.Seq.{take-take, take-nil, drop-cons}
use Rattle.std.specs.Prelude.{Err, Ok, Result}
use Rattle.grammar.specs.Content.{Content, type, operands}
use Rattle.grammar.specs.declared.TooLarge.{TooLarge}
use Rattle.theory.specs.Alternatives.{gathered}
use Rattle.theory.proofs.Emission.GatheringLaws.{gather_nothing, gather_more}
use Rattle.reader.specs.ExprAt.{◌up_to◌, expr_at}
use Rattle.reader.proofs.ExprLaws.{exprs_kept}
use Rattle.union.specs.Walks.{list_of_type}
use Rattle.operands.specs.declared.drafts.OperandRow.{OperandRow}
use Rattle.operands.specs.declared.drafts.Gathering.{Gathering}
use Rattle.operands.specs.Drafts.{Row, Kept, Newest, TooWide, OperandsAdded, Gathers, GathersWith}
use Rattle.operands.proofs.WideLaws.{wide_gathered}
use Rattle.operands.proofs.NoteLaws.{no_upto}

pub kept_row : (d d' : List ℕ) (base count end : ℕ) (ds : List Content) → take end d' ≡ take end d → length d' ≡ length d
    → Row d base count ds end → Row d' base count ds end
kept_row d d' base count end ds e l r =
    record {
      stand = exprs_kept d d' base count (operands ds) end (omega arith) (sym e) r.stand;
      apart = r.apart;
      forward = r.forward;
      inside = omega arith;
      few = r.few;
    }

abbrev pub kept_of : (d d' : List ℕ) (base count end : ℕ) → take end d' ≡ take end d → length d' ≡ length d
    → Kept d base count end → Kept d' base count end
kept_of d d' base count end e l k = record { list = k.list; row = kept_row d d' base count end k.list e l k.row }

abbrev pub newest_of : (d d' : List ℕ) (row : OperandRow) (fresh : ℕ) (x : Content) → take row.end d' ≡ take row.end d
    → length d' ≡ length d → Kept d row.base row.count row.end → expr_at d' row.end ≡ just (x up_to fresh) → Newest d' row fresh
newest_of d d' row fresh x e l k s =
    record { kept = kept_of d d' row.base row.count row.end e l k; newest = x; stands = s }

pub gathers_from : (d d' d'' : List ℕ) (base old limit next : ℕ) (ds : List Content) (r : Result Gathering TooLarge) → take old d' ≡ take old d
    → Gathers d' d'' base old limit next ds r → Gathers d d'' base old limit next ds r
unfolding Gathers
gathers_from d d' d'' base old limit next ds (Err over) e g = g
gathers_from d d' d'' base old limit next ds (Ok got) e g = (
  g.0,
  record { row = g.1.row; fits = g.1.fits; grows = g.1.grows; keeps = g.1.keeps ∙ e },
)

-- bytes that are kept up to a place are kept up to any place before
pub keeps_before : (d d' : List ℕ) (m n : ℕ) → m ≤ n → take n d' ≡ take n d → take m d' ≡ take m d
keeps_before d d' m n h e = sym (take-take m n d' h) ∙ ap (take m) e ∙ take-take m n d h

pub gathers_then : (d d' d'' : List ℕ) (base old middle limit next : ℕ) (ds : List Content) (r : Result Gathering TooLarge) → old ≤ middle
    → take old d' ≡ take old d → Gathers d' d'' base middle limit next ds r → Gathers d d'' base old limit next ds r
unfolding Gathers
gathers_then d d' d'' base old middle limit next ds (Err over) h e g = g
gathers_then d d' d'' base old middle limit next ds (Ok got) h e g =
    let more = g.1.grows in (
      g.0,
      record {
        row = g.1.row;
        fits = g.1.fits;
        grows = omega arith;
        keeps = keeps_before d' d'' old middle h g.1.keeps ∙ e;
      },
    )

pub nothing_new : (d : List ℕ) (base count end limit n next : ℕ) (k : Kept d base count end) (xs : List Content) → n ≡ next
    → end ≤ limit → gathered k.list xs ≡ k.list → Gathers d d base end limit next (gathered k.list xs) (Ok (record { next = n; count = count; end = end }))
unfolding Gathers
nothing_new d base count end limit n next k xs same_next h same = (
  same_next,
  record {
    row = subst (λ (l : List Content). Row d base count l end) (sym same) k.row;
    fits = h;
    grows = omega arith;
    keeps = refl;
  },
)

pub nothing_added : (d : List ℕ) (base count end limit n next : ℕ) (k : Kept d base count end) (xs : List Content) → n ≡ next
    → end ≤ limit → xs ≡ [] → Gathers d d base end limit next (gathered k.list xs) (Ok (record { next = n; count = count; end = end }))
nothing_added d base count end limit n next k xs same_next h e =
    nothing_new d base count end limit n next k xs same_next h
    (ap (gathered k.list) e ∙ gather_nothing k.list k.row.apart)

-- result types from a place up to another
abbrev pub types_from : List ℕ → ℕ → ℕ → List Content
types_from results i stop = map type (take (stop - i) (drop i results))

pub types_of : (from results : List ℕ) (k i stop : ℕ) → i ≡ get_or from k 0 → stop ≡ get_or from (k + 1) 0
    → types_from results i stop ≡ map type (list_of_type from results k)
unfolding list_of_type
types_of from results k i stop e f = ap₂ (types_from results) e f

pub types_none : (results : List ℕ) (i stop : ℕ) → stop ≤ i → types_from results i stop ≡ []
types_none results i stop h =
    let z : stop - i ≡ 0 = omega arith in
    ap (λ (n : ℕ). map type (take n (drop i results))) z

pub types_past : (results : List ℕ) (i stop : ℕ) → length results ≤ i → types_from results i stop ≡ []
types_past results i stop h =
    ap (λ (l : List ℕ). map type (take (stop - i) l)) (drop_of_length-le results h) ∙ ap (map type) (take-nil (stop - i))

pub types_first : (results : List ℕ) (i stop : ℕ) → i < stop → i < length results
    → types_from results i stop ≡ (type (get_or results i 0) ∷ []) ++ types_from results (i + 1) stop
types_first results i stop h k =
    let z : stop - i ≡ suc (stop - (i + 1)) = omega arith in
    ap (λ (n : ℕ). map type (take n (drop i results))) z
    ∙ ap (λ (l : List ℕ). map type (take (suc (stop - (i + 1))) l)) (drop-cons results i 0 k)
    ∙ ap (λ (n : ℕ). type (get_or results i 0) ∷ map type (take (stop - (i + 1)) (drop n results))) (sym (add-one i))

-- one step of a gathering: the first of the alternatives do not fit, so all do not; or the others after them
pub first_wide : (room : ℕ) (ds xs ys zs : List Content) → zs ≡ xs ++ ys → TooWide room (gathered ds xs) → TooWide room (gathered ds zs)
first_wide room ds xs ys zs e h =
    subst (λ (l : List Content). TooWide room (gathered ds l)) (sym e) (wide_gathered room ds xs ys h)

pub then_others : (d d' d'' : List ℕ) (base old middle limit next : ℕ) (ds xs ys zs : List Content) (r : Result Gathering TooLarge) → zs ≡ xs ++ ys
    → old ≤ middle → take old d' ≡ take old d
    → Gathers d' d'' base middle limit next (gathered (gathered ds xs) ys) r
    → Gathers d d'' base old limit next (gathered ds zs) r
then_others d d' d'' base old middle limit next ds xs ys zs r e h k g =
    gathers_then d d' d'' base old middle limit next (gathered ds zs) r h k
    (subst (λ (l : List Content). Gathers d' d'' base middle limit next l r)
    (gather_more ds xs ys ∙ ap (gathered ds) (sym e))
    g)

-- what an answer says, once it is known which it is
pub told_large : (d d' : List ℕ) (base old limit next : ℕ) (ds : List Content) (r : Result Gathering TooLarge) → r ≡ Err (record {})
    → Gathers d d' base old limit next ds r → TooWide (limit - base) ds
unfolding Gathers
told_large d d' base old limit next ds r e g = subst (λ (x : Result Gathering TooLarge). Gathers d d' base old limit next ds x) e g

pub told_upto : (d d' : List ℕ) (base old limit next : ℕ) (ds : List Content) (r : Result Gathering TooLarge) (n count end : ℕ) → r ≡ Ok (record { next = n; count = count; end = end })
    → Gathers d d' base old limit next ds r → (n ≡ next) × OperandsAdded d d' base old ds limit count end
unfolding Gathers
told_upto d d' base old limit next ds r n count end e g =
    subst (λ (x : Result Gathering TooLarge). Gathers d d' base old limit next ds x) e g

pub gathers_as : (d d' : List ℕ) (base old limit n next : ℕ) (ds xs ys : List Content) (r : Result Gathering TooLarge) → n ≡ next → xs ≡ ys
    → Gathers d d' base old limit n (gathered ds xs) r → Gathers d d' base old limit next (gathered ds ys) r
gathers_as d d' base old limit n next ds xs ys r e f g =
    subst (λ (m : ℕ). Gathers d d' base old limit m (gathered ds ys) r) e
    (subst (λ (l : List Content). Gathers d d' base old limit n (gathered ds l) r) f g)

pub large_told : (d d' : List ℕ) (base old limit next : ℕ) (ds : List Content) → TooWide (limit - base) ds
    → Gathers d d' base old limit next ds (Err (record {}))
unfolding Gathers
large_told d d' base old limit next ds h = h

-- the same answers with what is noted of the operands
module _ {Holds : List Content → Type 0} where
  pub with_as : {d d' : List ℕ} {row : OperandRow} {n next : ℕ} {r : Result Gathering TooLarge} (ds xs ys : List Content) → n ≡ next → xs ≡ ys
      → GathersWith Holds d d' row n (gathered ds xs) r → GathersWith Holds d d' row next (gathered ds ys) r
  with_as {d} {d'} {row} {n} {next} {r} ds xs ys e f g =
      record {
        gathers = gathers_as d d' row.base row.end row.limit n next ds xs ys r e f g.gathers;
        noted = λ u. subst (λ (l : List Content). Holds (gathered ds l)) f (g.noted u);
      }

  pub with_from : {d d' d'' : List ℕ} {row : OperandRow} {next : ℕ} {r : Result Gathering TooLarge} (ds : List Content) → take row.end d' ≡ take row.end d
      → GathersWith Holds d' d'' row next ds r → GathersWith Holds d d'' row next ds r
  with_from {d} {d'} {d''} {row} {next} {r} ds e g =
      record { gathers = gathers_from d d' d'' row.base row.end row.limit next ds r e g.gathers; noted = g.noted }

  pub with_none : {d : List ℕ} {row : OperandRow} {n next : ℕ} (k : Kept d row.base row.count row.end) (xs : List Content) → n ≡ next
      → row.end ≤ row.limit → xs ≡ [] → Holds k.list → GathersWith Holds d d row next (gathered k.list xs) (Ok (record { next = n; count = row.count; end = row.end }))
  with_none {d} {row} {n} {next} k xs e h none y =
      record {
        gathers = nothing_added d row.base row.count row.end row.limit n next k xs e h none;
        noted = λ u. subst Holds (sym (ap (gathered k.list) none ∙ gather_nothing k.list k.row.apart)) y;
      }

  pub with_large : {d d' : List ℕ} {row : OperandRow} {next : ℕ} (ds : List Content) → TooWide (row.limit - row.base) ds
      → GathersWith Holds d d' row next ds (Err (record {}))
  with_large {d} {d'} {row} {next} ds h =
      record { gathers = large_told d d' row.base row.end row.limit next ds h; noted = λ u. no_upto u }
