-- `gather_result` meets its contract: the two bytes after the operands are the result type, and the set tells whether it is there.
use Prim.Native.Nat.{ℕ, ◌+◌, ◌-◌, ◌*◌, ◌/◌, ◌<◌}
use native.Mathlib.Omega.{arith}
use mathlib.Core.Bool.{Bool}
use mathlib.Core.List.{List, [], ◌∷◌}
use mathlib.Core.Option.{some as just}
use mathlib.Core.Path.{◌≡◌, refl, sym, ◌∙◌, ap, subst}
use lib.ListN.{length, get_elem?, take, drop, set}
use lib.Seq.{drop-set-lt}
use Rattle.grammar.specs.Lists.{any_pass}
use Rattle.grammar.specs.Content.{Content, type}
use Rattle.grammar.specs.ReadContent.{content_bytes, operators, same_content}
use Rattle.theory.specs.Alternatives.{gathered}
use Rattle.theory.proofs.Emission.GatheringLaws.{gather_old}
use Rattle.sets.specs.Sets.{member, put_at}
use Rattle.sets.proofs.SetLaws.{length_put}
use Rattle.reader.specs.ExprAt.{◌up_to◌, expr_at}
use Rattle.reader.proofs.ExprLaws.{operator_type, expr_bytes, expr_numbered}
use Rattle.operands.specs.declared.drafts.OperandRow.{OperandRow}
use Rattle.operands.specs.Drafts.{Kept, Newest}
use Rattle.operands.specs.Notes.{folded, fingerprint, Noted, type_words, TypesKept, Registered}
use Rattle.operands.proofs.FinishLaws.{headed_first, headed_second, headed_length_lem, headed_before}
use Rattle.operands.proofs.GatherLaws.{newest_of, gathers_from, nothing_new}
use Rattle.emitting.proofs.TypesKeptLaws.{types_put, registered_part}
use Rattle.operands.proofs.NoteLaws.{lent_from, lent_is}
use Rattle.emitting.proofs.emitter.gather_result.Goals as goal

type-fingerprint : (v : ℕ) → v < 256 → 2 * 31 + v ≡ fingerprint (content_bytes (type v))
unfolding fingerprint folded content_bytes
type-fingerprint v h = omega arith

-- the result type after the operands
module _ (d : List ℕ) (v : ℕ) (row : OperandRow) (h : row.end + 1 < length d) where
  abbrev d' : List ℕ
  d' = set (set d row.end 2) (row.end + 1) v

  type-stands : expr_at d' row.end ≡ just (type v up_to (row.end + 2))
  type-stands =
      let l = headed_length_lem d row.end 2 v h in
      expr_numbered d' row.end (omega arith) type (ap (get_elem? operators) (headed_first d row.end 2 v h) ∙ operator_type)
      ∙ ap (λ (k : ℕ). just (type k up_to (row.end + 2))) (headed_second d row.end 2 v h)

  abbrev newest : Kept d row.base row.count row.end → Newest d' row (row.end + 2)
  newest k =
      newest_of d d' row (row.end + 2) (type v) (headed_before d row.end 2 v h) (headed_length_lem d row.end 2 v h) k type-stands

  type-print : (print : ℕ) → print ≡ v → v < 256 → 2 * 31 + print ≡ fingerprint (take (row.end + 2 - row.end) (drop row.end d'))
  type-print print e small =
      ap (λ (k : ℕ). 2 * 31 + k) e
      ∙ type-fingerprint v small
      ∙ ap fingerprint (sym (expr_bytes d' row.end (type v) (row.end + 2) type-stands))

-- the notes lent after it is put into the set
noted-put : {register after : List ℕ} {ds : List Content} {n : ℕ} → Registered register ds → n < 256 → after ≡ put_at register 0 n
    → Noted (lent_from type_words after) ds
unfolding put_at
noted-put {register} {after} {ds} {n} s h e =
    let room = s.types.room in
    let l : length after ≡ length register = ap length e ∙ length_put register 0 n in
    subst (λ (w : List ℕ). Noted w ds)
    (sym (lent_is type_words after (omega arith) ∙ ap (drop type_words) e ∙ drop-set-lt type_words register (0 + n / 32) _ (omega arith)))
    s.noted

-- the set tells whether it is there
is-there : {kept : List ℕ} {ds : List Content} {n v : ℕ} {b : Bool} → TypesKept kept ds → n ≡ v → n < 256 → member kept 0 n ≡ b
    → any_pass (same_content (type v)) ds ≡ b
is-there {ds = ds} s e h m = sym (s.there _ h ∙ ap (λ (k : ℕ). any_pass (same_content (type k)) ds) e) ∙ m

pub returns-then-has : goal.returns-then-has
returns-then-has c =
    λ q s.
    let same = gather_old q.kept.list q.kept.row.apart (type c.args.res) (is-there s.types c.from-number.ensures (omega arith) (sym c.has.ensures ∙ c.if-has.true)) in
    record {
      gathers = nothing_new _ _ _ _ _ _ _ q.kept (type c.args.res ∷ []) refl q.fits same;
      noted = λ u. subst (Registered c.args.register.now) (sym same) s;
    }

pub keep-requires : goal.keep-requires
keep-requires c =
    let h : c.args.row.end + 1 < length c.args.draft.now = omega arith in (
      (
        newest c.args.draft.now c.args.res c.args.row h c.requires.0.kept,
        is-there c.requires.1.types c.from-number.ensures (omega arith) (sym c.has.ensures ∙ c.if-has.false),
        noted-put c.requires.1 (omega arith) c.put.ensures,
      ),
      c.requires.0.fits,
      c.requires.0.small,
      type-print c.args.draft.now c.args.res c.args.row h _ c.from-number.ensures (omega arith),
    )

pub returns : goal.returns
returns c =
    λ q s.
    let room = q.room in
    let fits = q.fits in
    let h : c.args.row.end + 1 < length c.args.draft.now = omega arith in
    let g =
    c.keep.ensures (newest c.args.draft.now c.args.res c.args.row h q.kept)
    (is-there s.types c.from-number.ensures (omega arith) (sym c.has.ensures ∙ c.if-has.false))
    (noted-put s (omega arith) c.put.ensures) in
    record {
      gathers =
          gathers_from _ _ _ _ _ _ _ (gathered q.kept.list (type c.args.res ∷ [])) _ (headed_before c.args.draft.now c.args.row.end 2 c.args.res h)
          g.gathers;
      noted =
          λ u.
          registered_part (types_put s.types c.args.res (omega arith) (c.put.ensures ∙ ap (put_at c.args.register.now 0) c.from-number.ensures)) c.keep.auto.notes
          (g.noted u);
    }
