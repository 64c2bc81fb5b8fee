-- `places::label_here` meets its contract.
use Prim.Native.Nat.{ℕ, ◌+◌, ◌-◌}
use native.Mathlib.Omega.{arith}
use mathlib.Core.List.{List}
use mathlib.Core.Path.{◌≡◌, sym, ◌∙◌, ap}
use lib.ListN.{length, take, drop, length-drop}
use lib.Seq.{drop-drop}
use Rattle.std.proofs.lemmas.List.{take_rest}
use Rattle.grammar.specs.Names.{same_name}
use Rattle.vectors.proofs.places.label_here.Goals as goal

-- what stands behind the first three bytes of a field
behind : (table rest : List ℕ) (at : ℕ) → rest ≡ drop 3 (take (length table - at) (drop at table)) → rest ≡ drop (at + 3) table
behind table rest at e = e ∙ ap (drop 3) (take_rest table at) ∙ drop-drop 3 at table

pub returns-then-name-rest : goal.returns-then-name-rest
returns-then-name-rest c =
    let table = c.args.table.now in
    let name = c.args.name.now in
    let at = c.args.at in
    let field = c.in-Some-eq16-default.ensures.cases in
    let rest_is = behind table c.in-Some-eq16-default.rest.now at field.1 in
    let size = field.2 ∙ ap length (take_rest table at) ∙ length-drop at table in
    let n : at + 3 + length name - (at + 3) ≡ length name = omega arith in
    λ e.
    record {
      within = omega arith;
      same = ap (λ (l : List ℕ). same_name l name) (ap (λ (k : ℕ). take k (drop (at + 3) table)) n ∙ ap (take (length name)) (sym rest_is)) ∙ sym c.same_name.ensures ∙ e;
    }
