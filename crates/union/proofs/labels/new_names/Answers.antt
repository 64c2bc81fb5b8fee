-- `new_names` meets its contract.
use Prim.Native.Nat.{ℕ}
use native.Mathlib.Omega.{arith}
use mathlib.Core.Path.{refl, sym}
use lib.ListN.{length-replicate}
use Rattle.reader.proofs.LabelSearch.{index_names}
use Rattle.union.proofs.UnitedLabelsLaws.{no_names, names_same, names_grow, new_none, new_all, new_names_step}
use Rattle.union.proofs.labels.new_names.Goals as goal

pub loop-i-init : goal.loop-i-init
loop-i-init c = (
  omega arith,
  λ g h x y. names_same _ (sym (new_none g.labels h.labels)) (no_names _ _ refl (length-replicate {A = ℕ} 256 0)),
)

pub loop-i-preserved : goal.loop-i-preserved
loop-i-preserved c =
    let e = c.with_name-fresh.ensures in
    let n = names_grow _ _ _ _ _ e in (
      omega arith,
      λ g h x y.
          new_names_step x y c.loop-i.i (omega arith) _ _ _ _ c.from.ensures c.from-in-loop-i.ensures c.label_count-old_count.ensures
          (c.name_place-p.ensures g.labels (index_names x c.label_count-old_count.ensures))
          c.loop-i.fresh _ (c.loop-i.invariant.1 g h x y) (omega arith) e,
    )

pub returns : goal.returns
returns c =
    λ g h x y.
    let n = y.labels in
    names_same _ (new_all g.labels h.labels c.loop-i.i (omega arith)) (c.loop-i.invariant.1 g h x y)
