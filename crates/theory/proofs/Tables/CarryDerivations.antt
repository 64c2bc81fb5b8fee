-- Derivations of one table are derivations of another where what fits in the one fits in the other:
--     carry_tree    Derives g k t → Derives g' k t, for good types k
-- where what fits a good type in g, above children that are derived, fits it in g', and the types of the word are good.
use Prim.Native.Nat.{ℕ}
use mathlib.Core.List.{List, Memᴰ}
use mathlib.Core.Path.{refl}
use Rattle.grammar.specs.Tree.{Head, Tree, Forest}
use Rattle.grammar.specs.Table.{Table}
use Rattle.grammar.specs.Derivation.{Fits, Derives, derives, DerivesAll, derives_none, derives_next}

module _ (g g' : Table) (Good : ℕ → Type 0)
    (carry : (k : ℕ) (h : Head) (w : List ℕ) (ts : Forest) → Good k → Fits g k h w → DerivesAll g w ts
    → Fits g' k h w × ((l : ℕ) → Memᴰ l w → Good l)) where
  mutual
    pub carry_tree : {k : ℕ} {t : Tree} → Derives g k t → Good k → Derives g' k t
    carry_tree (derives {k = k} {h = h} {ts = ts} {w = w} f a) p =
        let q = carry k h w ts p f a in
        derives q.0 (carry_forest a q.1)

    pub carry_forest : {w : List ℕ} {ts : Forest} → DerivesAll g w ts → ((l : ℕ) → Memᴰ l w → Good l) → DerivesAll g' w ts
    carry_forest derives_none p = derives_none
    carry_forest (derives_next {k = k} d a) p =
        derives_next (carry_tree d (p k (Memᴰ.head refl))) (carry_forest a (λ l m. p l (Memᴰ.tail m)))
