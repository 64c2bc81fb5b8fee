-- Letting in is carried from one table to another by a relation between their types that is closed under words.
--     covered_derived    a type that covers another derives all that it derives
--     covered_let_in     what a table lets in, a table that covers it lets in
use Prim.Native.Nat.{ℕ}
use mathlib.Core.List.{List, Memᴰ, Forall₂}
use Rattle.grammar.specs.Tree.{Head, Tree, Forest}
use Rattle.grammar.specs.Table.{Table}
use Rattle.grammar.specs.Derivation.{Fits, Derives, derives, DerivesAll, derives_none, derives_next, LetsIn}
use Rattle.grammar.specs.Least.{LetsInAll}

module _ (G H : Table) (Cover : ℕ → ℕ → Type 0) where
  -- a start type of the other table that covers
  pub record StartCover (k : ℕ) : Type 0 where
    pub type : ℕ
    pub of_table : Memᴰ type H.starts
    pub covers : Cover k type

  -- a word of the other type that covers, type by type
  pub record WordCover (j : ℕ) (h : Head) (w : List ℕ) : Type 0 where
    pub word : List ℕ
    pub fits : Fits H j h word
    pub covers : Forall₂ Cover w word

  abbrev pub WordsCovered : Type 0
  WordsCovered = (k j : ℕ) (h : Head) (w : List ℕ) → Cover k j → Fits G k h w → WordCover j h w

  pub record Covering : Type 0 where
    pub starts : (k : ℕ) (h : Head) (w : List ℕ) → Memᴰ k G.starts → Fits G k h w → StartCover k
    pub words : WordsCovered

module _ {G H : Table} {Cover : ℕ → ℕ → Type 0} (words : WordsCovered G H Cover) where
  mutual
    pub covered_derived : {k : ℕ} {t : Tree} → Derives G k t → (j : ℕ) → Cover k j → Derives H j t
    covered_derived (derives {k = k} {h = h} {w = w} f all) j c =
        let v = words k j h w c f in
        derives v.fits (covered_derived_all all v.covers)

    pub covered_derived_all : {w : List ℕ} {ts : Forest} → DerivesAll G w ts → {v : List ℕ} → Forall₂ Cover w v → DerivesAll H v ts
    covered_derived_all derives_none Forall₂.nil = derives_none
    covered_derived_all (derives_next d all) (Forall₂.cons {b = j} c cs) =
        derives_next (covered_derived d j c) (covered_derived_all all cs)

module _ {G H : Table} {Cover : ℕ → ℕ → Type 0} (covering : Covering G H Cover) where
  pub covered_let_in : LetsInAll H (LetsIn G)
  covered_let_in d l = go l.derived
    where
      go : {d : Tree} → Derives G l.start d → LetsIn H d
      go (derives {h = h} {w = w} f all) =
          let s = covering.starts l.start h w l.of_table f in
          record {
            start = s.type;
            of_table = s.of_table;
            derived = covered_derived covering.words (derives f all) s.type s.covers;
          }
