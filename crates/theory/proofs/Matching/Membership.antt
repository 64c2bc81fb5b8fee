-- Deciding membership is membership: a table lets in a document just where lets_in says so.
--
--   lets_in_lem : (g : Table) (d : Tree) → (lets_in g d ≡ true) ↔ LetsIn g d
--   not_let_in : (g : Table) (d : Tree) → lets_in g d ≡ false → LetsIn g d → ⊥
--
-- The types of a tree are the types that derive it:
--
--   types_derive : (g : Table) (t : Tree) (k : ℕ) → List.Memᴰ k (types_of g t) ↔ Derives g k t
use Prim.Native.Nat.{ℕ}
use mathlib.Core.Bool.{Bool, true, false, ◌&&◌, ◌||◌, not, false≢true}
use mathlib.Core.List.Memᴰ
use mathlib.Core.List.{List, [], ◌∷◌, map, Memᴰ}
use mathlib.Core.Logic.{◌↔◌}
use mathlib.Core.Option.{Option, none as nothing, some as just}
use mathlib.Core.Path.{◌≡◌, refl, sym}
use lib.ListN.{get_elem?}
use Rattle.grammar.specs.Lists.{keep, is_in}
use Rattle.grammar.specs.Names.{Name}
use Rattle.grammar.specs.Content.{Word}
use Rattle.grammar.specs.Tree.{Head, Tree, node, Forest, []ᵗ, ◌∷ᵗ◌}
use Rattle.grammar.specs.Table.{Rule, Table, Named}
use Rattle.grammar.specs.Derivation.{
  Fits,
  Derives,
  derives,
  DerivesAll,
  derives_none,
  derives_next,
  LetsIn,
}
use Rattle.grammar.specs.Membership.{matches, is_named, takes_text, types_of, types_of_all, lets_in}
use Rattle.theory.proofs.Lists.BoolLaws.{and_decides, not_both}
use Rattle.theory.proofs.Lists.ListLaws.{any_found, any_of, kept, keep_mem, in_mem, mem_in}
use Rattle.theory.proofs.Matching.Matching.{Picks, picks_none, picks_next, Picked, recognised, matches_words}

-- a label has a name
pub is_named_lem : (g : Table) (label : ℕ) (n : Name) → (is_named g label n ≡ true) ↔ Named g label n
unfolding is_named
is_named_lem g label n = (λ e. go e (get_elem? g.labels label) refl, λ h. rw (h.listed, is_named) h.same)
  where
    go : is_named g label n ≡ true → (m : Option Name) → get_elem? g.labels label ≡ m → Named g label n
    go e nothing q = absurd (false≢true (rw (q, is_named) at e))
    go e (just m) q = record { name = m; listed = q; same = rw (q, is_named) at e }

-- a rule takes a node with text if it is for text
takes_text_lem : (r : Rule) (h : Head) → (takes_text r h ≡ true) ↔ (h.text ≡ true → r.text ≡ true)
unfolding takes_text
takes_text_lem r h = go h.text r.text
  where
    go : (a b : Bool) → ((not a || b) ≡ true) ↔ (a ≡ true → b ≡ true)
    go true b = (λ e p. e, λ f. f refl)
    go false b = (λ e p. absurd (false≢true p), λ f. refl)

-- the types of the rules that have this name, take the node's text and match these children
abbrev fitting : Table → Head → List (List ℕ) → Rule → Bool
fitting g h us r = is_named g r.label h.name && takes_text r h && matches r.content us

abbrev fitting_types : Table → Head → List (List ℕ) → List ℕ
fitting_types g h us = map (λ (r : Rule). r.type) (keep (fitting g h us) g.rules)

fitting_decides : (g : Table) (h : Head) (us : List (List ℕ)) (r : Rule)
    → (fitting g h us r ≡ true) ↔ ((Named g r.label h.name × (h.text ≡ true → r.text ≡ true)) × Picked (Word r.content) us)
fitting_decides g h us r =
    and_decides _ _ (and_decides _ _ (is_named_lem g r.label h.name) (takes_text_lem r h)) (recognised (matches_words r.content) us)

fitting_fits : (g : Table) (h : Head) (us : List (List ℕ)) (k : ℕ) → Memᴰ k (fitting_types g h us) → Picked (Fits g k h) us
fitting_fits g h us k m =
    let a = Memᴰ.of_map (λ (r : Rule). r.type) (keep (fitting g h us) g.rules) m in
    let b = kept (fitting g h us) g.rules a.1 in
    let (c, w) = (fitting_decides g h us a.0).0 b.1 in
    (w.0, record { rule = a.0; of_table = b.0; of_type = a.2; of_name = c.0; of_text = c.1; word = w.1 }, w.2)

fits_fitting : (g : Table) (h : Head) (us : List (List ℕ)) (k : ℕ) (w : List ℕ) → Fits g k h w → Picks us w
    → Memᴰ k (fitting_types g h us)
fits_fitting g h us k w f p =
    let passes = (fitting_decides g h us f.rule).1 ((f.of_name, f.of_text), (w, f.word, p)) in
    Memᴰ.cast (sym f.of_type) (Memᴰ.map (λ (r : Rule). r.type) (keep_mem (fitting g h us) f.of_table passes))

-- the types of a tree derive it
mutual
  unfolding types_of

  types_derive_it : (t : Tree) (g : Table) (k : ℕ) → Memᴰ k (types_of g t) → Derives g k t
  types_derive_it (node h ts) g k m =
      let r = fitting_fits g h (types_of_all g ts) k m in
      derives r.1 (picks_derive_all ts g r.0 r.2)

  picks_derive_all : (ts : Forest) (g : Table) (w : List ℕ) → Picks (types_of_all g ts) w → DerivesAll g w ts
  picks_derive_all []ᵗ g [] picks_none = derives_none
  picks_derive_all []ᵗ g (k ∷ w) none = elim none [ ]
  picks_derive_all (t ∷ᵗ ts) g [] none = elim none [ ]
  picks_derive_all (t ∷ᵗ ts) g (k ∷ w) (picks_next m p) = derives_next (types_derive_it t g k m) (picks_derive_all ts g w p)

-- a type that derives a tree is among its types
mutual
  unfolding types_of

  derived_by : {g : Table} {k : ℕ} {t : Tree} → Derives g k t → Memᴰ k (types_of g t)
  derived_by {g} (derives {k = k} {h = h} {ts = ts} {w = w} f ds) =
      fits_fitting g h (types_of_all g ts) k w f (derived_pick ds)

  derived_pick : {g : Table} {w : List ℕ} {ts : Forest} → DerivesAll g w ts → Picks (types_of_all g ts) w
  derived_pick derives_none = picks_none
  derived_pick (derives_next d ds) = picks_next (derived_by d) (derived_pick ds)

pub types_derive : (g : Table) (t : Tree) (k : ℕ) → Memᴰ k (types_of g t) ↔ Derives g k t
types_derive g t k = (types_derive_it t g k, derived_by)

pub is_let_in : (g : Table) (d : Tree) → lets_in g d ≡ true → LetsIn g d
unfolding lets_in
is_let_in g d e =
    let r = any_found (λ k. is_in k (types_of g d)) g.starts e in
    record { start = r.0; of_table = r.1; derived = (types_derive g d r.0).0 (in_mem r.0 (types_of g d) r.2) }

pub let_in_is : (g : Table) (d : Tree) → LetsIn g d → lets_in g d ≡ true
unfolding lets_in
let_in_is g d h = any_of (λ k. is_in k (types_of g d)) h.of_table (mem_in ((types_derive g d h.start).1 h.derived))

pub lets_in_lem : (g : Table) (d : Tree) → (lets_in g d ≡ true) ↔ LetsIn g d
lets_in_lem g d = (is_let_in g d, let_in_is g d)

pub not_let_in : (g : Table) (d : Tree) → lets_in g d ≡ false → LetsIn g d → ⊥
not_let_in g d e h = not_both (let_in_is g d h) e
