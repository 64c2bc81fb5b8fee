-- A tag of XML text by places: its name ends, white space follows, and then > or />.
use Prim.Native.Nat.{ℕ, ◌+◌, ◌≤◌, ◌<◌}
use native.Mathlib.Omega.{arith}
use mathlib.Core.Bool.{Bool, true, false, not}
use mathlib.Core.List.{List, ◌∷◌}
use mathlib.Core.Option.{none as nothing, some as just}
use mathlib.Core.Path.{◌≡◌, refl, sym, ◌∙◌, ap}
use lib.Dec.{eqb, leb}
use lib.ListN.{length, get_or, drop, drop_of_length-le}
use lib.Seq.{slice}
use borrow.Author.Tests.{leb-true, leb-false, eqb-true, eq-eqb, ne_eqb}
use Rattle.std.specs.Prelude.{Result, Ok, Err, Option, Some}
use Rattle.grammar.specs.Names.{Name}
use Rattle.grammar.specs.declared.Refusal.{Refusal}
use Rattle.grammar.specs.ReadText.{
  less_than,
  slash,
  greater_than,
  name_front,
  past_name,
  past_white,
  Tag,
  start_tag,
  empty_tag,
  end_tag,
  FrontTag,
  ended_by,
  element_end,
  front_tag,
  no_more,
  not_allowed,
  tags_of,
}
use Rattle.theory.proofs.Lists.BoolLaws.{and_right}
use Rattle.theory.proofs.Bytes.TextTags.{tags_end, tags_stray, tags_broken, tags_next}
use Rattle.basis.proofs.FromPlaces.{from_place}
use Rattle.documents.specs.declared.text.Tag.{Tag as TagHere}
use Rattle.documents.specs.declared.text.Tag.TheVariants.{Element, End}
use Rattle.documents.specs.TextSteps.{ends_tag, Forward, NameEnd, TagPlaces, element_tag, FrontIs, FrontSays, TagIs, TagSays}

-- > at a place
module _ (s : List ℕ) (at : ℕ) where
  held : ends_tag s at ≡ true → at < length s
  held e = go (leb (length s) at) refl
    where
      go : (b : Bool) → leb (length s) at ≡ b → at < length s
      go false p = leb-false (length s) at p
      go true p = let z : ◌≡◌ {A = ℕ} 0 1 = (let q = rw p at e in cc) in absurd (omega arith)

  ends : ends_tag s at ≡ true → get_or s at 0 ≡ greater_than
  ends e = eqb-true (get_or s at 0) greater_than (and_right (not (leb (length s) at)) (eqb (get_or s at 0) greater_than) e)

  ended_here : (tag : Tag) → ends_tag s at ≡ true → ended_by tag (drop at s) ≡ just (tag, drop (at + 1) s)
  unfolding ended_by
  ended_here tag e = rw (from_place s at (held e), eq-eqb (get_or s at 0) greater_than (ends e), ended_by)

  ended_not : (tag : Tag) → ends_tag s at ≡ false → ended_by tag (drop at s) ≡ nothing
  unfolding ended_by
  ended_not tag e = go (leb (length s) at) refl
    where
      go : (b : Bool) → leb (length s) at ≡ b → ended_by tag (drop at s) ≡ nothing
      go true p = rw (drop_of_length-le s (leb-true (length s) at p), ended_by)
      go false p = let q : eqb (get_or s at 0) greater_than ≡ false = rw p at e in rw (from_place s at (leb-false (length s) at p), q, ended_by)

  -- the end of an element's tag
  module _ (name : Name) where
    ends_start : ends_tag s at ≡ true → element_end name (drop at s) ≡ just (start_tag name, drop (at + 1) s)
    unfolding element_end ended_by
    ends_start e =
        let here = ends e in
        let other = ne_eqb (get_or s at 0) slash (λ q. let z : ◌≡◌ {A = ℕ} greater_than slash = sym here ∙ q in absurd (omega arith)) in
        rw (from_place s at (held e), other, eq-eqb (get_or s at 0) greater_than here, element_end, ended_by)

    ends_nowhere : length s ≤ at → element_end name (drop at s) ≡ nothing
    unfolding element_end
    ends_nowhere h = rw (drop_of_length-le s h, element_end)

    ends_otherwise : at < length s → (get_or s at 0 ≡ slash → ⊥) → ends_tag s at ≡ false → element_end name (drop at s) ≡ nothing
    unfolding element_end
    ends_otherwise h p e =
        rw (from_place s at h, ne_eqb (get_or s at 0) slash p, element_end)
        (ap (ended_by (start_tag name)) (sym (from_place s at h)) ∙ ended_not (start_tag name) e)

    ends_empty : at < length s → get_or s at 0 ≡ slash → element_end name (drop at s) ≡ ended_by (empty_tag name) (drop (at + 1) s)
    unfolding element_end
    ends_empty h p = rw (from_place s at h, eq-eqb (get_or s at 0) slash p, element_end)

-- behind a name that ends at `to`, white space up to `last`
module _ (s : List ℕ) (from to last : ℕ) (name : NameEnd s from to) (white : Forward s to (past_white (drop to s)) last) where
  abbrev front : Name
  front = name_front (drop from s)

  abbrev behind : List ℕ
  behind = past_white (past_name (drop from s))

  stands : behind ≡ drop last s
  stands = ap past_white (sym name.behind) ∙ sym white.stands

  places : (k : ℕ) → last < k → k ≤ length s → TagPlaces s from from to k
  places k p q =
      let order = name.order in
      let after = white.order in
      record { forward = omega arith; order = order; ends = omega arith; within = q }

  module _ (e : ends_tag s last ≡ true) where
    pub end_whole : FrontIs s from (ended_by (end_tag front) behind) (End from to (last + 1))
    end_whole = (
      places (last + 1) (omega arith) (let h = held s last e in omega arith),
      ap (ended_by (end_tag front)) stands
          ∙ ended_here s last (end_tag front) e
          ∙ ap (λ (n : Name). just (end_tag n, drop (last + 1) s)) (sym name.name),
    )

    pub start_whole : FrontIs s from (element_end front behind) (Element from to (last + 1) true)
    start_whole = (
      places (last + 1) (omega arith) (let h = held s last e in omega arith),
      ap (element_end front) stands
          ∙ ends_start s last front e
          ∙ ap (λ (n : Name). just (start_tag n, drop (last + 1) s)) (sym name.name),
    )

  module _ (e : ends_tag s last ≡ false) where
    pub end_broken : ended_by (end_tag front) behind ≡ nothing
    end_broken = ap (ended_by (end_tag front)) stands ∙ ended_not s last (end_tag front) e

    pub element_stops : length s ≤ last → element_end front behind ≡ nothing
    element_stops h = ap (element_end front) stands ∙ ends_nowhere s last front h

    pub element_other : last < length s → (get_or s last 0 ≡ slash → ⊥) → element_end front behind ≡ nothing
    element_other h p = ap (element_end front) stands ∙ ends_otherwise s last front h p e

  module _ (h : last < length s) (p : get_or s last 0 ≡ slash) where
    slashed : element_end front behind ≡ ended_by (empty_tag front) (drop (last + 1) s)
    slashed = ap (element_end front) stands ∙ ends_empty s last front h p

    pub empty_whole : ends_tag s (last + 1) ≡ true → FrontIs s from (element_end front behind) (Element from to (last + 2) false)
    empty_whole e =
        let two : last + 1 + 1 ≡ last + 2 = omega arith in
        let more = held s (last + 1) e in (
          places (last + 2) (omega arith) (omega arith),
          slashed
              ∙ ended_here s (last + 1) (empty_tag front) e
              ∙ ap (λ (k : ℕ). just (empty_tag front, drop k s)) two
              ∙ ap (λ (n : Name). just (empty_tag n, drop (last + 2) s)) (sym name.name),
        )

    pub empty_broken : ends_tag s (last + 1) ≡ false → element_end front behind ≡ nothing
    empty_broken e = slashed ∙ ended_not s (last + 1) (empty_tag front) e

-- the tag that is found
abbrev pub some_tag : Result TagHere Refusal → Result (Option TagHere) Refusal
some_tag (Ok tag) = Ok (Some tag)
some_tag (Err r) = Err r

-- the first byte behind white space
module _ (s : List ℕ) (at first : ℕ) (white : Forward s at (past_white (drop at s)) first) where
  pub says_no_more : length s ≤ first → tags_of (drop at s) ≡ no_more
  says_no_more h = tags_end (drop at s) (sym white.stands ∙ drop_of_length-le s h)

  module _ (h : first < length s) where
    pub says_stray : (get_or s first 0 ≡ less_than → ⊥) → tags_of (drop at s) ≡ not_allowed
    says_stray p =
        tags_stray (drop at s) (get_or s first 0) (drop (first + 1) s) (sym white.stands ∙ from_place s first h)
        (ne_eqb (get_or s first 0) less_than p)

    module _ (p : get_or s first 0 ≡ less_than) where
      inside : past_white (drop at s) ≡ less_than ∷ drop (first + 1) s
      inside = sym white.stands ∙ from_place s first h ∙ ap (λ (b : ℕ). b ∷ drop (first + 1) s) p

      pub says_stopped : length s ≤ first + 1 → tags_of (drop at s) ≡ not_allowed
      unfolding front_tag
      says_stopped q = tags_broken (drop at s) (drop (first + 1) s) inside (rw (drop_of_length-le s q, front_tag))

      further : {k from to next : ℕ} → first < k → TagPlaces s k from to next → TagPlaces s (at + 1) from to next
      further later t =
          let f = t.forward in
          let o = white.order in
          record { forward = omega arith; order = t.order; ends = t.ends; within = t.within }

      -- the tag there
      found_there : (found : FrontTag) → front_tag (drop (first + 1) s) ≡ found → (k : ℕ) → first < k → (t : TagHere) → FrontIs s k found t
          → TagIs s at t
      found_there found e k later (Element from to next stays) x = (
        further later x.0,
        tags_next (drop at s) (drop (first + 1) s) inside (element_tag stays (slice from to s)) (drop next s) (e ∙ x.1),
      )
      found_there found e k later (End from to next) x = (
        further later x.0,
        tags_next (drop at s) (drop (first + 1) s) inside (end_tag (slice from to s)) (drop next s) (e ∙ x.1),
      )

      -- what is found of it
      says : (found : FrontTag) → front_tag (drop (first + 1) s) ≡ found → (k : ℕ) → first < k → (r : Result TagHere Refusal)
          → FrontSays s k found r → TagSays s at (some_tag r)
      says found e k later (Ok t) x = found_there found e k later t x
      says found e k later (Err r) x = (x.0, tags_broken (drop at s) (drop (first + 1) s) inside (e ∙ x.1))

      module _ (more : first + 1 < length s) where
        pub says_end : get_or s (first + 1) 0 ≡ slash → (r : Result TagHere Refusal)
            → FrontSays s (first + 1 + 1)
            (ended_by (end_tag (name_front (drop (first + 1 + 1) s))) (past_white (past_name (drop (first + 1 + 1) s)))) r
            → TagSays s at (some_tag r)
        unfolding front_tag
        says_end q r x =
            says _ (rw (from_place s (first + 1) more, eq-eqb (get_or s (first + 1) 0) slash q, front_tag)) (first + 1 + 1) (omega arith) r x

        pub says_element : (get_or s (first + 1) 0 ≡ slash → ⊥) → (r : Result TagHere Refusal)
            → FrontSays s (first + 1) (element_end (name_front (drop (first + 1) s)) (past_white (past_name (drop (first + 1) s)))) r
            → TagSays s at (some_tag r)
        unfolding front_tag
        says_element q r x = says _ front_element (first + 1) (omega arith) r x
          where
            tried : (b : ℕ) (l : List ℕ) → eqb b slash ≡ false
                → front_tag (b ∷ l) ≡ element_end (name_front (b ∷ l)) (past_white (past_name (b ∷ l)))
            tried b l e = rw (e, front_tag)

            here : drop (first + 1) s ≡ get_or s (first + 1) 0 ∷ drop (first + 1 + 1) s
            here = from_place s (first + 1) more

            front_element : front_tag (drop (first + 1) s)
                ≡ element_end (name_front (drop (first + 1) s)) (past_white (past_name (drop (first + 1) s)))
            front_element =
                ap front_tag here
                ∙ tried (get_or s (first + 1) 0) (drop (first + 1 + 1) s) (ne_eqb (get_or s (first + 1) 0) slash q)
                ∙ ap (λ (l : List ℕ). element_end (name_front l) (past_white (past_name l))) (sym here)
