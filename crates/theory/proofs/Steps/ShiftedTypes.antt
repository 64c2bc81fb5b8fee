-- Normalise asks of types only whether they are equal, so how far Unite shifts the types of the addition makes no difference:
--     normalise-renamed     types renamed one for one leave the normal form as it is
--     same_normal_union     where old's types are below one type limit, and that is not above another, both limits give one normal form
--     same_reduced_union    and so one reduced table
use Prim.Native.Nat.{ℕ, ◌+◌, ◌-◌, ◌≤◌, ◌<◌}
use native.Mathlib.Omega.{arith}
use mathlib.Core.Bool.{Bool, true, false, ◌&&◌}
use mathlib.Core.List.{List, [], ◌∷◌, ◌++◌, map, map-map, map-id, map-append, Memᴰ}
use mathlib.Core.Path.{◌≡◌, refl, sym, ◌∙◌, ap, ap₂, fun_ext}
use lib.Dec.{eqb, ltb}
use borrow.Author.Tests.{ltb-true, ltb-false, lt-ltb, le-ltb}
use Rattle.grammar.specs.Lists.{any_pass, keep, distinct, joined_of}
use Rattle.grammar.specs.Limits.{Limits}
use Rattle.grammar.specs.Content.{Content, type, choice_of, replace}
use Rattle.grammar.specs.Table.{Rule, Table}
use Rattle.grammar.specs.KindTests.{same_pair}
use Rattle.grammar.specs.Unite.{shifted, added, unite}
use Rattle.grammar.specs.Normalise.{pair_of, pairs_of, in_pairs, marks, rule_of_pair, normalise}
use Rattle.grammar.specs.Reduce.{reduce}
use Rattle.grammar.specs.Widen.{reduced_union}
use Rattle.theory.proofs.Lists.ListLaws.{keep_on, keep-map, any_map, map_on, distinct-map}
use Rattle.theory.proofs.Lists.PlaceLaws.{place_image}
use Rattle.theory.proofs.Lists.DistinctLaws.{distinct_on}
use Rattle.theory.proofs.Contents.ReplaceLaws.{replace_twice, replace_on, replace_self}
use Rattle.theory.proofs.Tables.TableConditions.{TypesBelow}
use Rattle.theory.proofs.Steps.RenamedTypes.{renamed_rule, renamed, same_type_renamed, marks-renamed}

-- Where no two types get one new name, renaming keeps each pair's number, and so the normal form.
module _ (rename : ℕ → ℕ) (one_for_one : (j k : ℕ) → rename j ≡ rename k → j ≡ k) where
  same_pair_renamed : (r s : Rule) → same_pair (renamed_rule rename r) (renamed_rule rename s) ≡ same_pair r s
  unfolding same_pair
  same_pair_renamed r s = ap (λ (b : Bool). b && eqb r.label s.label) (same_type_renamed rename one_for_one r.type s.type)

  module _ (u : Table) where
    pair_renamed : (r : Rule) → pair_of (renamed rename u) (renamed_rule rename r) ≡ pair_of u r
    unfolding pair_of
    pair_renamed r = sym (place_image (renamed_rule rename) same_pair same_pair r u.rules (λ s m. same_pair_renamed r s))

    first_rules_renamed : distinct same_pair (map (renamed_rule rename) u.rules)
        ≡ map (renamed_rule rename) (distinct same_pair u.rules)
    first_rules_renamed =
        distinct-map (renamed_rule rename) same_pair u.rules
        ∙ ap (map (renamed_rule rename))
        (distinct_on (λ r s. same_pair (renamed_rule rename r) (renamed_rule rename s)) same_pair u.rules
        (λ r s m n. same_pair_renamed r s))

    pairs_renamed : (k : ℕ) → pairs_of (renamed rename u) (rename k) ≡ pairs_of u k
    unfolding pairs_of
    pairs_renamed k =
        ap (λ (rs : List Rule). map (pair_of (renamed rename u)) (keep (λ (r : Rule). eqb r.type (rename k)) rs)) first_rules_renamed
        ∙ ap (map (pair_of (renamed rename u)))
        (keep-map (renamed_rule rename) (λ (r : Rule). eqb r.type (rename k)) firsts
        ∙ ap (map (renamed_rule rename))
        (keep_on (λ (r : Rule). eqb (rename r.type) (rename k)) of_type firsts (λ r m. same_type_renamed rename one_for_one r.type k)))
        ∙ map-map (pair_of (renamed rename u)) (renamed_rule rename) (keep of_type firsts)
        ∙ map_on (λ r. pair_of (renamed rename u) (renamed_rule rename r)) (pair_of u) (keep of_type firsts) (λ r m. pair_renamed r)
      where
        firsts : List Rule
        firsts = distinct same_pair u.rules

        of_type : Rule → Bool
        of_type r = eqb r.type k

    in_pairs-renamed : (c : Content) → in_pairs (renamed rename u) (replace c (λ k. type (rename k))) ≡ in_pairs u c
    unfolding in_pairs replace
    in_pairs-renamed c =
        replace_twice (λ k. type (rename k)) (λ k. choice_of (map type (pairs_of (renamed rename u) k))) c
        ∙ ap (replace c) (fun_ext (λ k. ap (λ (ps : List ℕ). choice_of (map type ps)) (pairs_renamed k)))

    rules_of_pair_renamed : (r : Rule)
        → keep (same_pair (renamed_rule rename r)) (renamed rename u).rules ≡ map (renamed_rule rename) (keep (same_pair r) u.rules)
    rules_of_pair_renamed r =
        keep-map (renamed_rule rename) (same_pair (renamed_rule rename r)) u.rules
        ∙ ap (map (renamed_rule rename))
        (keep_on (λ s. same_pair (renamed_rule rename r) (renamed_rule rename s)) (same_pair r) u.rules
        (λ s m. same_pair_renamed r s))

    contents_renamed : (r : Rule)
        → map (λ (s : Rule). in_pairs (renamed rename u) s.content) (keep (same_pair (renamed_rule rename r)) (renamed rename u).rules)
        ≡ map (λ (s : Rule). in_pairs u s.content) (keep (same_pair r) u.rules)
    contents_renamed r =
        ap (map (λ (s : Rule). in_pairs (renamed rename u) s.content)) (rules_of_pair_renamed r)
        ∙ map-map (λ (s : Rule). in_pairs (renamed rename u) s.content) (renamed_rule rename) (keep (same_pair r) u.rules)
        ∙ map_on (λ s. in_pairs (renamed rename u) (renamed_rule rename s).content) (λ (s : Rule). in_pairs u s.content)
        (keep (same_pair r) u.rules)
        (λ s m. in_pairs-renamed s.content)

    text_renamed : (r : Rule)
        → any_pass (marks (renamed rename u)) (keep (same_pair (renamed_rule rename r)) (renamed rename u).rules)
        ≡ any_pass (marks u) (keep (same_pair r) u.rules)
    text_renamed r =
        ap (any_pass (marks (renamed rename u))) (rules_of_pair_renamed r)
        ∙ any_map (renamed_rule rename) (marks (renamed rename u)) (keep (same_pair r) u.rules)
        ∙ ap (λ test. any_pass test (keep (same_pair r) u.rules)) (fun_ext (λ s. marks-renamed rename one_for_one u s))

    rule_renamed : (r : Rule) → rule_of_pair (renamed rename u) (renamed_rule rename r) ≡ rule_of_pair u r
    unfolding rule_of_pair
    rule_renamed r =
        ap₂
        (λ (k : ℕ) (cs : List Content). record { type = k; label = r.label; content = choice_of cs; text = marked_by (renamed rename u) })
        (pair_renamed r)
        (contents_renamed r)
        ∙ ap
        (λ (b : Bool). record { type = pair_of u r; label = r.label; content = choice_of (contents_of u); text = b })
        (text_renamed r)
      where
        contents_of : Table → List Content
        contents_of g = map (λ (s : Rule). in_pairs g s.content) (keep (same_pair r) g.rules)

        marked_by : Table → Bool
        marked_by g = any_pass (marks g) (keep (same_pair (renamed_rule rename r)) g.rules)

    starts_renamed : (ks : List ℕ) → joined_of (pairs_of (renamed rename u)) (map rename ks) ≡ joined_of (pairs_of u) ks
    unfolding joined_of
    starts_renamed [] = refl
    starts_renamed (k ∷ ks) = ap₂ ◌++◌ (pairs_renamed k) (starts_renamed ks)

    rules_renamed : map (rule_of_pair (renamed rename u)) (distinct same_pair (renamed rename u).rules)
        ≡ map (rule_of_pair u) (distinct same_pair u.rules)
    rules_renamed =
        ap (map (rule_of_pair (renamed rename u))) first_rules_renamed
        ∙ map-map (rule_of_pair (renamed rename u)) (renamed_rule rename) (distinct same_pair u.rules)
        ∙ map_on (λ r. rule_of_pair (renamed rename u) (renamed_rule rename r)) (rule_of_pair u) (distinct same_pair u.rules)
        (λ r m. rule_renamed r)

    normalise-renamed : normalise (renamed rename u) ≡ normalise u
    unfolding normalise
    normalise-renamed =
        ap₂ (λ (ks : List ℕ) (rs : List Rule). record { labels = u.labels; starts = ks; rules = rs }) (starts_renamed u.starts)
        rules_renamed

-- the types from a limit on, moved up; those below it stay
module _ (limit up : ℕ) where
  abbrev moved_up : ℕ → ℕ
  moved_up k = elim (ltb k limit) [ true ↦ k | false ↦ k + up ]

  below_stays : (k : ℕ) → k < limit → moved_up k ≡ k
  below_stays k h = rw (lt-ltb k limit h, moved_up)

  above_moves : (k : ℕ) → limit ≤ k → moved_up k ≡ k + up
  above_moves k h = rw (le-ltb k limit h, moved_up)

  moved_one_for_one : (j k : ℕ) → moved_up j ≡ moved_up k → j ≡ k
  moved_one_for_one j k e = go (ltb j limit) refl (ltb k limit) refl
    where
      go : (a : Bool) → ltb j limit ≡ a → (b : Bool) → ltb k limit ≡ b → j ≡ k
      go true p true q = sym (below_stays j (ltb-true j limit p)) ∙ e ∙ below_stays k (ltb-true k limit q)
      go true p false q =
          let here = ltb-true j limit p in
          let there = ltb-false k limit q in
          let stays = below_stays j here in
          let moves = above_moves k there in
          absurd (omega arith)
      go false p true q =
          let here = ltb-false j limit p in
          let there = ltb-true k limit q in
          let moves = above_moves j here in
          let stays = below_stays k there in
          absurd (omega arith)
      go false p false q =
          let moves = above_moves j (ltb-false j limit p) in
          let moves' = above_moves k (ltb-false k limit q) in
          omega arith

-- of a list that stays and the images of another, renamed
renamed_join : {A B : Type 0} (f : B → B) (p q : A → B) (xs : List B) (ys : List A) → ((x : B) → Memᴰ x xs → f x ≡ x)
    → ((y : A) → f (p y) ≡ q y)
    → map f (xs ++ map p ys) ≡ xs ++ map q ys
renamed_join f p q xs ys stays moves =
    map-append f xs (map p ys)
    ∙ ap₂ ◌++◌ (map_on f (λ x. x) xs stays ∙ map-id xs) (map-map f p ys ∙ map_on (λ y. f (p y)) q ys (λ y m. moves y))

module _ (lim lim' : Limits) (g h : Table) (roomier : lim.types ≤ lim'.types) (below : TypesBelow lim g) where
  -- Under the roomier limits the addition's types are moved up, and old's stay.
  abbrev move : ℕ → ℕ
  move = moved_up lim.types (lim'.types - lim.types)

  shifted_moves : (k : ℕ) → move (shifted lim k) ≡ shifted lim' k
  unfolding shifted
  shifted_moves k =
      let moves = above_moves lim.types (lim'.types - lim.types) (lim.types + k) (omega arith) in
      omega arith

  stays : (k : ℕ) → k < lim.types → move k ≡ k
  stays = below_stays lim.types (lim'.types - lim.types)

  rule_stays : (r : Rule) → Memᴰ r g.rules → renamed_rule move r ≡ r
  rule_stays r m =
      ap₂ (λ (k : ℕ) (c : Content). record { type = k; label = r.label; content = c; text = r.text }) (stays r.type (below.rules r m))
      (replace_on (λ k. type (move k)) type r.content (λ k n. ap type (stays k (below.contents r m k n))) ∙ replace_self r.content)

  rule_moves : (r : Rule) → renamed_rule move (added lim g h r) ≡ added lim' g h r
  unfolding added
  rule_moves r =
      ap₂
      (λ (k : ℕ) (c : Content). record { type = k; label = (added lim g h r).label; content = c; text = r.text })
      (shifted_moves r.type)
      (replace_twice (λ k. type (shifted lim k)) (λ k. type (move k)) r.content
      ∙ ap (replace r.content) (fun_ext (λ k. ap type (shifted_moves k))))

  union_renamed : renamed move (unite lim g h) ≡ unite lim' g h
  unfolding unite
  union_renamed =
      ap₂ (λ (ks : List ℕ) (rs : List Rule). record { labels = (unite lim g h).labels; starts = ks; rules = rs })
      (renamed_join move (shifted lim) (shifted lim') g.starts h.starts (λ k m. stays k (below.starts k m)) shifted_moves)
      (renamed_join (renamed_rule move) (added lim g h) (added lim' g h) g.rules h.rules rule_stays rule_moves)

  pub same_normal_union : normalise (unite lim g h) ≡ normalise (unite lim' g h)
  same_normal_union =
      sym (normalise-renamed move (moved_one_for_one lim.types (lim'.types - lim.types)) (unite lim g h))
      ∙ ap normalise union_renamed

  pub same_reduced_union : reduced_union lim g h ≡ reduced_union lim' g h
  unfolding reduced_union
  same_reduced_union = ap reduce same_normal_union
