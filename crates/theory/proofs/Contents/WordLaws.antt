-- The words of a choice of contents, and of a content whose types are replaced:
--     choice_words     a word of the choice of some contents is a word of one of them
--     replace_words    a word of a replaced content spells a word of the content: each type by a word of what replaces it
--     rename_words     where types replace types, the words are the renamed words
--     merge_words      so those of the choice of some rules' contents with types replaced by types
use Prim.Native.Nat.{ℕ}
use mathlib.Core.List.Memᴰ
use mathlib.Core.List.{
  List,
  [],
  ◌∷◌,
  ◌++◌,
  append_assoc,
  append-nil,
  map,
  Memᴰ,
}
use mathlib.Core.Logic.{◌↔◌, ◌⊎◌, inl, inr, ⊎_elim}
use mathlib.Core.Path.{◌≡◌, refl, sym, ◌∙◌, ap, subst}
use Rattle.grammar.specs.Table.{Rule}
use Rattle.grammar.specs.Content.{
  Content,
  none,
  empty,
  type,
  sequence,
  choice,
  any_number,
  one_or_more,
  optional,
  Contents,
  []ᶜ,
  ◌∷ᶜ◌,
  Language,
  Joined,
  RepeatedWords,
  no_more,
  one_more,
  Word,
  InTurn,
  OfOne,
  operands,
  choice_of,
  replace,
  replace_all,
}

-- a property holds of one of some contents
abbrev pub HoldsOfOne : (Content → Type 0) → List Content → Type 0
HoldsOfOne P cs = (c : Content) × Memᴰ c cs × P c

of_one : (cs : List Content) {w : List ℕ} → HoldsOfOne (λ c. Word c w) cs → OfOne (operands cs) w
unfolding operands
of_one [] o = elim o.1 [ ]
of_one (c ∷ cs) {w} o =
    ⊎_elim
    (λ e. inl (subst (λ (x : Content). Word x w) e o.2))
    (λ m. inr (of_one cs (o.0, m, o.2)))
    (Memᴰ.cases_cons o.1)

one_of : (cs : List Content) {w : List ℕ} → OfOne (operands cs) w → HoldsOfOne (λ c. Word c w) cs
unfolding operands
one_of [] o = absurd o
one_of (c ∷ cs) (inl v) = (c, Memᴰ.head refl, v)
one_of (c ∷ cs) (inr v) = let o = one_of cs v in (o.0, Memᴰ.tail o.1, o.2)

pub operands_words : (cs : List Content) (w : List ℕ) → Word (choice (operands cs)) w ↔ HoldsOfOne (λ c. Word c w) cs
operands_words cs w = (one_of cs, of_one cs)

pub choice_words : (cs : List Content) (w : List ℕ) → Word (choice_of cs) w ↔ HoldsOfOne (λ c. Word c w) cs
unfolding choice_of operands
choice_words [] w = (λ v. absurd v, λ o. elim o.1 [ ])
choice_words (c ∷ []) w = (
  λ v. (c, Memᴰ.head refl, v),
  λ o. ⊎_elim (λ v. v) (λ v. absurd v) (of_one (c ∷ []) o),
)
choice_words (c ∷ d ∷ ds) w = operands_words (c ∷ d ∷ ds) w

-- w spells u: a word of the language that stands for each type of u, joined in order
pub data Spells (F : ℕ → Language) : List ℕ → List ℕ → Type 0 where
  spells_none : Spells F [] []
  spells_next : {k : ℕ} {u v w : List ℕ} → F k v → Spells F u w → Spells F (k ∷ u) (v ++ w)

module _ (F : ℕ → Language) where
  pub spells_append : {u v w x : List ℕ} → Spells F u w → Spells F v x → Spells F (u ++ v) (w ++ x)
  spells_append spells_none q = q
  spells_append {v = t} {x = x} (spells_next {k = k} {u = u} {v = v} {w = w} p r) q =
      subst (λ (z : List ℕ). Spells F (k ∷ u ++ t) z) (sym (append_assoc v w x)) (spells_next p (spells_append r q))

  -- a spelling of a joined word is joined of two spellings
  pub record WordParts (u v w : List ℕ) : Type 0 where
    pub front : List ℕ
    pub back : List ℕ
    pub joined : w ≡ front ++ back
    pub front_spells : Spells F u front
    pub back_spells : Spells F v back

  pub spells_split : (u : List ℕ) {v w : List ℕ} → Spells F (u ++ v) w → WordParts u v w
  spells_split [] s = record { front = []; back = _; joined = refl; front_spells = spells_none; back_spells = s }
  spells_split (k ∷ u) (spells_next {v = x} p r) =
      let q = spells_split u r in
      record {
        front = x ++ q.front;
        back = q.back;
        joined = ap (λ (z : List ℕ). x ++ z) q.joined ∙ sym (append_assoc x q.front q.back);
        front_spells = spells_next p q.front_spells;
        back_spells = q.back_spells;
      }

  -- the spellings of the words of a language
  pub record Spelled (L : Language) (w : List ℕ) : Type 0 where
    pub source : List ℕ
    pub in_language : L source
    pub spelling : Spells F source w

  abbrev pub Spelling : Language → Language → Type 0
  Spelling L M = (w : List ℕ) → M w ↔ Spelled L w

  -- one law an operator
  pub spelling_joined : (L L' M M' : Language) → Spelling L L' → Spelling M M' → Spelling (Joined L M) (Joined L' M')
  spelling_joined L L' M M' l m w = (there, back)
    where
      there : Joined L' M' w → Spelled (Joined L M) w
      there j =
          let p = (l j.front).0 j.front_in in
          let q = (m j.back).0 j.back_in in
          record {
            source = p.source ++ q.source;
            in_language =
                record {
                  front = p.source;
                  back = q.source;
                  joined = refl;
                  front_in = p.in_language;
                  back_in = q.in_language;
                };
            spelling =
                subst (λ (z : List ℕ). Spells F (p.source ++ q.source) z) (sym j.joined)
                (spells_append p.spelling q.spelling);
          }

      back : Spelled (Joined L M) w → Joined L' M' w
      back s =
          let j = s.in_language in
          let p = spells_split j.front (subst (λ (z : List ℕ). Spells F z w) j.joined s.spelling) in
          record {
            front = p.front;
            back = p.back;
            joined = p.joined;
            front_in = (l p.front).1 (record { source = j.front; in_language = j.front_in; spelling = p.front_spells });
            back_in = (m p.back).1 (record { source = j.back; in_language = j.back_in; spelling = p.back_spells });
          }

  pub spelling_repeated : (L L' : Language) → Spelling L L' → Spelling (RepeatedWords L) (RepeatedWords L')
  spelling_repeated L L' l w = (there, λ s. back s.in_language s.spelling)
    where
      there : {w : List ℕ} → RepeatedWords L' w → Spelled (RepeatedWords L) w
      there no_more = record { source = []; in_language = no_more; spelling = spells_none }
      there (one_more {u = u} p r) =
          let s = (l u).0 p in
          let t = there r in
          record {
            source = s.source ++ t.source;
            in_language = one_more s.in_language t.in_language;
            spelling = spells_append s.spelling t.spelling;
          }

      back : {u w : List ℕ} → RepeatedWords L u → Spells F u w → RepeatedWords L' w
      back no_more spells_none = no_more
      back (one_more {u = u} p r) s =
          let q = spells_split u s in
          subst (λ (z : List ℕ). RepeatedWords L' z) (sym q.joined)
          (one_more ((l q.front).1 (record { source = u; in_language = p; spelling = q.front_spells })) (back r q.back_spells))

  pub spelling_either : (L L' M M' : Language) → Spelling L L' → Spelling M M' → Spelling (λ w. L w ⊎ M w) (λ w. L' w ⊎ M' w)
  spelling_either L L' M M' l m w = (
    ⊎_elim
        (λ p. let s = (l w).0 p in record { source = s.source; in_language = inl s.in_language; spelling = s.spelling })
        (λ q. let s = (m w).0 q in record { source = s.source; in_language = inr s.in_language; spelling = s.spelling }),
    λ s.
        ⊎_elim
        (λ p. inl ((l w).1 (record { source = s.source; in_language = p; spelling = s.spelling })))
        (λ q. inr ((m w).1 (record { source = s.source; in_language = q; spelling = s.spelling })))
        s.in_language,
  )

  pub spelling_nothing : Spelling (λ w. ⊥) (λ w. ⊥)
  spelling_nothing w = (λ v. absurd v, λ s. absurd s.in_language)

  pub spelling_empty : Spelling (λ w. w ≡ []) (λ w. w ≡ [])
  spelling_empty w = (
    λ e.
        record {
          source = [];
          in_language = refl;
          spelling = subst (λ (z : List ℕ). Spells F [] z) (sym e) spells_none;
        },
    λ s. blank (subst (λ (z : List ℕ). Spells F z w) s.in_language s.spelling),
  )
    where
      blank : {w : List ℕ} → Spells F [] w → w ≡ []
      blank spells_none = refl

  pub spelling_type : (k : ℕ) → Spelling (λ w. w ≡ k ∷ []) (F k)
  spelling_type k w = (
    λ v.
        record {
          source = k ∷ [];
          in_language = refl;
          spelling = subst (λ (z : List ℕ). Spells F (k ∷ []) z) (append-nil w) (spells_next v spells_none);
        },
    λ s. single (subst (λ (z : List ℕ). Spells F z w) s.in_language s.spelling),
  )
    where
      single : {w : List ℕ} → Spells F (k ∷ []) w → F k w
      single (spells_next {v = v} p spells_none) = subst (λ (z : List ℕ). F k z) (sym (append-nil v)) p

-- a replaced content
module _ (f : ℕ → Content) where
  abbrev replaced_by : ℕ → Language
  replaced_by k = Word (f k)

  mutual
    unfolding replace replace_all

    pub replace_words : (c : Content) → Spelling replaced_by (Word c) (Word (replace c f))
    replace_words none = spelling_nothing replaced_by
    replace_words empty = spelling_empty replaced_by
    replace_words (type k) = spelling_type replaced_by k
    replace_words (sequence cs) = λ w. replace_in_turn cs w
    replace_words (choice cs) = λ w. replace_of_one cs w
    replace_words (any_number c) = spelling_repeated replaced_by (Word c) (Word (replace c f)) (λ w. replace_words c w)
    replace_words (one_or_more c) =
        spelling_joined replaced_by (Word c) (Word (replace c f)) (RepeatedWords (Word c)) (RepeatedWords (Word (replace c f)))
        (λ w. replace_words c w)
        (spelling_repeated replaced_by (Word c) (Word (replace c f)) (λ w. replace_words c w))
    replace_words (optional c) =
        spelling_either replaced_by (λ w. w ≡ []) (λ w. w ≡ []) (Word c) (Word (replace c f)) (spelling_empty replaced_by)
        (λ w. replace_words c w)

    pub replace_in_turn : (cs : Contents) → Spelling replaced_by (InTurn cs) (InTurn (replace_all cs f))
    replace_in_turn []ᶜ = spelling_empty replaced_by
    replace_in_turn (c ∷ᶜ cs) =
        spelling_joined replaced_by (Word c) (Word (replace c f)) (InTurn cs) (InTurn (replace_all cs f))
        (λ w. replace_words c w)
        (λ w. replace_in_turn cs w)

    pub replace_of_one : (cs : Contents) → Spelling replaced_by (OfOne cs) (OfOne (replace_all cs f))
    replace_of_one []ᶜ = spelling_nothing replaced_by
    replace_of_one (c ∷ᶜ cs) =
        spelling_either replaced_by (Word c) (Word (replace c f)) (OfOne cs) (OfOne (replace_all cs f))
        (λ w. replace_words c w)
        (λ w. replace_of_one cs w)

-- types in place of types
module _ (h : ℕ → ℕ) where
  pub record Renamed (L : Language) (w : List ℕ) : Type 0 where
    pub source : List ℕ
    pub in_language : L source
    pub renamed : w ≡ map h source

  renaming : {u w : List ℕ} → Spells (λ k. Word (type (h k))) u w → w ≡ map h u
  renaming spells_none = refl
  renaming (spells_next {k = k} {u = u} {v = v} {w = w} p r) =
      ap (λ (z : List ℕ). z ++ w) p ∙ ap (λ (z : List ℕ). h k ∷ z) (renaming r)

  respelled : (u : List ℕ) → Spells (λ k. Word (type (h k))) u (map h u)
  respelled [] = spells_none
  respelled (k ∷ u) = spells_next refl (respelled u)

  pub rename_words : (c : Content) (w : List ℕ) → Word (replace c (λ k. type (h k))) w ↔ Renamed (Word c) w
  rename_words c w = (
    λ v.
        let s = (replace_words (λ k. type (h k)) c w).0 v in
        record { source = s.source; in_language = s.in_language; renamed = renaming s.spelling },
    λ r.
        (replace_words (λ k. type (h k)) c w).1
        (record {
          source = r.source;
          in_language = r.in_language;
          spelling = subst (λ (z : List ℕ). Spells (λ k. Word (type (h k))) r.source z) (sym r.renamed) (respelled r.source);
        }),
  )

-- a word of the content of one of some rules, renamed
pub record RenamedWord (h : ℕ → ℕ) (rs : List Rule) (w : List ℕ) : Type 0 where
  pub rule : Rule
  pub listed : Memᴰ rule rs
  pub source : List ℕ
  pub word : Word rule.content source
  pub renamed : w ≡ map h source

module _ (h : ℕ → ℕ) (rs : List Rule) (w : List ℕ) where
  renamed_content : Rule → Content
  renamed_content r = replace r.content (λ k. type (h k))

  pub merge_words : Word (choice_of (map (λ (r : Rule). replace r.content (λ k. type (h k))) rs)) w ↔ RenamedWord h rs w
  unfolding renamed_content
  merge_words = (
    λ v.
        let (c, listed, word) = (choice_words (map renamed_content rs) w).0 v in
        let (r, m, e) = Memᴰ.of_map renamed_content rs listed in
        let u = (rename_words h r.content w).0 (subst (λ (c : Content). Word c w) (sym e) word) in
        record { rule = r; listed = m; source = u.source; word = u.in_language; renamed = u.renamed },
    λ v.
        (choice_words (map renamed_content rs) w).1 (
          renamed_content v.rule,
          Memᴰ.map renamed_content v.listed,
          (rename_words h v.rule.content w).1
              (record { source = v.source; in_language = v.word; renamed = v.renamed }),
        ),
  )
