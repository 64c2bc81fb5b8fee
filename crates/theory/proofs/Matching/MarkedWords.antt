-- What the marks of a content mean: `Left m` is the language of what may still follow the last child.
--
--   final_word : (m : MContent) → (final m ≡ true) ↔ Left m []
--   shift_word : (m : MContent) (b : Bool) (has : ℕ → Bool) (w : List ℕ)
--       → Left (shift m b has) w ↔ (((b ≡ true) × AfterChild has (Word (plain m)) w) ⊎ AfterChild has (Left m) w)
--   unmarked_left : (c : Content) (w : List ℕ) → Left (unmarked c) w → ⊥
--
-- where `AfterChild has L w` says that some k with `has k ≡ true` stands before w in L: L (k ∷ w).
-- One law for each operator, over any languages; then a line for each constructor.
use Prim.Native.Nat.{ℕ}
use mathlib.Core.Bool.{Bool, true, ◌&&◌, ◌||◌, false≢true}
use mathlib.Core.List.{List, [], ◌∷◌, ◌++◌, nil≢cons, cons≢nil}
use mathlib.Core.Logic.{◌↔◌, ◌⊎◌, inl, inr, ⊎_elim}
use mathlib.Core.Path.{◌≡◌, refl, sym, ap, subst}
use Rattle.grammar.specs.Content.{
  Content,
  none,
  empty,
  type,
  sequence,
  choice,
  any_number,
  one_or_more,
  optional,
  Contents,
  []ᶜ,
  ◌∷ᶜ◌,
  Language,
  Joined,
  RepeatedWords,
  no_more,
  one_more,
  Word,
  InTurn,
  OfOne,
}
use Rattle.theory.specs.Marked.{
  MContent,
  noneᵐ,
  emptyᵐ,
  typeᵐ,
  sequenceᵐ,
  choiceᵐ,
  any_numberᵐ,
  one_or_moreᵐ,
  optionalᵐ,
  MContents,
  []ᵐ,
  ◌∷ᵐ◌,
  plain,
  plain_all,
  unmarked,
  unmarked_all,
  nullable,
  nullable_all,
  final,
  final_in_turn,
  final_of_one,
  shift,
  shift_in_turn,
  shift_each,
}
use Rattle.theory.proofs.Lists.BoolLaws.{and_left, and_right, and_intro, or_cases, or_left, or_right, or_decides}
use Rattle.theory.proofs.Matching.Matching.{joined_repeated}
use Rattle.theory.proofs.Matching.MarkedLaws.{
  plain-shift,
  plain_all-shift_in_turn,
  HasNoTypes,
  none_without,
  sequence_without,
  more_without,
  nullable_word,
  nullable_in_turn,
}

-- What may still follow: nothing after a marked type; after an operand of a sequence, a word of each operand behind it; after what
-- is repeated, any number of words of it.
abbrev mutual
  pub Left : MContent → Language
  Left noneᵐ = λ w. ⊥
  Left emptyᵐ = λ w. ⊥
  Left (typeᵐ mark k) = λ w. (mark ≡ true) × (w ≡ [])
  Left (sequenceᵐ ms) = λ w. LeftInTurn ms w
  Left (choiceᵐ ms) = λ w. LeftOfOne ms w
  Left (any_numberᵐ m) = λ w. Joined (Left m) (RepeatedWords (Word (plain m))) w
  Left (one_or_moreᵐ m) = λ w. Joined (Left m) (RepeatedWords (Word (plain m))) w
  Left (optionalᵐ m) = λ w. Left m w

  pub LeftInTurn : MContents → Language
  LeftInTurn []ᵐ = λ w. ⊥
  LeftInTurn (m ∷ᵐ ms) = λ w. Joined (Left m) (InTurn (plain_all ms)) w ⊎ LeftInTurn ms w

  pub LeftOfOne : MContents → Language
  LeftOfOne []ᵐ = λ w. ⊥
  LeftOfOne (m ∷ᵐ ms) = λ w. Left m w ⊎ LeftOfOne ms w

-- nothing is left of a content without marks
mutual
  unfolding unmarked

  pub unmarked_left : (c : Content) (w : List ℕ) → Left (unmarked c) w → ⊥
  unmarked_left none w l = l
  unmarked_left empty w l = l
  unmarked_left (type k) w l = false≢true l.0
  unmarked_left (sequence cs) w l = unmarked_left_in_turn cs w l
  unmarked_left (choice cs) w l = unmarked_left_of_one cs w l
  unmarked_left (any_number c) w l = unmarked_left c l.front l.front_in
  unmarked_left (one_or_more c) w l = unmarked_left c l.front l.front_in
  unmarked_left (optional c) w l = unmarked_left c w l

  unmarked_left_in_turn : (cs : Contents) (w : List ℕ) → LeftInTurn (unmarked_all cs) w → ⊥
  unmarked_left_in_turn []ᶜ w l = l
  unmarked_left_in_turn (c ∷ᶜ cs) w l =
      ⊎_elim (λ j. unmarked_left c j.front j.front_in) (λ r. unmarked_left_in_turn cs w r) l

  unmarked_left_of_one : (cs : Contents) (w : List ℕ) → LeftOfOne (unmarked_all cs) w → ⊥
  unmarked_left_of_one []ᶜ w l = l
  unmarked_left_of_one (c ∷ᶜ cs) w l = ⊎_elim (λ r. unmarked_left c w r) (λ r. unmarked_left_of_one cs w r) l

-- final: no types may follow
type_final : (mark : Bool) → HasNoTypes mark (λ w. (mark ≡ true) × (w ≡ []))
type_final mark = (λ e. (e, refl), λ l. l.0)

mutual
  unfolding final

  pub final_word : (m : MContent) → HasNoTypes (final m) (Left m)
  final_word noneᵐ = none_without
  final_word emptyᵐ = none_without
  final_word (typeᵐ mark k) = type_final mark
  final_word (sequenceᵐ ms) = final_in_turn_lem ms
  final_word (choiceᵐ ms) = final_of_one_lem ms
  final_word (any_numberᵐ m) = more_without (final m) (Left m) (Word (plain m)) (final_word m)
  final_word (one_or_moreᵐ m) = more_without (final m) (Left m) (Word (plain m)) (final_word m)
  final_word (optionalᵐ m) = final_word m

  pub final_in_turn_lem : (ms : MContents) → HasNoTypes (final_in_turn ms) (LeftInTurn ms)
  final_in_turn_lem []ᵐ = none_without
  final_in_turn_lem (m ∷ᵐ ms) =
      or_decides (final m && nullable_all (plain_all ms)) (final_in_turn ms)
      (sequence_without (final m) (nullable_all (plain_all ms)) (Left m) (InTurn (plain_all ms)) (final_word m)
      (nullable_in_turn (plain_all ms)))
      (final_in_turn_lem ms)

  pub final_of_one_lem : (ms : MContents) → HasNoTypes (final_of_one ms) (LeftOfOne ms)
  final_of_one_lem []ᵐ = none_without
  final_of_one_lem (m ∷ᵐ ms) = or_decides (final m) (final_of_one ms) (final_word m) (final_of_one_lem ms)

-- the words that a type of the child may stand before
abbrev pub AfterChild : (ℕ → Bool) → Language → Language
AfterChild has L w = (k : ℕ) × (has k ≡ true) × L (k ∷ w)

-- N is what is left, after one more child, of an expression with words W of which L was left; b: the child may begin the expression
abbrev pub Shifts : (ℕ → Bool) → Bool → Language → Language → Language → Type 0
Shifts has b W L N = (w : List ℕ) → N w ↔ (((b ≡ true) × AfterChild has W w) ⊎ AfterChild has L w)

-- the same back behind another front
with_front : {L M : Language} {w : List ℕ} (N : Language) (j : Joined L M w) → N j.front → Joined N M w
with_front N j n = record { front = j.front; back = j.back; joined = j.joined; front_in = n; back_in = j.back_in }

module _ (has : ℕ → Bool) where
  -- The child's type stands in the front of a joined word, or the front has no types and it stands in the back.
  pub after_joined : (L M : Language) (w : List ℕ)
      → AfterChild has (Joined L M) w ↔ (Joined (AfterChild has L) M w ⊎ (L [] × AfterChild has M w))
  after_joined L M w = (λ a. there a.0 a.1 a.2.front a.2.back a.2.joined a.2.front_in a.2.back_in, back)
    where
      there : (k : ℕ) → has k ≡ true → (u v : List ℕ) → k ∷ w ≡ u ++ v → L u → M v
          → Joined (AfterChild has L) M w ⊎ (L [] × AfterChild has M w)
      there k h [] v e l m = inr (l, (k, h, rw e m))
      there k h (x ∷ u) v e l m =
          let same : x ≡ k = cc in
          inl (record { front = u; back = v; joined = cc; front_in = (k, h, subst (λ (y : ℕ). L (y ∷ u)) same l); back_in = m })

      back : Joined (AfterChild has L) M w ⊎ (L [] × AfterChild has M w) → AfterChild has (Joined L M) w
      back (inl j) =
          let a = j.front_in in (
            a.0,
            a.1,
            record {
              front = a.0 ∷ j.front;
              back = j.back;
              joined = ap (λ (x : List ℕ). a.0 ∷ x) j.joined;
              front_in = a.2;
              back_in = j.back_in;
            },
          )
      back (inr s) =
          let a = s.1 in
          (a.0, a.1, record { front = []; back = a.0 ∷ w; joined = refl; front_in = s.0; back_in = a.2 })

  -- It stands in the first word, of those repeated, that has types.
  pub after_repeated : (L : Language) (w : List ℕ) → AfterChild has (RepeatedWords L) w ↔ Joined (AfterChild has L) (RepeatedWords L) w
  after_repeated L w = (λ a. there a.0 a.1 (a.0 ∷ w) a.2 refl, back)
    where
      there : (k : ℕ) → has k ≡ true → (x : List ℕ) → RepeatedWords L x → x ≡ k ∷ w → Joined (AfterChild has L) (RepeatedWords L) w
      there k h x no_more e = absurd (nil≢cons e)
      there k h x (one_more {u = []} {v = v} l r) e = there k h v r e
      there k h x (one_more {u = y ∷ u} {v = v} l r) e =
          let same : y ≡ k = cc in
          record { front = u; back = v; joined = cc; front_in = (k, h, subst (λ (z : ℕ). L (z ∷ u)) same l); back_in = r }

      back : Joined (AfterChild has L) (RepeatedWords L) w → AfterChild has (RepeatedWords L) w
      back j =
          let a = j.front_in in
          (a.0, a.1, rw j.joined (one_more a.2 j.back_in))

  nothing_shifts : (b : Bool) → Shifts has b (λ w. ⊥) (λ w. ⊥) (λ w. ⊥)
  nothing_shifts b w = (λ v. absurd v, ⊎_elim (λ s. s.1.2) (λ s. s.2))

  type_shifts : (b mark : Bool) (k : ℕ)
      → Shifts has b (λ w. w ≡ k ∷ []) (λ w. (mark ≡ true) × (w ≡ [])) (λ w. ((b && has k) ≡ true) × (w ≡ []))
  type_shifts b mark k w = (
    λ l. inl (and_left b (has k) l.0, (k, and_right b (has k) l.0, ap (λ (x : List ℕ). k ∷ x) l.1)),
    ⊎_elim (λ s. begins s.0 s.1.0 s.1.1 s.1.2) (λ s. absurd (cons≢nil s.2.1)),
  )
    where
      begins : b ≡ true → (h : ℕ) → has h ≡ true → h ∷ w ≡ k ∷ [] → ((b && has k) ≡ true) × (w ≡ [])
      begins p h q e =
          let same : h ≡ k = cc in
          (and_intro b (has k) p (subst (λ (x : ℕ). has x ≡ true) same q), cc)

  -- only the words with types count
  same_shifts : (b : Bool) (W W' L N : Language) → ((k : ℕ) (w : List ℕ) → W (k ∷ w) ↔ W' (k ∷ w)) → Shifts has b W L N
      → Shifts has b W' L N
  same_shifts b W W' L N same p w = (
    λ n. ⊎_elim (λ s. inl (s.0, (s.1.0, s.1.1, (same s.1.0 w).0 s.1.2))) (λ s. inr s) ((p w).0 n),
    ⊎_elim (λ s. (p w).1 (inl (s.0, (s.1.0, s.1.1, (same s.1.0 w).1 s.1.2)))) (λ s. (p w).1 (inr s)),
  )

  empty_shifts : (b : Bool) → Shifts has b (λ w. w ≡ []) (λ w. ⊥) (λ w. ⊥)
  empty_shifts b =
      same_shifts b (λ w. ⊥) (λ w. w ≡ []) (λ w. ⊥) (λ w. ⊥) (λ k w. (λ v. absurd v, λ e. cons≢nil e)) (nothing_shifts b)

  optional_shifts : (b : Bool) (W L N : Language) → Shifts has b W L N → Shifts has b (λ w. (w ≡ []) ⊎ W w) L N
  optional_shifts b W L N p =
      same_shifts b W (λ w. (w ≡ []) ⊎ W w) L N (λ k w. (λ v. inr v, ⊎_elim (λ e. absurd (cons≢nil e)) (λ v. v))) p

  choice_shifts : (b : Bool) (W L N W' L' N' : Language) → Shifts has b W L N → Shifts has b W' L' N'
      → Shifts has b (λ w. W w ⊎ W' w) (λ w. L w ⊎ L' w) (λ w. N w ⊎ N' w)
  choice_shifts b W L N W' L' N' p q w = (there, back)
    where
      there : N w ⊎ N' w → ((b ≡ true) × AfterChild has (λ u. W u ⊎ W' u) w) ⊎ AfterChild has (λ u. L u ⊎ L' u) w
      there (inl n) =
          ⊎_elim (λ s. inl (s.0, (s.1.0, s.1.1, inl s.1.2))) (λ s. inr (s.0, s.1, inl s.2)) ((p w).0 n)
      there (inr n) =
          ⊎_elim (λ s. inl (s.0, (s.1.0, s.1.1, inr s.1.2))) (λ s. inr (s.0, s.1, inr s.2)) ((q w).0 n)

      begun : b ≡ true → (k : ℕ) → has k ≡ true → W (k ∷ w) ⊎ W' (k ∷ w) → N w ⊎ N' w
      begun e k h (inl v) = inl ((p w).1 (inl (e, (k, h, v))))
      begun e k h (inr v) = inr ((q w).1 (inl (e, (k, h, v))))

      later : (k : ℕ) → has k ≡ true → L (k ∷ w) ⊎ L' (k ∷ w) → N w ⊎ N' w
      later k h (inl l) = inl ((p w).1 (inr (k, h, l)))
      later k h (inr l) = inr ((q w).1 (inr (k, h, l)))

      back : ((b ≡ true) × AfterChild has (λ u. W u ⊎ W' u) w) ⊎ AfterChild has (λ u. L u ⊎ L' u) w → N w ⊎ N' w
      back (inl s) = begun s.0 s.1.0 s.1.1 s.1.2
      back (inr s) = later s.0 s.1 s.2

  -- n: the first operand has the word of no types; f: an old mark can end it
  sequence_shifts : (b n f : Bool) (W L N W' L' N' : Language) → HasNoTypes n W → HasNoTypes f L → Shifts has b W L N
      → Shifts has ((b && n) || f) W' L' N'
      → Shifts has b (Joined W W') (λ w. Joined L W' w ⊎ L' w) (λ w. Joined N W' w ⊎ N' w)
  sequence_shifts b n f W L N W' L' N' null fin p q w = (there, back)
    where
      left_of : AfterChild has (Joined L W') w → AfterChild has (λ u. Joined L W' u ⊎ L' u) w
      left_of a = (a.0, a.1, inl a.2)

      in_first : (j : Joined N W' w) → ((b ≡ true) × AfterChild has W j.front) ⊎ AfterChild has L j.front
          → ((b ≡ true) × AfterChild has (Joined W W') w) ⊎ AfterChild has (λ u. Joined L W' u ⊎ L' u) w
      in_first j (inl s) = inl (s.0, (after_joined W W' w).1 (inl (with_front (AfterChild has W) j s.1)))
      in_first j (inr a) = inr (left_of ((after_joined L W' w).1 (inl (with_front (AfterChild has L) j a))))

      in_later : AfterChild has W' w → ((b && n) ≡ true) ⊎ (f ≡ true)
          → ((b ≡ true) × AfterChild has (Joined W W') w) ⊎ AfterChild has (λ u. Joined L W' u ⊎ L' u) w
      in_later a (inl e) = inl (and_left b n e, (after_joined W W' w).1 (inr (null.0 (and_right b n e), a)))
      in_later a (inr e) = inr (left_of ((after_joined L W' w).1 (inr (fin.0 e, a))))

      there : Joined N W' w ⊎ N' w → ((b ≡ true) × AfterChild has (Joined W W') w) ⊎ AfterChild has (λ u. Joined L W' u ⊎ L' u) w
      there (inl j) = in_first j ((p j.front).0 j.front_in)
      there (inr m) =
          ⊎_elim (λ s. in_later s.1 (or_cases (b && n) f s.0)) (λ a. inr (a.0, a.1, inr a.2)) ((q w).0 m)

      begun : b ≡ true → Joined (AfterChild has W) W' w ⊎ (W [] × AfterChild has W' w) → Joined N W' w ⊎ N' w
      begun e (inl j) = inl (with_front N j ((p j.front).1 (inl (e, j.front_in))))
      begun e (inr s) = inr ((q w).1 (inl (or_left (b && n) f (and_intro b n e (null.1 s.0)), s.1)))

      going_on : Joined (AfterChild has L) W' w ⊎ (L [] × AfterChild has W' w) → Joined N W' w ⊎ N' w
      going_on (inl j) = inl (with_front N j ((p j.front).1 (inr j.front_in)))
      going_on (inr s) = inr ((q w).1 (inl (or_right (b && n) f (fin.1 s.0), s.1)))

      left : (k : ℕ) → has k ≡ true → Joined L W' (k ∷ w) ⊎ L' (k ∷ w) → Joined N W' w ⊎ N' w
      left k h (inl j) = going_on ((after_joined L W' w).0 (k, h, j))
      left k h (inr l) = inr ((q w).1 (inr (k, h, l)))

      back : ((b ≡ true) × AfterChild has (Joined W W') w) ⊎ AfterChild has (λ u. Joined L W' u ⊎ L' u) w → Joined N W' w ⊎ N' w
      back (inl s) = begun s.0 ((after_joined W W' w).0 s.1)
      back (inr a) = left a.0 a.1 a.2

  -- f: an old mark can end what is repeated
  repeated_shifts : (b f : Bool) (W L N : Language) → HasNoTypes f L → Shifts has (b || f) W L N
      → Shifts has b (RepeatedWords W) (Joined L (RepeatedWords W)) (Joined N (RepeatedWords W))
  repeated_shifts b f W L N fin p w = (λ j. there j ((p j.front).0 j.front_in), back)
    where
      begins : AfterChild has (RepeatedWords W) w → (b ≡ true) ⊎ (f ≡ true)
          → ((b ≡ true) × AfterChild has (RepeatedWords W) w) ⊎ AfterChild has (Joined L (RepeatedWords W)) w
      begins a (inl e) = inl (e, a)
      begins a (inr e) = inr ((after_joined L (RepeatedWords W) w).1 (inr (fin.0 e, a)))

      there : (j : Joined N (RepeatedWords W) w) → (((b || f) ≡ true) × AfterChild has W j.front) ⊎ AfterChild has L j.front
          → ((b ≡ true) × AfterChild has (RepeatedWords W) w) ⊎ AfterChild has (Joined L (RepeatedWords W)) w
      there j (inl s) = begins ((after_repeated W w).1 (with_front (AfterChild has W) j s.1)) (or_cases b f s.0)
      there j (inr a) = inr ((after_joined L (RepeatedWords W) w).1 (inl (with_front (AfterChild has L) j a)))

      begun : (b || f) ≡ true → Joined (AfterChild has W) (RepeatedWords W) w → Joined N (RepeatedWords W) w
      begun e j = with_front N j ((p j.front).1 (inl (e, j.front_in)))

      going_on : Joined (AfterChild has L) (RepeatedWords W) w ⊎ (L [] × AfterChild has (RepeatedWords W) w) → Joined N (RepeatedWords W) w
      going_on (inl j) = with_front N j ((p j.front).1 (inr j.front_in))
      going_on (inr s) = begun (or_right b f (fin.1 s.0)) ((after_repeated W w).0 s.1)

      back : ((b ≡ true) × AfterChild has (RepeatedWords W) w) ⊎ AfterChild has (Joined L (RepeatedWords W)) w → Joined N (RepeatedWords W) w
      back (inl s) = begun (or_left b f s.0) ((after_repeated W w).0 s.1)
      back (inr a) = going_on ((after_joined L (RepeatedWords W) w).0 a)

  -- one or more of them has the words with types that any number of them has
  more_shifts : (b f : Bool) (W L N : Language) → HasNoTypes f L → Shifts has (b || f) W L N
      → Shifts has b (Joined W (RepeatedWords W)) (Joined L (RepeatedWords W)) (Joined N (RepeatedWords W))
  more_shifts b f W L N fin p =
      same_shifts b (RepeatedWords W) (Joined W (RepeatedWords W)) (Joined L (RepeatedWords W)) (Joined N (RepeatedWords W))
      (λ k w. (λ r. once k w r refl, joined_repeated))
      (repeated_shifts b f W L N fin p)
    where
      once : (k : ℕ) (w : List ℕ) {x : List ℕ} → RepeatedWords W x → x ≡ k ∷ w → Joined W (RepeatedWords W) x
      once k w no_more e = absurd (nil≢cons e)
      once k w (one_more {u = u} {v = v} l r) e = record { front = u; back = v; joined = refl; front_in = l; back_in = r }

-- with the words of the operands behind, or of what is repeated, read off the shifted marks
mutual
  unfolding shift

  pub shift_word : (m : MContent) (b : Bool) (has : ℕ → Bool) → Shifts has b (Word (plain m)) (Left m) (Left (shift m b has))
  shift_word noneᵐ b has = nothing_shifts has b
  shift_word emptyᵐ b has = empty_shifts has b
  shift_word (typeᵐ mark k) b has = type_shifts has b mark k
  shift_word (sequenceᵐ ms) b has = λ w. shift_in_turn_lem ms b has w
  shift_word (choiceᵐ ms) b has = λ w. shift_of_one ms b has w
  shift_word (any_numberᵐ m) b has =
      let n : MContent = shift m (b || final m) has in
      subst (λ (c : Content). Shifts has b (Word (any_number (plain m))) (Left (any_numberᵐ m)) (Joined (Left n) (RepeatedWords (Word c))))
      (sym (plain-shift m (b || final m) has))
      (repeated_shifts has b (final m) (Word (plain m)) (Left m) (Left n) (final_word m) (λ w. shift_word m (b || final m) has w))
  shift_word (one_or_moreᵐ m) b has =
      let n : MContent = shift m (b || final m) has in
      subst (λ (c : Content). Shifts has b (Word (one_or_more (plain m))) (Left (one_or_moreᵐ m)) (Joined (Left n) (RepeatedWords (Word c))))
      (sym (plain-shift m (b || final m) has))
      (more_shifts has b (final m) (Word (plain m)) (Left m) (Left n) (final_word m) (λ w. shift_word m (b || final m) has w))
  shift_word (optionalᵐ m) b has =
      optional_shifts has b (Word (plain m)) (Left m) (Left (shift m b has)) (λ w. shift_word m b has w)

  pub shift_in_turn_lem : (ms : MContents) (b : Bool) (has : ℕ → Bool)
      → Shifts has b (InTurn (plain_all ms)) (LeftInTurn ms) (LeftInTurn (shift_in_turn ms b has))
  shift_in_turn_lem []ᵐ b has = empty_shifts has b
  shift_in_turn_lem (m ∷ᵐ ms) b has =
      let c : Bool = (b && nullable (plain m)) || final m in
      subst (λ (cs : Contents).
      Shifts has b (InTurn (plain_all (m ∷ᵐ ms))) (LeftInTurn (m ∷ᵐ ms))
      (λ w. Joined (Left (shift m b has)) (InTurn cs) w ⊎ LeftInTurn (shift_in_turn ms c has) w))
      (sym (plain_all-shift_in_turn ms c has))
      (sequence_shifts has b (nullable (plain m)) (final m) (Word (plain m)) (Left m) (Left (shift m b has)) (InTurn (plain_all ms))
      (LeftInTurn ms)
      (LeftInTurn (shift_in_turn ms c has))
      (nullable_word (plain m))
      (final_word m)
      (λ w. shift_word m b has w)
      (λ w. shift_in_turn_lem ms c has w))

  pub shift_of_one : (ms : MContents) (b : Bool) (has : ℕ → Bool)
      → Shifts has b (OfOne (plain_all ms)) (LeftOfOne ms) (LeftOfOne (shift_each ms b has))
  shift_of_one []ᵐ b has = nothing_shifts has b
  shift_of_one (m ∷ᵐ ms) b has =
      choice_shifts has b (Word (plain m)) (Left m) (Left (shift m b has)) (OfOne (plain_all ms)) (LeftOfOne ms)
      (LeftOfOne (shift_each ms b has))
      (λ w. shift_word m b has w)
      (λ w. shift_of_one ms b has w)
