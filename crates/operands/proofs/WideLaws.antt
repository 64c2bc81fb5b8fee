-- When operands do not fit, nothing that comes after them makes them fit:
--   wide_more, wide_gathered : more operands do not
--   wide_choice  the choice of them does not; unfit_first, unfit_others : nor does a row in which it stands
--   wide_sequence, wide_single : nor do operands with a sequence, a repetition or an option of it
--   too_large    the finished content is too large
use Prim.Native.Nat.{ℕ, suc, ◌+◌, ◌≤◌, ◌<◌}
use native.Mathlib.Omega.{arith}
use mathlib.Core.Bool.{true, ◌||◌}
use mathlib.Core.List.Memᴰ
use mathlib.Core.List.{List, [], ◌∷◌, ◌++◌, Memᴰ}
use mathlib.Core.Logic.{⊎_elim}
use mathlib.Core.Path.{◌≡◌, refl, sym, ◌∙◌, ap, subst}
use lib.ListN.{length, length-append}
use lib.Dec.{ltb}
use borrow.Author.Tests.{lt-ltb}
use Rattle.grammar.specs.Lists.{distinct}
use Rattle.grammar.specs.Limits.{large, content_limit, operand_limit, nesting_limit}
use Rattle.grammar.specs.Content.{Content, sequence, any_number, one_or_more, optional, Contents, []ᶜ, ◌∷ᶜ◌, nesting, operands, choice_of}
use Rattle.grammar.specs.ReadContent.{content_bytes, operand_bytes, same_content}
use Rattle.grammar.specs.Size.{widest_choice, widest_of, content_too_large}
use Rattle.theory.specs.Alternatives.{one_content, gathered}
use Rattle.theory.proofs.Lists.BoolLaws.{or_left, or_right}
use Rattle.theory.proofs.Lists.ListLaws.{distinct_has}
use Rattle.theory.proofs.Contents.ContentBytes.{same_content_lem}
use Rattle.theory.proofs.Emission.GatheringLaws.{gathered_so, gather_more, gather_grows, written_gathered}
use Rattle.theory.proofs.Contents.CountedContents.{operands_count}
use Rattle.operands.specs.Drafts.{Unfit, long, wide, TooWide, unfit, many}

-- the bytes and the widest choice of operands
abbrev bytes_of : List Content → ℕ
bytes_of xs = length (operand_bytes (operands xs))

abbrev widest_in : List Content → ℕ
widest_in xs = widest_of (operands xs)

more_bytes : (xs ys : List Content) → bytes_of xs ≤ bytes_of (xs ++ ys)
unfolding operands operand_bytes
more_bytes [] ys = omega arith
more_bytes (x ∷ xs) ys =
    let a = length-append (content_bytes x) (operand_bytes (operands xs)) in
    let b = length-append (content_bytes x) (operand_bytes (operands (xs ++ ys))) in
    let h = more_bytes xs ys in
    omega arith

more_wide : (xs ys : List Content) → widest_in xs ≤ widest_in (xs ++ ys)
unfolding operands widest_of
more_wide [] ys = omega arith
more_wide (x ∷ xs) ys = let h = more_wide xs ys in omega arith

pub unfit_more : (room : ℕ) (xs ys : List Content) → Unfit room (operands xs) → Unfit room (operands (xs ++ ys))
unfit_more room xs ys (long h) = let l = more_bytes xs ys in long (omega arith)
unfit_more room xs ys (wide h) = let l = more_wide xs ys in wide (omega arith)

pub wide_more : (room : ℕ) (xs ys : List Content) → TooWide room xs → TooWide room (xs ++ ys)
wide_more room xs ys (unfit h) = unfit (unfit_more room xs ys h)
wide_more room xs ys (many h) = let l = length-append xs ys in many (omega arith)

pub wide_gathered : (room : ℕ) (ds xs ys : List Content) → TooWide room (gathered ds xs) → TooWide room (gathered ds (xs ++ ys))
wide_gathered room ds xs ys h =
    let g = gather_grows (gathered ds xs) (gathered_so ds xs) ys in
    subst (TooWide room) (sym g.1 ∙ gather_more ds xs ys) (wide_more room (gathered ds xs) g.0 h)

-- an operand among operands
mem_bytes : {x : Content} (xs : List Content) → Memᴰ x xs → length (content_bytes x) ≤ bytes_of xs
unfolding operands operand_bytes
mem_bytes [] m = elim m [ ]
mem_bytes {x} (y ∷ ys) m =
    let l = length-append (content_bytes y) (operand_bytes (operands ys)) in
    ⊎_elim (λ e. let q = ap (λ (c : Content). length (content_bytes c)) e in omega arith)
    (λ n. let h = mem_bytes ys n in omega arith)
    (Memᴰ.cases_cons m)

mem_wide : {x : Content} (xs : List Content) → Memᴰ x xs → widest_choice x ≤ widest_in xs
unfolding operands widest_of
mem_wide [] m = elim m [ ]
mem_wide {x} (y ∷ ys) m =
    ⊎_elim (λ e. let q = ap widest_choice e in omega arith) (λ n. let h = mem_wide ys n in omega arith) (Memᴰ.cases_cons m)

gathered_mem : (ds : List Content) (x : Content) → Memᴰ x (gathered ds (x ∷ []))
unfolding gathered
gathered_mem ds x =
    let r =
    distinct_has same_content (λ c. (same_content_lem c c).1 refl)
    (λ a b c p q. (same_content_lem a c).1 ((same_content_lem a b).0 p ∙ (same_content_lem b c).0 q))
    (Memᴰ.append_right ds (Memᴰ.head {x = x} {xs = []} refl)) in
    subst (λ (c : Content). Memᴰ c (distinct same_content (ds ++ (x ∷ [])))) ((same_content_lem r.0 x).0 r.2) r.1

-- one content that does not fit
pub wide_one : (room : ℕ) (ds : List Content) (x : Content) → Unfit room (x ∷ᶜ []ᶜ) → TooWide room (gathered ds (x ∷ []))
unfolding operand_bytes widest_of
wide_one room ds x (long h) =
    let l = length-append (content_bytes x) [] in
    let m = mem_bytes (gathered ds (x ∷ [])) (gathered_mem ds x) in
    unfit (long (omega arith))
wide_one room ds x (wide h) =
    let m = mem_wide (gathered ds (x ∷ [])) (gathered_mem ds x) in
    unfit (wide (omega arith))

-- the choice of some contents
choice_bytes : (xs : List Content) → bytes_of xs ≤ length (content_bytes (choice_of xs))
unfolding choice_of operands content_bytes
choice_bytes [] = omega arith
choice_bytes (x ∷ []) = let l = length-append (content_bytes x) [] in omega arith
choice_bytes (x ∷ y ∷ ys) = omega arith

choice_wide : (xs : List Content) → widest_in xs ≤ widest_choice (choice_of xs)
unfolding choice_of operands widest_choice
choice_wide [] = omega arith
choice_wide (x ∷ []) = omega arith
choice_wide (x ∷ y ∷ ys) = omega arith

choice_many : (xs : List Content) → operand_limit < length xs → operand_limit < widest_choice (choice_of xs)
unfolding choice_of operands widest_choice
choice_many [] h = absurd (omega arith)
choice_many (x ∷ []) h = absurd (omega arith)
choice_many (x ∷ y ∷ ys) h = let n = operands_count (x ∷ y ∷ ys) in omega arith

pub one_long : (room : ℕ) (c : Content) → room < length (content_bytes c) → Unfit room (c ∷ᶜ []ᶜ)
unfolding operand_bytes
one_long room c h = let l = length-append (content_bytes c) [] in long (omega arith)

pub one_wide : (room : ℕ) (c : Content) → operand_limit < widest_choice c → Unfit room (c ∷ᶜ []ᶜ)
unfolding widest_of
one_wide room c h = wide (omega arith)

pub wide_choice : (room : ℕ) (xs : List Content) → TooWide room xs → Unfit room (choice_of xs ∷ᶜ []ᶜ)
wide_choice room xs (unfit (long h)) = let l = choice_bytes xs in one_long room (choice_of xs) (omega arith)
wide_choice room xs (unfit (wide h)) = let l = choice_wide xs in one_wide room (choice_of xs) (omega arith)
wide_choice room xs (many h) = one_wide room (choice_of xs) (choice_many xs h)

-- a row: its first does not fit, or the others do not in what the first leaves
pub unfit_first : (room : ℕ) (c : Content) (cs : Contents) → Unfit room (c ∷ᶜ []ᶜ) → Unfit room (c ∷ᶜ cs)
unfolding operand_bytes widest_of
unfit_first room c cs (long h) =
    let k = length-append (content_bytes c) [] in
    let l = length-append (content_bytes c) (operand_bytes cs) in
    long (omega arith)
unfit_first room c cs (wide h) = wide (omega arith)

pub unfit_others : (room less : ℕ) (c : Content) (cs : Contents) → room ≤ less + length (content_bytes c) → Unfit less cs
    → Unfit room (c ∷ᶜ cs)
unfolding operand_bytes widest_of
unfit_others room less c cs e (long h) = let l = length-append (content_bytes c) (operand_bytes cs) in long (omega arith)
unfit_others room less c cs e (wide h) = wide (omega arith)

pub unfit_less : (room less : ℕ) (cs : Contents) → less ≤ room → Unfit room cs → Unfit less cs
unfit_less room less cs e (long h) = long (omega arith)
unfit_less room less cs e (wide h) = wide h

-- an operator around contents that do not fit after its bytes
unfit_sequence : (room less : ℕ) (cs : Contents) → room ≤ less + 2 → Unfit less cs → Unfit room (sequence cs ∷ᶜ []ᶜ)
unfolding content_bytes widest_choice
unfit_sequence room less cs e (long h) = one_long room (sequence cs) (omega arith)
unfit_sequence room less cs e (wide h) = one_wide room (sequence cs) h

pub wide_sequence : (room less : ℕ) (ds : List Content) (cs : Contents) → room ≤ less + 2 → Unfit less cs
    → TooWide room (gathered ds (sequence cs ∷ []))
wide_sequence room less ds cs e h = wide_one room ds (sequence cs) (unfit_sequence room less cs e h)

-- operators of one operand: one byte, and no wider
pub record Around (f : Content → Content) : Type 0 where
  pub bytes : (c : Content) → length (content_bytes (f c)) ≡ suc (length (content_bytes c))
  pub widest : (c : Content) → widest_choice (f c) ≡ widest_choice c

pub around_any_number : Around any_number
unfolding content_bytes widest_choice
around_any_number = record { bytes = λ c. refl; widest = λ c. refl }

pub around_one_or_more : Around one_or_more
unfolding content_bytes widest_choice
around_one_or_more = record { bytes = λ c. refl; widest = λ c. refl }

pub around_optional : Around optional
unfolding content_bytes widest_choice
around_optional = record { bytes = λ c. refl; widest = λ c. refl }

unfit_single : (room less : ℕ) (f : Content → Content) (c : Content) → Around f → room ≤ less + 1 → Unfit less (c ∷ᶜ []ᶜ)
    → Unfit room (f c ∷ᶜ []ᶜ)
unfolding operand_bytes widest_of
unfit_single room less f c a e (long h) =
    let l = length-append (content_bytes c) [] in
    let b = a.bytes c in
    one_long room (f c) (omega arith)
unfit_single room less f c a e (wide h) = let w = a.widest c in one_wide room (f c) (omega arith)

pub wide_single : (room less : ℕ) (ds : List Content) (f : Content → Content) (c : Content) → Around f → room ≤ less + 1
    → Unfit less (c ∷ᶜ []ᶜ) → TooWide room (gathered ds (f c ∷ []))
wide_single room less ds f c a e h = wide_one room ds (f c) (unfit_single room less f c a e h)

-- so the finished content is too large
pub unfit_large : (c : Content) → Unfit content_limit (c ∷ᶜ []ᶜ) → content_too_large large c ≡ true
unfolding content_too_large large operand_bytes widest_of
unfit_large c (long h) =
    let l = length-append (content_bytes c) [] in
    or_left (ltb content_limit (length (content_bytes c)) || ltb nesting_limit (nesting c)) (ltb operand_limit (widest_choice c))
    (or_left (ltb content_limit (length (content_bytes c))) (ltb nesting_limit (nesting c)) (lt-ltb content_limit (length (content_bytes c)) (omega arith)))
unfit_large c (wide h) =
    or_right (ltb content_limit (length (content_bytes c)) || ltb nesting_limit (nesting c)) (ltb operand_limit (widest_choice c))
    (lt-ltb operand_limit (widest_choice c) (omega arith))

pub too_large : (xs ys : List Content) → TooWide content_limit (gathered [] xs) → content_too_large large (one_content (xs ++ ys)) ≡ true
too_large xs ys h =
    unfit_large (one_content (xs ++ ys))
    (subst (λ (c : Content). Unfit content_limit (c ∷ᶜ []ᶜ)) (sym (written_gathered (xs ++ ys)))
    (wide_choice content_limit (gathered [] (xs ++ ys)) (wide_gathered content_limit [] xs ys h)))
