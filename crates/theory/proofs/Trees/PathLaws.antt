-- Equality of paths is an equivalence, and goes by the last name and the path above:
--     path_refl, path_sym, path_trans
--     path_parts     equal paths have equal last names, and equal paths above them
--     path_append    and so they are equal
use mathlib.Core.Bool.{true, false, false≢true}
use mathlib.Core.List.{List, [], ◌∷◌, ◌++◌}
use mathlib.Core.Path.{◌≡◌, refl}
use Rattle.grammar.specs.Names.{Name, same_name, SameName}
use Rattle.grammar.specs.Sample.{same_path}
use Rattle.theory.proofs.Lists.BoolLaws.{and_left, and_right, and_intro}
use Rattle.theory.proofs.Trees.NameLaws.{name_refl, name_sym, name_trans}

abbrev pub SamePath : List Name → List Name → Type 0
SamePath p q = same_path p q ≡ true

pub path_refl : (p : List Name) → SamePath p p
unfolding same_path
path_refl [] = refl
path_refl (n ∷ p) = and_intro (same_name n n) (same_path p p) (name_refl n) (path_refl p)

pub path_sym : (p q : List Name) → SamePath p q → SamePath q p
unfolding same_path
path_sym [] [] e = refl
path_sym [] (n ∷ q) e = absurd (false≢true e)
path_sym (m ∷ p) [] e = absurd (false≢true e)
path_sym (m ∷ p) (n ∷ q) e =
    and_intro (same_name n m) (same_path q p) (name_sym m n (and_left (same_name m n) (same_path p q) e))
    (path_sym p q (and_right (same_name m n) (same_path p q) e))

pub path_trans : (p q r : List Name) → SamePath p q → SamePath q r → SamePath p r
unfolding same_path
path_trans [] [] r e f = f
path_trans [] (n ∷ q) r e f = absurd (false≢true e)
path_trans (m ∷ p) [] r e f = absurd (false≢true e)
path_trans (m ∷ p) (n ∷ q) [] e f = absurd (false≢true f)
path_trans (m ∷ p) (n ∷ q) (o ∷ r) e f =
    and_intro (same_name m o) (same_path p r)
    (name_trans m n o (and_left (same_name m n) (same_path p q) e) (and_left (same_name n o) (same_path q r) f))
    (path_trans p q r (and_right (same_name m n) (same_path p q) e) (and_right (same_name n o) (same_path q r) f))

pub path_parts : (p q : List Name) (m n : Name) → SamePath (p ++ (m ∷ [])) (q ++ (n ∷ [])) → SamePath p q × SameName m n
unfolding same_path
path_parts [] [] m n e = (refl, and_left (same_name m n) true e)
path_parts [] (b ∷ []) m n e = absurd (false≢true (and_right (same_name m b) false e))
path_parts [] (b ∷ c ∷ q) m n e = absurd (false≢true (and_right (same_name m b) false e))
path_parts (a ∷ []) [] m n e = absurd (false≢true (and_right (same_name a n) false e))
path_parts (a ∷ b ∷ p) [] m n e = absurd (false≢true (and_right (same_name a n) false e))
path_parts (a ∷ p) (b ∷ q) m n e =
    let same = same_name a b in
    let rest = same_path (p ++ (m ∷ [])) (q ++ (n ∷ [])) in
    let r = path_parts p q m n (and_right same rest e) in
    (and_intro same (same_path p q) (and_left same rest e) r.0, r.1)

pub path_append : (p q : List Name) (m n : Name) → SamePath p q → SameName m n → SamePath (p ++ (m ∷ [])) (q ++ (n ∷ []))
unfolding same_path
path_append [] [] m n e f = and_intro (same_name m n) true f refl
path_append [] (b ∷ q) m n e f = absurd (false≢true e)
path_append (a ∷ p) [] m n e f = absurd (false≢true e)
path_append (a ∷ p) (b ∷ q) m n e f =
    let same = same_name a b in
    and_intro same (same_path (p ++ (m ∷ [])) (q ++ (n ∷ []))) (and_left same (same_path p q) e)
    (path_append p q m n (and_right same (same_path p q) e) f)
