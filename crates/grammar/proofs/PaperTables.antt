-- The tables and documents of the paper's cases P1 to P8.
use Prim.Native.Nat.{ℕ}
use mathlib.Core.List.{List, [], ◌∷◌}
use Rattle.grammar.specs.Content.{empty, type, sequence, choice, []ᶜ, ◌∷ᶜ◌}
use Rattle.grammar.specs.Tree.{Tree}
use Rattle.grammar.specs.Stages.{empty_input}
use Rattle.grammar.specs.Table.{Table}
use Rattle.grammar.proofs.Builders.{rule, starting_at0, tree}

-- P1: a table of 17 bytes
unfoldable pub p1_bytes : List ℕ
p1_bytes = 0x10 ∷ 0x00 ∷ 0x01 ∷ 0x61 ∷ 0x11 ∷ 0x00 ∷ 0x01 ∷ 0x00 ∷ 0x12 ∷ 0x00 ∷ 0x03 ∷ 0x00 ∷ 0x00 ∷ 0x01 ∷ 0x1F ∷ 0x00 ∷ 0x00 ∷ []

unfoldable pub p1_table : Table
unfolding starting_at0
p1_table = starting_at0 ("a" ∷ []) (rule 0 0 empty ∷ [])

-- P2: what it lets in
unfoldable pub p2_bytes : List ℕ
p2_bytes = 0x30 ∷ 0x00 ∷ 0x02 ∷ 0x00 ∷ 0x61 ∷ 0x3F ∷ 0x00 ∷ 0x00 ∷ []

unfoldable pub p2_document : Tree
unfolding tree
p2_document = tree "a" []

-- E: the end field alone
unfoldable pub e_bytes : List ℕ
e_bytes = empty_input.bytes

-- P5: block[floor, lift], floor[door 1], lift[door 2], door 1[time], door 2[code], both leaves empty
unfoldable pub p5_table : Table
unfolding starting_at0
p5_table =
    starting_at0 ("block" ∷ "floor" ∷ "lift" ∷ "door" ∷ "time" ∷ "code" ∷ [])
    (rule 0 0 (sequence (type 1 ∷ᶜ type 2 ∷ᶜ []ᶜ))
    ∷ rule 1 1 (type 3)
    ∷ rule 2 2 (type 4)
    ∷ rule 3 3 (type 5)
    ∷ rule 4 3 (type 6)
    ∷ rule 5 4 empty
    ∷ rule 6 5 empty
    ∷ [])

-- one type a label: the two doors are merged
unfoldable pub p5_local : Table
unfolding starting_at0
p5_local =
    starting_at0 ("block" ∷ "floor" ∷ "lift" ∷ "door" ∷ "time" ∷ "code" ∷ [])
    (rule 0 0 (sequence (type 1 ∷ᶜ type 2 ∷ᶜ []ᶜ))
    ∷ rule 1 1 (type 3)
    ∷ rule 2 2 (type 3)
    ∷ rule 3 3 (choice (type 4 ∷ᶜ type 5 ∷ᶜ []ᶜ))
    ∷ rule 4 4 empty
    ∷ rule 5 5 empty
    ∷ [])

-- block(floor(door(code)), lift(door(time)))
unfoldable pub p5_document : Tree
unfolding tree
p5_document =
    tree "block"
    (tree "floor" (tree "door" (tree "code" [] ∷ []) ∷ []) ∷ tree "lift" (tree "door" (tree "time" [] ∷ []) ∷ []) ∷ [])

-- P6: t0 group (t1,t1), t1 group t2, t2 card ()
unfoldable pub p6_table : Table
unfolding starting_at0
p6_table =
    starting_at0 ("group" ∷ "card" ∷ [])
    (rule 0 0 (sequence (type 1 ∷ᶜ type 1 ∷ᶜ []ᶜ)) ∷ rule 1 0 (type 2) ∷ rule 2 1 empty ∷ [])

-- t0 group ((t0,t0)|t1), t1 card ()
unfoldable pub p6_local : Table
unfolding starting_at0
p6_local =
    starting_at0 ("group" ∷ "card" ∷ [])
    (rule 0 0 (choice (sequence (type 0 ∷ᶜ type 0 ∷ᶜ []ᶜ) ∷ᶜ type 1 ∷ᶜ []ᶜ)) ∷ rule 1 1 empty ∷ [])

-- P7: t0 list ((t1,t2)|t3), t1 door t4, t2 card t2, t3 door t5, t4 time (), t5 code ()
unfoldable pub p7_table : Table
unfolding starting_at0
p7_table =
    starting_at0 ("list" ∷ "door" ∷ "card" ∷ "time" ∷ "code" ∷ [])
    (rule 0 0 (choice (sequence (type 1 ∷ᶜ type 2 ∷ᶜ []ᶜ) ∷ᶜ type 3 ∷ᶜ []ᶜ))
    ∷ rule 1 1 (type 4)
    ∷ rule 2 2 (type 2)
    ∷ rule 3 1 (type 5)
    ∷ rule 4 3 empty
    ∷ rule 5 4 empty
    ∷ [])

-- t0 list t1, t1 door t2, t2 code ()
unfoldable pub p7_result : Table
unfolding starting_at0
p7_result = starting_at0 ("list" ∷ "door" ∷ "code" ∷ []) (rule 0 0 (type 1) ∷ rule 1 1 (type 2) ∷ rule 2 2 empty ∷ [])

-- P8: t0 list t1, t1 door (), t1 lift ()
unfoldable pub p8_table : Table
unfolding starting_at0
p8_table = starting_at0 ("list" ∷ "door" ∷ "lift" ∷ []) (rule 0 0 (type 1) ∷ rule 1 1 empty ∷ rule 1 2 empty ∷ [])

-- t0 list (t1|t2), t1 door (), t2 lift ()
unfoldable pub p8_result : Table
unfolding starting_at0
p8_result =
    starting_at0 ("list" ∷ "door" ∷ "lift" ∷ [])
    (rule 0 0 (choice (type 1 ∷ᶜ type 2 ∷ᶜ []ᶜ)) ∷ rule 1 1 empty ∷ rule 2 2 empty ∷ [])
