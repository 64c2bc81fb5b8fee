-- Samples of documents, computed: the order of types and labels, distinct child sequences, one name on several paths, runs.
use Prim.Native.String.{String}
use mathlib.Core.List.{List, [], ◌∷◌, map}
use mathlib.Core.Path.{◌≡◌, refl}
use lib.ListN.{get_or}
use Rattle.grammar.specs.Content.{Content, empty, type, sequence, choice, one_or_more, []ᶜ, ◌∷ᶜ◌}
use Rattle.grammar.specs.Tree.{Tree}
use Rattle.grammar.specs.Table.{Rule}
use Rattle.grammar.specs.Sample.{sample}
use Rattle.grammar.proofs.Builders.{rule, starting_at0, tree}

-- list(card(name, zone), card(name), card(name, zone), door)
cards : Tree
unfolding tree
cards =
    tree "list"
    (tree "card" (tree "name" [] ∷ tree "zone" [] ∷ [])
    ∷ tree "card" (tree "name" [] ∷ [])
    ∷ tree "card" (tree "name" [] ∷ tree "zone" [] ∷ [])
    ∷ tree "door" []
    ∷ [])

-- types in the order of the file, a node's children before its next sibling; of equal child sequences the first
cards_sample :
    sample cards
    ≡ starting_at0 ("list" ∷ "card" ∷ "name" ∷ "zone" ∷ "door" ∷ [])
    (rule 0 0 (sequence (one_or_more (type 1) ∷ᶜ type 4 ∷ᶜ []ᶜ))
    ∷ rule 1 1 (choice (sequence (type 2 ∷ᶜ type 3 ∷ᶜ []ᶜ) ∷ᶜ type 2 ∷ᶜ []ᶜ))
    ∷ rule 2 2 empty
    ∷ rule 3 3 empty
    ∷ rule 4 4 empty
    ∷ [])
unfolding sample cards starting_at0
cards_sample = refl

-- a(b(c), c(b)): one name on two paths is two types
crossed : Tree
unfolding tree
crossed = tree "a" (tree "b" (tree "c" [] ∷ []) ∷ tree "c" (tree "b" [] ∷ []) ∷ [])

crossed_sample :
    sample crossed
    ≡ starting_at0 ("a" ∷ "b" ∷ "c" ∷ [])
    (rule 0 0 (sequence (type 1 ∷ᶜ type 3 ∷ᶜ []ᶜ))
    ∷ rule 1 1 (type 2)
    ∷ rule 2 2 empty
    ∷ rule 3 2 (type 4)
    ∷ rule 4 1 empty
    ∷ [])
unfolding sample crossed starting_at0
crossed_sample = refl

-- what the children of these names, at one node, make of its content: types by first sight, from 1
content : List String → Content
unfolding tree sample
content names = get_or (map (λ (r : Rule). r.content) (sample (tree "list" (map (λ n. tree n []) names))).rules) 0 empty

-- a run first, last and in the middle; a run that is all; two runs of one name are two
run_first : content ("a" ∷ "a" ∷ "b" ∷ []) ≡ sequence (one_or_more (type 1) ∷ᶜ type 2 ∷ᶜ []ᶜ)
unfolding content
run_first = refl

run_last : content ("a" ∷ "b" ∷ "b" ∷ "b" ∷ []) ≡ sequence (type 1 ∷ᶜ one_or_more (type 2) ∷ᶜ []ᶜ)
unfolding content
run_last = refl

run_within : content ("a" ∷ "b" ∷ "B" ∷ "a" ∷ []) ≡ sequence (type 1 ∷ᶜ one_or_more (type 2) ∷ᶜ type 1 ∷ᶜ []ᶜ)
unfolding content
run_within = refl

run_whole : content ("a" ∷ "a" ∷ []) ≡ one_or_more (type 1)
unfolding content
run_whole = refl

runs_parted : content ("a" ∷ "a" ∷ "b" ∷ "a" ∷ "a" ∷ []) ≡ sequence (one_or_more (type 1) ∷ᶜ type 2 ∷ᶜ one_or_more (type 1) ∷ᶜ []ᶜ)
unfolding content
runs_parted = refl

runs_together : content ("a" ∷ "a" ∷ "b" ∷ "b" ∷ []) ≡ sequence (one_or_more (type 1) ∷ᶜ one_or_more (type 2) ∷ᶜ []ᶜ)
unfolding content
runs_together = refl

-- list(card(key), card(key, key), card(key, key, key)): two and three are one sequence, one is another
counts : Tree
unfolding tree
counts =
    tree "list"
    (tree "card" (tree "key" [] ∷ [])
    ∷ tree "card" (tree "key" [] ∷ tree "key" [] ∷ [])
    ∷ tree "card" (tree "key" [] ∷ tree "key" [] ∷ tree "key" [] ∷ [])
    ∷ [])

counts_sample :
    sample counts
    ≡ starting_at0 ("list" ∷ "card" ∷ "key" ∷ [])
    (rule 0 0 (one_or_more (type 1)) ∷ rule 1 1 (choice (type 2 ∷ᶜ one_or_more (type 2) ∷ᶜ []ᶜ)) ∷ rule 2 2 empty ∷ [])
unfolding sample counts starting_at0
counts_sample = refl
