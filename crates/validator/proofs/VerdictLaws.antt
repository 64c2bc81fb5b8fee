-- The public calls of the validator, case by case: too few working words; a table or a document that is refused; the test itself.
use Rattle.reader.specs.declared.index.TableIndex.{TableIndex}
use Prim.Native.Nat.{ℕ, ◌≤◌, ◌<◌}
use mathlib.Core.Bool.{Bool, false}
use mathlib.Core.List.{List, []}
use mathlib.Core.Path.{◌≡◌, sym, ◌∙◌, ap}
use lib.ListN.{length}
use Rattle.grammar.specs.Limits.{Limits, NoneAbove, large}
use Rattle.grammar.specs.Names.{Classes, loads, Loads}
use Rattle.grammar.specs.Table.{Table}
use Rattle.grammar.specs.Tree.{Tree}
use Rattle.grammar.specs.Kinds.{Kind}
use Rattle.std.specs.Prelude.{Result, Ok, Err}
use Rattle.grammar.specs.Outcome.{◌>>=◌}
use Rattle.grammar.specs.Answers.{verdict_numbers, numbers_of, bit, verdict}
use Rattle.grammar.specs.Calls.{work_after, after, answered, table_reads, table_lets_in, table_is_of_kind}
use Rattle.grammar.specs.Promises.{Membership, KindTest}
use Rattle.grammar.specs.ReadTable.{read_table}
use Rattle.grammar.specs.ReadDocument.{tree_of}
use Rattle.grammar.specs.Documents.{read_document}
use Rattle.grammar.specs.Membership.{lets_in}
use Rattle.grammar.specs.KindTests.{is_of_kind}
use Rattle.grammar.specs.declared.Format.{Format}
use Rattle.grammar.specs.declared.Refusal.{Refusal}
use Rattle.grammar.specs.declared.Refusal.TheVariants.{WorkTooShort, BadClasses}
use Rattle.theory.proofs.Bytes.OutcomeLaws.{given_then}
use Rattle.theory.proofs.Theorems.AnswerNumbers.{verdict_numbers_lem}
use Rattle.theory.proofs.Theorems.CallPromises.{membership, kind_test, lent_short, lent_enough, loaded, loaded_is, loaded_then, unloaded_is}
use Rattle.reader.specs.TableIndex.{Reads}
use Rattle.reader.specs.Held.{Held}
use Rattle.reader.proofs.CallLaws.{left_as, left_short}
use Rattle.reader.proofs.TableFoundLaws.{TableFound, table_found, table_refused, held_roomier}
use Rattle.documents.specs.DocumentNodes.{DocumentReads, nodes_in}
use Rattle.documents.specs.declared.documents.DocumentIndex.{DocumentIndex}
use Rattle.documents.proofs.DocumentTrees.{complete}
use Rattle.documents.proofs.DocumentAnswers.{document_tree, nodes_read, document_unread}
use Rattle.node_types.specs.KnownDocument.{KnownNodes}
use Rattle.validator.specs.Deciding.{lets_in_of, is_of_kind_of}

-- what a call leaves, by its outcome where there is enough working memory
module _ (lim : Limits) (o : Result Bool Refusal) (work : List ℕ) where
  unanswered : o ≡ Err WorkTooShort → length work < lim.words
      → after (verdict_numbers (Err WorkTooShort)) [] work ≡ answered lim bit o work
  unfolding verdict_numbers
  unanswered e h = left_short lim bit o work h e

  so_answered : (same : Result Bool Refusal) → o ≡ same → (left : List ℕ) → left ≡ work_after lim work → (answer : Result Bool Refusal)
      → answer ≡ verdict same → after (verdict_numbers answer) [] left ≡ answered lim bit o work
  so_answered same e left w answer a =
      left_as lim bit o work (verdict_numbers answer) left (ap verdict_numbers a ∙ verdict_numbers_lem same ∙ ap (numbers_of bit) (sym e)) w

-- letting in
module _ (lim : Limits) (classes : Classes) (table : List ℕ) (format : Format) (document : List ℕ) where
  lets_in_short : (work : List ℕ) → length work < lim.words → table_lets_in lim classes table format document work ≡ Err WorkTooShort
  unfolding table_lets_in table_reads
  lets_in_short work h =
      ap (λ (o : Result Table Refusal). o >>= λ g. (read_document lim classes format document >>= λ d. Ok (lets_in g d)))
      (lent_short lim work (loaded classes (read_table lim classes table)) h)

  lets_in_enough : (work : List ℕ) → lim.words ≤ length work
      → table_lets_in lim classes table format document work ≡ lets_in_of lim classes table format document
  unfolding table_lets_in table_reads lets_in_of
  lets_in_enough work h =
      ap (λ (o : Result Table Refusal). o >>= λ g. (read_document lim classes format document >>= λ d. Ok (lets_in g d)))
      (lent_enough lim work (loaded classes (read_table lim classes table)) h)
      ∙ loaded_then classes (read_table lim classes table) _

  pub unloaded_refuses : loads classes ≡ false → Err BadClasses ≡ verdict (lets_in_of lim classes table format document)
  unfolding lets_in_of verdict
  unloaded_refuses e = sym (ap verdict (unloaded_is classes _ e))

  module _ (load : Loads classes) (r : Result (Unit {0}) Refusal) (index : TableIndex) (so : Reads table (read_table lim classes table) r index) where
    pub table_refuses : (q : Refusal) → r ≡ Err q → Err q ≡ verdict (lets_in_of lim classes table format document)
    unfolding lets_in_of verdict
    table_refuses q e =
        sym (ap verdict (loaded_is classes _ load)
        ∙ ap (λ (o : Result Table Refusal). verdict (o >>= λ g. (read_document lim classes format document >>= λ d. Ok (lets_in g d))))
        (table_refused lim classes table r index so q e))

    module _ (e : r ≡ Ok tt) (f : DocumentIndex) (said : Result (Unit {0}) Refusal) (reads : DocumentReads lim classes format document f said) where
      found : TableFound lim classes table index
      found = table_found lim classes table r index so load e

      lets_in_from : (o : Result Tree Refusal) → read_document lim classes format document ≡ o
          → lets_in_of lim classes table format document ≡ (o >>= λ d. Ok (lets_in found.some.table d))
      unfolding lets_in_of
      lets_in_from o p =
          loaded_is classes _ load
          ∙ given_then (read_table lim classes table) found.some.table
          (λ g. (read_document lim classes format document >>= λ d. Ok (lets_in g d))) found.read
          ∙ ap (λ (x : Result Tree Refusal). x >>= λ d. Ok (lets_in found.some.table d)) p

      pub document_refuses : (q : Refusal) → said ≡ Err q → Err q ≡ verdict (lets_in_of lim classes table format document)
      unfolding verdict
      document_refuses q p = sym (ap verdict (lets_in_from (Err q) (document_unread lim classes format document f said reads q p)))

      module _ (p : said ≡ Ok tt) where
        pub nodes_known : KnownNodes document f
        nodes_known =
            let read = nodes_read lim classes format document f said reads p in
            let c = complete lim classes format document (nodes_in document f) read in
            record { indexed = reads.indexed; one_tree = c.0; enough = c.1 }

        pub decided : NoneAbove lim large → (says_yes : Bool)
            → ((g : Table) → Held large table index g → (t : Tree) → tree_of (nodes_in document f) ≡ Ok t
            → says_yes ≡ lets_in g t)
            → Ok says_yes ≡ verdict (lets_in_of lim classes table format document)
        unfolding verdict
        decided none_above says_yes says =
            let read = nodes_read lim classes format document f said reads p in
            let t = document_tree lim classes format document (nodes_in document f) read in
            ap (λ (b : Bool). verdict (Ok b)) (says found.some.table (held_roomier none_above found.some.held) t.0 t.1)
            ∙ sym (ap verdict (lets_in_from (Ok t.0) t.2))

-- kinds
module _ (lim : Limits) (classes : Classes) (kind : Kind) (table : List ℕ) where
  -- a call that reads a table and tests it
  kind_short : (work : List ℕ) → length work < lim.words → table_is_of_kind lim classes kind table work ≡ Err WorkTooShort
  unfolding table_is_of_kind table_reads
  kind_short work h =
      ap (λ (o : Result Table Refusal). o >>= λ g. Ok (is_of_kind kind g)) (lent_short lim work (loaded classes (read_table lim classes table)) h)

  kind_enough : (work : List ℕ) → lim.words ≤ length work → table_is_of_kind lim classes kind table work ≡ is_of_kind_of lim classes kind table
  unfolding is_of_kind_of table_is_of_kind table_reads
  kind_enough work h =
      ap (λ (o : Result Table Refusal). o >>= λ g. Ok (is_of_kind kind g)) (lent_enough lim work (loaded classes (read_table lim classes table)) h)
      ∙ loaded_then classes (read_table lim classes table) _

  pub kind_unloaded : loads classes ≡ false → Err BadClasses ≡ verdict (is_of_kind_of lim classes kind table)
  unfolding is_of_kind_of verdict
  kind_unloaded e = sym (ap verdict (unloaded_is classes _ e))

  module _ (load : Loads classes) (r : Result (Unit {0}) Refusal) (index : TableIndex) (so : Reads table (read_table lim classes table) r index) where
    pub kind_refuses : (q : Refusal) → r ≡ Err q → Err q ≡ verdict (is_of_kind_of lim classes kind table)
    unfolding is_of_kind_of verdict
    kind_refuses q e =
        sym (ap verdict (loaded_is classes _ load)
        ∙ ap (λ (o : Result Table Refusal). verdict (o >>= λ g. Ok (is_of_kind kind g))) (table_refused lim classes table r index so q e))

    pub kind_decided : NoneAbove lim large → r ≡ Ok tt → (says_yes : Bool)
        → ((g : Table) → Held large table index g → says_yes ≡ is_of_kind kind g)
        → Ok says_yes ≡ verdict (is_of_kind_of lim classes kind table)
    unfolding is_of_kind_of verdict
    kind_decided none_above e says_yes says =
        let f = table_found lim classes table r index so load e in
        ap (λ (b : Bool). verdict (Ok b)) (says f.some.table (held_roomier none_above f.some.held))
        ∙ sym (ap verdict
        (loaded_is classes _ load ∙ given_then (read_table lim classes table) f.some.table (λ g. Ok (is_of_kind kind g)) f.read))

  module _ (work : List ℕ) where
    pub kind_unanswered : length work < lim.words
        → KindTest lim classes kind table work (after (verdict_numbers (Err WorkTooShort)) [] work)
    kind_unanswered h = kind_test lim classes kind table work _ (unanswered lim _ work (kind_short work h) h)

    pub kind_answered : lim.words ≤ length work → (left : List ℕ) → left ≡ work_after lim work → (answer : Result Bool Refusal)
        → answer ≡ verdict (is_of_kind_of lim classes kind table) → KindTest lim classes kind table work (after (verdict_numbers answer) [] left)
    kind_answered h left w answer a =
        kind_test lim classes kind table work _
        (so_answered lim _ work (is_of_kind_of lim classes kind table) (kind_enough work h) left w answer a)

-- the whole call of membership
module _ (lim : Limits) (classes : Classes) (table : List ℕ) (format : Format) (document work : List ℕ) where
  pub lets_in_unanswered : length work < lim.words
      → Membership lim classes table format document work (after (verdict_numbers (Err WorkTooShort)) [] work)
  lets_in_unanswered h =
      membership lim classes table format document work _
      (unanswered lim _ work (lets_in_short lim classes table format document work h) h)

  pub lets_in_answered : lim.words ≤ length work → (left : List ℕ) → left ≡ work_after lim work → (answer : Result Bool Refusal)
      → answer ≡ verdict (lets_in_of lim classes table format document)
      → Membership lim classes table format document work (after (verdict_numbers answer) [] left)
  lets_in_answered h left w answer a =
      membership lim classes table format document work _
      (so_answered lim _ work (lets_in_of lim classes table format document)
      (lets_in_enough lim classes table format document work h) left w answer a)
