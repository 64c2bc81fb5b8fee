-- The call that prints, case by case:
--   unread, printed : what reading gives ; unanswered, unloaded, answered : too few words, classes that do not load, and all else
use Prim.Native.Nat.{ℕ, ◌≤◌, ◌<◌}
use mathlib.Core.Bool.{false}
use mathlib.Core.List.{List}
use mathlib.Core.Path.{◌≡◌, refl, sym, ◌∙◌, ap, subst}
use lib.ListN.{length}
use Rattle.grammar.specs.Limits.{Limits}
use Rattle.grammar.specs.Names.{Classes, loads, Loads}
use Rattle.grammar.specs.Table.{Table}
use Rattle.std.specs.Prelude.{Result, Ok, Err}
use Rattle.grammar.specs.Outcome.{◌>>=◌}
use Rattle.grammar.specs.ReadTable.{read_table}
use Rattle.grammar.specs.Pages.{page_layout, pages}
use Rattle.grammar.specs.Answers.{written_numbers, written}
use Rattle.grammar.specs.Calls.{work_after, out_after, room_for, after, table_reads, table_pages}
use Rattle.grammar.specs.Promises.{Paging}
use Rattle.grammar.specs.declared.Refusal.{Refusal}
use Rattle.grammar.specs.declared.Refusal.TheVariants.{WorkTooShort, BadClasses}
use Rattle.theory.proofs.Theorems.CallPromises.{lent_short, lent_enough, lent-loaded, loaded, unloaded_is, paging}
use Rattle.writer.proofs.WroteLaws.{wrote_as, wrote_short}
use Rattle.pages.specs.Printing.{Leaves, HandedOver, pages_from}

-- a refusal leaves the output as it was
refusal_leaves : (o : Result (List ℕ) Refusal) (r : Refusal) (out : List ℕ) → o ≡ Err r → Leaves o out out (Err r)
unfolding written out_after
refusal_leaves o r out e = record { answer = sym (ap written e); out = sym (ap (λ (x : Result (List ℕ) Refusal). out_after x out) e) }

module _ (lim : Limits) (classes : Classes) (table out : List ℕ) where
  abbrev steps : Table → Result (List ℕ) Refusal
  steps g = room_for out (pages page_layout g)

  pub unread : (r : Refusal) → read_table lim classes table ≡ Err r → Leaves (pages_from lim classes table out) out out (Err r)
  unfolding pages_from
  unread r e = refusal_leaves _ r out (ap (λ (o : Result Table Refusal). o >>= steps) e)

  pub printed : (g : Table) → read_table lim classes table ≡ Ok g → {left : List ℕ} {r : Result ℕ Refusal}
      → HandedOver (pages page_layout g) out left r → Leaves (pages_from lim classes table out) out left r
  unfolding pages_from
  printed g e {left} {r} w =
      subst (λ (o : Result (List ℕ) Refusal). Leaves o out left r) (sym (ap (λ (o : Result Table Refusal). o >>= steps) e)) w

  module _ (work : List ℕ) where
    pub unanswered : length work < lim.words → Paging lim classes table out work (after (written_numbers (Err WorkTooShort)) out work)
    unfolding table_pages table_reads
    unanswered h =
        paging lim classes table out work _
        (wrote_short lim _ out work
        (ap (λ (o : Result Table Refusal). o >>= steps) (lent_short lim work (loaded classes (read_table lim classes table)) h))
        h)

    module _ (h : lim.words ≤ length work) (work_left : List ℕ) (cleared : work_left ≡ work_after lim work) where
      told : (o : Result (List ℕ) Refusal) → table_pages lim classes table out work ≡ o → (answer : Result ℕ Refusal) (left : List ℕ)
          → Leaves o out left answer → Paging lim classes table out work (after (written_numbers answer) left work_left)
      told o e answer left w =
          let so = subst (λ (x : Result (List ℕ) Refusal). Leaves x out left answer) (sym e) w in
          paging lim classes table out work _ (wrote_as lim _ out work answer left work_left so.answer so.out cleared)

      pub unloaded : loads classes ≡ false → Paging lim classes table out work (after (written_numbers (Err BadClasses)) out work_left)
      unfolding table_pages table_reads
      unloaded e =
          told (Err BadClasses)
          (ap (λ (o : Result Table Refusal). o >>= steps)
          (lent_enough lim work (loaded classes (read_table lim classes table)) h ∙ unloaded_is classes (read_table lim classes table) e))
          (Err BadClasses) out (refusal_leaves (Err BadClasses) BadClasses out refl)

      pub answered : Loads classes → (answer : Result ℕ Refusal) (left : List ℕ) → Leaves (pages_from lim classes table out) out left answer
          → Paging lim classes table out work (after (written_numbers answer) left work_left)
      unfolding table_pages table_reads pages_from
      answered load =
          told (pages_from lim classes table out)
          (ap (λ (o : Result Table Refusal). o >>= steps) (lent-loaded lim classes work (read_table lim classes table) h load))
