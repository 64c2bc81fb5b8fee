-- What a call promises under some limits, it promises under the same limits by another name.
use Prim.Native.Nat.{ℕ}
use mathlib.Core.List.{List}
use mathlib.Core.Path.{◌≡◌, subst}
use Rattle.grammar.specs.Limits.{Limits}
use Rattle.grammar.specs.Names.{Classes}
use Rattle.grammar.specs.Kinds.{Kind}
use Rattle.grammar.specs.Answers.{Numbers}
use Rattle.grammar.specs.Calls.{After, NamePart, label_name}
use Rattle.grammar.specs.declared.Source.{Source}
use Rattle.grammar.specs.declared.Format.{Format}
use Rattle.grammar.specs.Promises.{
  PartOf,
  TableReading,
  DocumentReading,
  Naming,
  NamePlace,
  Membership,
  KindTest,
  Paging,
  Sampling,
  Widening,
}

module _ {lim lim' : Limits} (same : lim ≡ lim') {classes : Classes} where
  pub table_sized : {table work : List ℕ} {left : After Numbers} → TableReading lim classes table work left → TableReading lim' classes table work left
  table_sized {table} {work} {left} w = subst (λ (l : Limits). TableReading l classes table work left) same w

  pub document_sized : {format : Format} {document work : List ℕ} {left : After Numbers} → DocumentReading lim classes format document work left
      → DocumentReading lim' classes format document work left
  document_sized {format} {document} {work} {left} w =
      subst (λ (l : Limits). DocumentReading l classes format document work left) same w

  pub place_sized : {table : List ℕ} {label : ℕ} {work : List ℕ} {left : After Numbers} → NamePlace lim classes table label work left → NamePlace lim' classes table label work left
  place_sized {table} {label} {work} {left} w = subst (λ (l : Limits). NamePlace l classes table label work left) same w

  pub membership_sized : {table : List ℕ} {format : Format} {document work : List ℕ} {left : After Numbers} → Membership lim classes table format document work left
      → Membership lim' classes table format document work left
  membership_sized {table} {format} {document} {work} {left} w =
      subst (λ (l : Limits). Membership l classes table format document work left) same w

  pub kind_sized : {kind : Kind} {table work : List ℕ} {left : After Numbers} → KindTest lim classes kind table work left → KindTest lim' classes kind table work left
  kind_sized {kind} {table} {work} {left} w = subst (λ (l : Limits). KindTest l classes kind table work left) same w

  pub paging_sized : {table out work : List ℕ} {left : After Numbers} → Paging lim classes table out work left → Paging lim' classes table out work left
  paging_sized {table} {out} {work} {left} w = subst (λ (l : Limits). Paging l classes table out work left) same w

  pub sampling_sized : {format : Format} {document out work : List ℕ} {left : After Numbers} → Sampling lim classes format document out work left
      → Sampling lim' classes format document out work left
  sampling_sized {format} {document} {out} {work} {left} w =
      subst (λ (l : Limits). Sampling l classes format document out work left) same w

  pub widening_sized : {kind : Kind} {source : Source} {old addition out work : List ℕ} {left : After Numbers} → Widening lim classes kind source old addition out work left → Widening lim' classes kind source old addition out work left
  widening_sized {kind} {source} {old} {addition} {out} {work} {left} w = subst (λ (l : Limits). Widening l classes kind source old addition out work left) same w

pub part_sized : {lim lim' : Limits} → lim ≡ lim' → (classes : Classes) (table : List ℕ) (label : ℕ) (work : List ℕ)
    {left : After NamePart} {input part : ℕ × ℕ}
    → Naming lim classes table label work left × PartOf input (label_name lim classes table label work) part
    → Naming lim' classes table label work left × PartOf input (label_name lim' classes table label work) part
part_sized same classes table label work {left} {input} {part} w =
    subst
    (λ (l : Limits). Naming l classes table label work left × PartOf input (label_name l classes table label work) part)
    same
    w
