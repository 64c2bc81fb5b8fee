-- What a widening promises of its numbers holds of the parts of the answer: `widened_told`.
use Prim.Native.Nat.{ℕ}
use mathlib.Core.List.{List}
use mathlib.Core.Path.{◌≡◌, ap, subst}
use Rattle.std.specs.Prelude.{Result}
use Rattle.grammar.specs.declared.Refusal.{Refusal}
use Rattle.grammar.specs.declared.Size.{Size}
use Rattle.grammar.specs.declared.Source.{Source}
use Rattle.grammar.specs.LimitSets.{size_limits}
use Rattle.grammar.specs.Names.{Classes}
use Rattle.grammar.specs.Kinds.{Kind}
use Rattle.grammar.specs.Answers.{Numbers, written_numbers}
use Rattle.grammar.specs.Calls.{after}
use Rattle.grammar.specs.Promises.{Widening}
use Rattle.theory.proofs.Theorems.SizedPromises.{widening_sized}
use Rattle.exports.specs.Exported.{told, parted}
use Rattle.exports.proofs.Apart.{retold}
use Rattle.exports.proofs.Lengths.{widened_value}

-- the size and the source by their numbers
pub widened_told : {given size : Size} {from source : Source} {classes : Classes} {kind : Kind} {old addition out work left kept : List ℕ} {answer : ℕ} (r : Result ℕ Refusal)
    → given ≡ size → from ≡ source → answer ≡ told (written_numbers r)
    → Widening (size_limits given) classes kind from old addition out work (after (written_numbers r) left kept)
    → Widening (size_limits size) classes kind source old addition out work (after (parted answer) left kept)
widened_told {size = size} {source = source} {classes = classes} {kind = kind} {old = old} {addition = addition} {out = out} {work = work} {left = left} {kept = kept} r s f e w =
    let P = λ (n : Numbers). Widening (size_limits size) classes kind source old addition out work (after n left kept) in
    let so : P (written_numbers r) =
    subst (λ (x : Source). Widening (size_limits size) classes kind x old addition out work (after (written_numbers r) left kept)) f
    (widening_sized (ap size_limits s) w) in
    retold P (written_numbers r) _ e (widened_value size classes kind source old addition out work left kept _ so) so
