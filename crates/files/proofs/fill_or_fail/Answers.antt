-- `fill_or_fail` meets its contract: a read adds what it gave to what the space has in front.
use Rattle.std.proofs.Common.{◌≡◌, ℕ, ◌+◌, ◌≤◌, List, ◌++◌, rules, length, take, sym, ap, ◌∙◌, subst, length-take-le}
use Rattle.std.proofs.lemmas.List.{take-append-le}
use Rattle.std.proofs.Math.Seq.{take-append-add}
use Rattle.std.proofs.KnownBytes.{Consumes-trans}
use Rattle.std.specs.Io.KnownBytes.{Consumes}
use borrow.Rule.Slice.PartMut.{put_mid, post_of}
use Rattle.files.proofs.fill_or_fail.Goals as goal

-- m bytes of a part that begins at a stand behind the a bytes before it
part_read : (a k m : ℕ) (xs ys : List ℕ) → a ≤ length xs → m ≤ length ys → take a xs ++ take m ys ≡ take (a + m) (put_mid a k xs ys)
part_read a k m xs ys within fits =
    let rest = post_of a k xs in
    sym
    (ap (λ i. take (i + m) (put_mid a k xs ys)) (sym (length-take-le a xs within))
    ∙ take-append-add (take a xs) (ys ++ rest) m
    ∙ ap (λ l. take a xs ++ l) (take-append-le m ys rest fits))

pub loop-n-preserved : goal.loop-n-preserved
loop-n-preserved g c = (
  search rules,
  subst (Consumes _ _) (part_read c.loop-n.n _ c.in-Ok.more c.loop-n.space c.read.new.buf c.loop-n.invariant.0 c.in-Ok.ensures.bound.0)
      (Consumes-trans _ _ _ _ _ c.loop-n.invariant.1 c.in-Ok.ensures.bytes.0),
)
