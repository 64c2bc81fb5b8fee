-- `sums::byte_sum` meets its contract: the fold over the bytes is the checksum.
use Rattle.std.proofs.Common.{rules, ◌∙◌}
use Rattle.std.proofs.lemmas.Iterator.{YieldsList-from_slice}
use Rattle.std.proofs.lemmas.Iterator.Consumers.{fold_from_yields_List}
use Rattle.vectors.specs.Checksum.{next}
use Rattle.vectors.proofs.ChecksumLaws.{checksum_fold}
use Rattle.vectors.proofs.sums.byte_sum.Goals as goal

pub returns : goal.returns
returns c =
    fold_from_yields_List _ next 17 _ c.fold.ensures.ran (YieldsList-from_slice c.args.bytes.now cc) (λ a x b q k. search rules)
    ∙ checksum_fold c.args.bytes.now
