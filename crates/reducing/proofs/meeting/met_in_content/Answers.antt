-- `met_in_content` meets its contract.
use Rattle.union.proofs.SeenLaws.{seen_nothing}
use Rattle.reducing.proofs.MeetingLaws.{content_met}
use Rattle.reducing.proofs.meeting.met_in_content.Goals as goal

pub met-requires : goal.met-requires
met-requires c = (c.requires, seen_nothing c.empty.ensures _)

pub returns : goal.returns
returns c = content_met _ c.args.lists _ _ _ _ c.requires c.met.ensures c.met.auto.list
