use Rattle.share_history.specs.Histories.{edits}
use Rattle.share_listings.proofs.AnswerFacts.{no_members}
use Rattle.share_listings.proofs.whole.members_of.Goals as goal

pub returns-in-Ok-None : goal.returns-in-Ok-None
returns-in-Ok-None c =
    let found = rw c.in-Ok-None.field-0-is at c.in-Ok-None.ensures in
    λ bs items lists. no_members (edits bs) c.args.list c.new.result.items c.requires.beside c.new.ensures.items (found bs lists items)
