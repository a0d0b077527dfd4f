-- The text was not empty.
use Rattle.share_history.proofs.TextFacts.{text_put}
use Rattle.reference_share.proofs.browse.put_text.Goals as goal

pub returns-in_ok-insert : goal.returns-in_ok-insert
returns-in_ok-insert c =
    text_put c.args.text c.args.texts.now.keys c.insert.new.self.keys c.is_filled.result c.if-is_filled.true c.is_filled.ensures c.in_ok-insert.ensures.keys
