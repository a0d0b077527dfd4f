-- The law is its lemma.
use Rattle.share_server.proofs.Longer.{served_bytes_are_replies}
use Rattle.share_server.proofs.laws.served_bytes_are_replies.Goals as goal

pub returns : goal.returns
returns c = served_bytes_are_replies
