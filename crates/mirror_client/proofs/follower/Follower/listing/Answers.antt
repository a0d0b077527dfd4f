use Rattle.std.proofs.Common.{rules}
use Rattle.mirror_client.proofs.ExchangeFacts.{unwritten}
use Rattle.mirror_client.proofs.follower.Follower.listing.Goals as goal

pub returns-in_err-request : goal.returns-in_err-request
returns-in_err-request g c = search (rules, unwritten)
