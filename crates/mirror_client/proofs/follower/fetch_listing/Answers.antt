use Rattle.std.proofs.Common.{rules}
use Rattle.mirror_client.proofs.follower.fetch_listing.Goals as goal

pub returns-in-Err : goal.returns-in-Err
returns-in-Err g c = search rules
