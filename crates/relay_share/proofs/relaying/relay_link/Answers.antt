-- The rounds end somehow, and then a stop is requested.
use Rattle.std.proofs.Common.{subst}
use Rattle.mirror_client.specs.Points.{nothing_read, place}
use Rattle.share_lock.specs.Passes.{known}
use Rattle.relay_share.proofs.StopFacts.{told_stops}
use Rattle.relay_share.proofs.relaying.relay_link.Goals as goal

pub returns-clause-relayed : goal.returns-clause-relayed
returns-clause-relayed g c = record {
  before_stop = known c.relay_rounds-end.new.pass;
  ends = c.relay_rounds-end.ensures.ends;
  last = c.stop.result.served;
  stops = c.stop.ensures.told.serves;
  latest = c.stop.ensures.told.latest;
  stopped = told_stops (known c.relay_rounds-end.new.pass) (known c.stop.new.pass) c.stop.result c.stop.ensures.told;
}
