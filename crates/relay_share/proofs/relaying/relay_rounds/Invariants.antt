use Rattle.std.proofs.Common.{◌≡◌, ◌≤◌, ◌*◌, List, length}
use Rattle.mirror_client.specs.Points.{nothing_read, place}
use Rattle.mirror_client.specs.Stages.{Holding}
use Rattle.share_history.specs.Listings.{Listing}
use Rattle.share_lock.specs.Passes.{IsReady, known, lock_id}
use Rattle.relay_share.specs.Steps.{Stands}
use Rattle.relay_share.proofs.relaying.relay_rounds.Given as goal

-- `round` listings were relayed, and the client holds them
abbrev pub invariant-loop-round : goal.invariant-loop-round
invariant-loop-round g l = record {
  listings : List Listing;
  count : length listings ≡ l.round;
  within : l.round ≤ l.fn.rounds;
  stands :
      Stands l.fn.host l.fn.rounds (place (g.K.Sink.taken l.fn.link) (g.K.Source.left l.fn.link) nothing_read) (Holding l.follower.known listings)
      (place (g.K.Sink.taken l.link) (g.K.Source.left l.link) l.follower.ahead) (known l.fn.pass) (known l.pass) l.done.items l.relay;
  host : l.follower.host ≡ l.fn.host;
  calls : l.follower.calls ≤ 2 * l.round;
  ready : IsReady (lock_id l.fn.own.lock.now) l.pass;
  faultless : g.K.Faulted.faults l.link ≡ g.K.Faulted.faults l.fn.link;
}
