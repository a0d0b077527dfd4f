use Rattle.std.proofs.Common.{◌≡◌, ◌≤◌, ◌*◌, List, [], length}
use Rattle.share_history.specs.Listings.{Listing}
use Rattle.mirror_client.specs.Points.{place}
use Rattle.mirror_client.specs.Stages.{Asking, Holding, Walks}
use Rattle.mirror_client.specs.Steps.{all_applied, with_listings}
use Rattle.mirror_client.proofs.following.follow_rounds.Given as goal

-- `round` listings were applied, and the client holds them
abbrev pub invariant-loop-round : goal.invariant-loop-round
invariant-loop-round g l = record {
  listings : List Listing;
  count : length listings ≡ l.round;
  within : l.round ≤ l.fn.rounds;
  holds : l.mirror ≡ with_listings l.fn.mirror listings;
  told : l.applied.items ≡ all_applied l.fn.mirror.held listings;
  walks :
      Walks l.fn.follower.host l.fn.mirror l.fn.rounds (Asking l.fn.follower.known []) (place (g.K.Sink.taken l.fn.link) (g.K.Source.left l.fn.link) l.fn.follower.ahead)
      (Holding l.follower.known listings) (place (g.K.Sink.taken l.link) (g.K.Source.left l.link) l.follower.ahead);
  host : l.follower.host ≡ l.fn.follower.host;
  calls : l.follower.calls ≤ 2 * l.round;
  query : l.mirror.query ≡ l.fn.mirror.query;
  faultless : g.K.Faulted.faults l.link ≡ g.K.Faulted.faults l.fn.link;
}
