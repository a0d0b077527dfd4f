-- A relay leaves its lock handle unchanged, except for what it has seen.
use Rattle.std.proofs.Common.{◌≡◌, ℕ, List, Option, ap, ◌∙◌, inl, inr}
use Rattle.mirror_client.specs.Points.{Point}
use Rattle.share_server.specs.Passes.{Pass}
use Rattle.relay_share.specs.Ends.{EndsRelay, HasRelayed, Leaves, Refuses}
use Rattle.relay_share.specs.declared.report.Relayed.{Relayed}
use Rattle.relay_share.specs.declared.report.RelayEnd.{RelayEnd}
use Rattle.relay_share.specs.declared.report.RelayEnd.TheVariants.{Done, Row, Full, Stopped, Peer, Memory}
use Rattle.relay_share.specs.declared.report.RelayReport.{RelayReport}

abbrev pub Stays : Pass → Pass → Type 0
Stays k k' = k' ≡ record k { seen = k'.seen; looks = k'.looks }

stays_then : (k k' k'' : Pass) → Stays k k' → Stays k' k'' → Stays k k''
stays_then k k' k'' one two = two ∙ ap {A = Pass} {B = Pass} (λ p. record p { seen = k''.seen; looks = k''.looks }) one

module _ (host : List ℕ) (rounds : ℕ) (p : Point) (taken : Option (List ℕ)) (k : Pass) where
  refuses_stay : (k' : Pass) (done : List Relayed) (status : ℕ) → Refuses host rounds p taken k k' done status → Stays k k'
  refuses_stay k' done status x = stays_then k x.reached k' x.leaves.relays.serves.stays x.refused.serves.stays

  ends_stay : (k' : Pass) (done : List Relayed) (end : RelayEnd) → EndsRelay host rounds p taken k k' done end → Stays k k'
  ends_stay k' done Done h = h.relays.serves.stays
  ends_stay k' done (Row index) h = h.0.relays.serves.stays
  ends_stay k' done Full h = refuses_stay k' done 507 h
  ends_stay k' done Stopped h = refuses_stay k' done 503 h
  ends_stay k' done (Peer e) h = h.1.relays.serves.stays
  ends_stay k' done Memory (inl h) = h.relays.serves.stays
  ends_stay k' done Memory (inr (inl h)) = h.relays.serves.stays
  ends_stay k' done Memory (inr (inr h)) = refuses_stay k' done 500 h

  pub relay_stays : (k' : Pass) (report : RelayReport) → HasRelayed host rounds p taken k k' report → Stays k k'
  relay_stays k' report h = stays_then k h.before_stop k' (ends_stay h.before_stop report.rounds.items report.end h.ends) h.stops.stays
