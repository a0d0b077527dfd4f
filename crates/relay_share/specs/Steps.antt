-- The steps of a relay: it applies a listing, or says why not; and its state after each step.
use Rattle.std.specs.Prelude.{◌≡◌, ◌≢◌, ◌≤◌, ◌⊎◌, ℕ, List, [], ◌∷◌, ◌++◌, Some}
use Rattle.dmap_tags.specs.Tree.{Tree}
use Rattle.item_model.specs.declared.request.Meta.TheVariants.{All}
use Rattle.item_model.specs.declared.request.Target.TheVariants.{Items}
use Rattle.mirror_client.specs.declared.refusal.FollowError.TheVariants as follow
use Rattle.mirror_client.specs.Points.{Point}
use Rattle.mirror_client.specs.Stages.{Stage, listings_in}
use Rattle.mirror_client.specs.Steps.{IsNotTaken, held_after}
use Rattle.mirror_core.specs.Bodies.{IsListing}
use Rattle.mirror_core.specs.Mirrored.{Mirrored}
use Rattle.share_history.specs.Histories.{batches, revision}
use Rattle.share_history.specs.Listings.{Listing}
use Rattle.share_history.specs.Mirror.{Held, mirror_after}
use Rattle.share_server.specs.declared.report.Served.{Served}
use Rattle.share_server.specs.Passes.{Pass, Serves}
use Rattle.share_server.specs.Served.{at_point}
use Rattle.relayed_rows.specs.Libraries.{IsLibrary}
use Rattle.relayed_rows.specs.Relays.{Relaying, first_unread, nothing_held, relaying_at}
use Rattle.relay_share.specs.Asks.{edit_ask}
use Rattle.relay_share.specs.Ends.{Relays}
use Rattle.relay_share.specs.Rounds.{IsRefused, batch_of, followed, made_status, relayed_by}
use Rattle.relay_share.specs.declared.report.Relayed.{Relayed}
use Rattle.relay_share.specs.declared.report.RelayEnd.{RelayEnd}
use Rattle.relay_share.specs.declared.report.RelayEnd.TheVariants.{Done, Row, Full, Stopped, Peer, Memory}

-- A client that follows and holds `held`.
abbrev pub holding : Held → Mirrored
holding held = record followed { held = held }

-- The relay applied a listing: its edit was made and reported.
pub record Takes (held : Held) (l : Listing) (k k' : Pass) (done done' : List Relayed) (now : Relaying) : Type 0 where
  pub made : Served
  pub serves : Serves k k' (edit_ask (batch_of held l) ∷ []) (made ∷ [])
  pub status : made.status ≡ made_status (batch_of held l)
  pub told : done' ≡ done ++ relayed_by held l (revision (batches (at_point k'.seen made))) ∷ []
  pub holds : now ≡ relaying_at (mirror_after held l)
  pub library : IsLibrary now.library

-- Why the relay did not apply the listing.
abbrev pub IsUntaken : Held → Listing → Pass → Pass → RelayEnd → Type 0
IsUntaken held l k k' Done = ⊥
IsUntaken held l k k' (Row index) = (first_unread l ≡ Some index) × (k' ≡ k)
IsUntaken held l k k' Full = IsRefused held l k k' 507
IsUntaken held l k k' Stopped = IsRefused held l k k' 503
IsUntaken held l k k' (Peer e) = ⊥
IsUntaken held l k k' Memory = (k' ≡ k) ⊎ IsRefused held l k k' 500

-- The tag is a listing with the property `This`.
abbrev pub IsListed : Held → Tree → (Listing → Type 0) → Type 0
IsListed held tag This = (l : Listing) × IsListing Items held.revision l tag × (held.revision ≤ l.revision) × This l

-- Why a tag was not applied: it is not a listing, or one that the relay did not apply.
abbrev pub IsUnread : Held → Tree → Pass → Pass → RelayEnd → Type 0
IsUnread held tag k k' Done = ⊥
IsUnread held tag k k' (Row index) = IsListed held tag (λ l. IsUntaken held l k k' (Row index))
IsUnread held tag k k' Full = IsListed held tag (λ l. IsUntaken held l k k' Full)
IsUnread held tag k k' Stopped = IsListed held tag (λ l. IsUntaken held l k k' Stopped)
IsUnread held tag k k' (Peer e) = (e ≢ follow.Memory) × IsNotTaken (holding held) tag e × (k' ≡ k)
IsUnread held tag k k' Memory = IsListed held tag (λ l. IsUntaken held l k k' Memory)

-- A relay that came to this stage holds the library that its listings left.
pub record Stands (host : List ℕ) (rounds : ℕ) (p : Point) (stage : Stage) (q : Point) (k k' : Pass) (done : List Relayed) (now : Relaying) : Type 0 where
  pub relays : Relays host rounds p stage q k k' done
  pub holds : now ≡ relaying_at (held_after nothing_held (listings_in stage))
