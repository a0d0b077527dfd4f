-- What a command leaves of a network on which it made one connection.
use Rattle.std.specs.Prelude.{◌≡◌, ℕ, List, [], ◌∷◌, Option, Some, IfSome}
use Rattle.outside_net.specs.Counts.{Rose, RisesWith}
use Rattle.outside_net.specs.Places.{returned}
use Rattle.outside_net.specs.Told.{BeginsEmpty, Grows, GrowsByTold}
use Rattle.command_core.specs.Seen.{IsUnread, NetSeen, Seen}
use Rattle.mirror_client.specs.Points.{Point, nothing_read, place}

-- a connection: what it had taken and had left to read when it was made; what it had taken, and its error counter, when
-- it was closed
pub record LinkSeen : Type 0 where
  pub begun : Option (List ℕ)
  pub left : Option (List ℕ)
  pub taken : Option (List ℕ)
  pub faults : ℕ

abbrev pub link_seen : (begun left taken : Option (List ℕ)) → ℕ → LinkSeen
link_seen begun left taken faults = record { begun = begun; left = left; taken = taken; faults = faults }

-- a client that has just connected
abbrev pub start_of : LinkSeen → Point
start_of link = place link.begun link.left nothing_read

-- `connect` was called once, and the connection was closed
pub record HasLinked (host : List ℕ) (before after : NetSeen) (link : LinkSeen) : Type 0 where
  pub asked : Grows before.asked after.asked ((host, 0) ∷ [])
  pub begun : BeginsEmpty before.written link.begun
  pub input : IfSome before.next_input (λ input. link.left ≡ Some input)
  pub written : GrowsByTold before.written after.written (returned link.taken link.faults)
  pub listeners : after.listener_links ≡ before.listener_links
  pub count : RisesWith before.faults after.faults link.faults

-- nothing was read, and the network is unchanged
pub record IsUntouched (before after : Seen) : Type 0 where
  pub unread : IsUnread before.input after.input
  pub net : after.around.net ≡ before.around.net

-- `connect` was called once, and no connection was made
pub record IsUnreached (host : List ℕ) (before after : NetSeen) : Type 0 where
  pub asked : Grows before.asked after.asked ((host, 0) ∷ [])
  pub written : after.written ≡ before.written
  pub listeners : after.listener_links ≡ before.listener_links
  pub rose : Rose before.faults after.faults
