-- The connection and the listeners of a relay, and what opening them does to a network.
use Rattle.std.specs.Prelude.{◌≡◌, ◌⊎◌, ◌≤◌, ◌+◌, ◌-◌, ℕ, List, [], ◌∷◌, take, length, false, Option, Some, IfSome}
use Rattle.outside_net.specs.Counts.{Rose}
use Rattle.outside_net.specs.Places.{Returned}
use Rattle.outside_net.specs.Told.{BeginsEmpty, Grows}
use Rattle.command_core.specs.Seen.{NetSeen}
use Rattle.command_core.specs.declared.fault.Fault.{Fault}
use Rattle.command_core.specs.declared.fault.Fault.TheVariants as fault
use Rattle.share_crew.specs.Listeners.{HaveLinks}
use Rattle.relay_command.specs.declared.fault.RelayFault.{RelayFault}
use Rattle.relay_command.specs.declared.fault.RelayFault.TheVariants.{Network}
use Rattle.relay_command.specs.declared.terms.Relaying.{Relaying}
use Rattle.relay_command.specs.Terms.{places_of}

-- the connection was made and the listeners were opened, one more than workers, without an error
pub record HasOpened (relaying : Relaying) (before after : NetSeen) (taken left : Option (List ℕ)) (faults : ℕ) (coming : List (Option (List (List ℕ)))) : Type 0 where
  pub count : length coming ≡ relaying.workers + 1
  pub asked : Grows before.asked after.asked (places_of relaying)
  pub written : Grows before.written after.written []
  pub links : HaveLinks before.listener_links coming
  pub begun : BeginsEmpty before.written taken
  pub input : IfSome before.next_input (λ input. left ≡ Some input)
  pub fresh : faults ≡ 0
  pub faultless : after.faults ≡ before.faults

-- an address was not opened, or an allocation failed
abbrev pub StopsOpening : ℕ → ℕ → Fault RelayFault → Type 0
StopsOpening before after stop = ((stop ≡ fault.Own Network) × Rose before after) ⊎ ((stop ≡ fault.Memory) × (after ≡ before))

-- what a connection that had taken nothing adds when it is closed
abbrev pub unused_link : List Returned
unused_link = ([], false) ∷ []

-- an address was not opened; if a connection was made, it had taken nothing, and was closed
pub record FailsToOpen (relaying : Relaying) (before after : NetSeen) (stop : Fault RelayFault) : Type 0 where
  -- how many calls of `connect` and `listen` there were
  pub count : ℕ
  pub few : count ≤ 2
  pub asked : Grows before.asked after.asked (take count (places_of relaying))
  pub written : Grows before.written after.written (take (count - 1) unused_link)
  pub stops : StopsOpening before.faults after.faults stop

-- the connection and the listeners were closed unused
pub record HasClosedUnused (relaying : Relaying) (before after : NetSeen) : Type 0 where
  pub asked : Grows before.asked after.asked (places_of relaying)
  pub written : Grows before.written after.written unused_link
  pub faultless : after.faults ≡ before.faults
