-- The listeners of the two addresses, and what opening them does to a network.
use Rattle.std.specs.Prelude.{◌≡◌, ◌⊎◌, ◌≤◌, ◌+◌, ◌++◌, ℕ, List, [], length, map, take, Option}
use Rattle.outside_net.specs.Bounds as bounds
use Rattle.outside_net.specs.Counts.{Rose}
use Rattle.outside_net.specs.Places.{Returned}
use Rattle.outside_net.specs.Told.{Grows}
use Rattle.command_core.specs.Seen.{NetSeen}
use Rattle.command_core.specs.declared.fault.Fault.{Fault}
use Rattle.command_core.specs.declared.fault.Fault.TheVariants as fault
use Rattle.serve_command.specs.declared.fault.ServeFault.{ServeFault}
use Rattle.serve_command.specs.declared.fault.ServeFault.TheVariants.{Network}
use Rattle.share_asks.specs.declared.ask.Role.{Role}
use Rattle.share_asks.specs.declared.ask.Role.TheVariants.{Listen, Edit}
use Rattle.serve_command.specs.declared.places.Listeners.{Listeners}
use Rattle.serve_command.specs.declared.terms.Serving.{Serving}
use Rattle.serve_command.specs.Terms.{MayServeAt, places_of}
use Rattle.share_crew.specs.Listeners.{AreNew, HaveLinks}

-- `listen` was called for these addresses, and no connection was closed
pub record HasAsked (places : List (List ℕ × ℕ)) (before after : NetSeen) : Type 0 where
  pub asked : Grows before.asked after.asked places
  pub written : Grows before.written after.written []

-- both addresses were opened, each with its number of listeners, without an error
pub record HasOpened (serving : Serving) (before after : NetSeen) (listen edit : ℕ) (coming : List (Option (List (List ℕ)))) : Type 0 where
  pub listening : listen ≡ serving.workers
  pub editing : edit ≡ serving.editors
  pub asked : HasAsked (places_of serving) before after
  pub links : HaveLinks before.listener_links coming
  pub faultless : after.faults ≡ before.faults

module _ {D : Type 0} (coming : D → Option (List (List ℕ))) (written : D → Option (List Returned)) (faults : D → ℕ) where
  -- .. and no worker has accepted at these listeners
  pub record HasListeners (serving : Serving) (before after : NetSeen) (listen edit : List D) : Type 0 where
    pub opened : HasOpened serving before after (length listen) (length edit) (map coming (listen ++ edit))
    pub new_listen : AreNew written faults before.written listen
    pub new_edit : AreNew written faults before.written edit

module _ {D : Type 0} where
  -- how many listeners there are at both addresses
  abbrev pub count_of : Listeners D → ℕ
  count_of listeners = length listeners.listen.items + length listeners.edit.items

  -- those of the players, and then those of the editors
  abbrev pub all_of : Listeners D → List D
  all_of listeners = listeners.listen.items ++ listeners.edit.items

  -- the role of the worker of each
  abbrev pub roles_at : Listeners D → List Role
  roles_at listeners = map (λ listener. Listen) listeners.listen.items ++ map (λ listener. Edit) listeners.edit.items

  -- the settings are in their ranges, and each address has as many listeners as they say
  abbrev pub MayServeWith : Serving → Listeners D → Type 0
  MayServeWith serving listeners = MayServeAt serving (length listeners.listen.items) (length listeners.edit.items)

module _ {D : Type 0} (g : bounds.Listeners D) where
  -- both addresses were opened with these listeners, and no worker has accepted at them
  abbrev pub HasAddresses : Serving → NetSeen → NetSeen → Listeners D → Type 0
  HasAddresses serving before after listeners =
      HasListeners g.coming g.written g.faults serving before after listeners.listen.items listeners.edit.items

  -- no worker has accepted at listeners that the network opened
  abbrev pub AreUnused : (before : NetSeen) → List D → Type 0
  AreUnused before listeners = AreNew g.written g.faults before.written listeners

-- an address was not opened: that failed, or an allocation did
abbrev pub StopsOpening : ℕ → ℕ → Fault ServeFault → Type 0
StopsOpening before after stop = ((stop ≡ fault.Own Network) × Rose before after) ⊎ ((stop ≡ fault.Memory) × (after ≡ before))

pub record FailsToOpen (serving : Serving) (before after : NetSeen) (stop : Fault ServeFault) : Type 0 where
  -- how many calls of `listen` there were
  pub count : ℕ
  pub few : count ≤ 2
  pub some : stop ≡ fault.Own Network → 1 ≤ count
  pub asked : HasAsked (take count (places_of serving)) before after
  pub stops : StopsOpening before.faults after.faults stop

-- listeners at which no worker has accepted were closed; the network is as it was after it opened them
pub record HasClosedUnused (start before after : NetSeen) : Type 0 where
  pub asked : after.asked ≡ before.asked
  pub written : Grows start.written before.written [] → Grows start.written after.written []
  pub faultless : after.faults ≡ before.faults
