-- The listeners of workers, and what closing them does to a network.
use Rattle.std.specs.Prelude.{◌≡◌, ℕ, List, length, map, take, All, MatchBool, Option, Some, IfSome}
use Rattle.outside_net.specs.Counts.{Rose}
use Rattle.outside_net.specs.Places.{Returned}
use Rattle.outside_net.specs.Told.{BeginsEmpty}
use Rattle.share_workers.specs.declared.worker.WorkerEnd.{WorkerEnd}
use Rattle.share_workers.specs.declared.worker.WorkerEnd.TheVariants.{AcceptFault}
use Rattle.share_crew.specs.Verdicts.{has_end}

module _ {D : Type 0} where
  -- nobody has accepted at the listener; its list of closed connections is known if the network's is
  pub record IsNew (written : D → Option (List Returned)) (faults : D → ℕ) (kept : Option (List Returned)) (listener : D) : Type 0 where
    pub faultless : faults listener ≡ 0
    pub unwritten : BeginsEmpty kept (written listener)

  abbrev pub AreNew : (D → Option (List Returned)) → (D → ℕ) → Option (List Returned) → List D → Type 0
  AreNew written faults kept listeners = All (IsNew written faults kept) listeners

-- the error counter of a network rises exactly if a worker ended because its listener failed
abbrev pub CountsListenerFaults : ℕ → ℕ → List WorkerEnd → Type 0
CountsListenerFaults before after ends = MatchBool (has_end AcceptFault ends) (Rose before after) (after ≡ before)

-- the listeners have the connections that the network's list has for them
abbrev pub HaveLinks : Option (List (List (List ℕ))) → List (Option (List (List ℕ))) → Type 0
HaveLinks links coming = IfSome links (λ inputs. coming ≡ map (λ i. Some i) (take (length coming) inputs))
