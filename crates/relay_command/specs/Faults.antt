-- The lines and the statuses of the errors of `relay`, and which of two counts more.
use Rattle.std.specs.Prelude.{ℕ, List, [], ◌∷◌, ◌++◌, codes, decimal, Option, Some, None, ◌==◌, nat_le, if◌then◌else◌}
use Rattle.outside_net.specs.declared.net.NetError.{NetError}
use Rattle.outside_net.specs.declared.net.NetError.TheVariants as nets
use Rattle.command_core.specs.declared.fault.Fault.{Fault}
use Rattle.command_core.specs.declared.fault.Fault.TheVariants as fault
use Rattle.command_core.specs.Faults.{fault_status}
use Rattle.link_commands.specs.declared.follow.FollowFault.TheVariants as follow
use Rattle.link_commands.specs.FollowShare.{follow_line, follow_status}
use Rattle.relay_share.specs.declared.report.RelayEnd.{RelayEnd}
use Rattle.relay_share.specs.declared.report.RelayEnd.TheVariants as end
use Rattle.share_crew.specs.declared.verdict.Verdict.{Verdict}
use Rattle.share_crew.specs.declared.verdict.Verdict.TheVariants as crew
use Rattle.relay_command.specs.declared.fault.RelayFault.{RelayFault}
use Rattle.relay_command.specs.declared.fault.RelayFault.TheVariants.{Network, Requests, Library, Row, Peer}

abbrev pub relay_line : RelayFault → List ℕ
relay_line Network = codes "network failed" ++ 10 ∷ []
relay_line Requests = codes "limit: requests" ++ 10 ∷ []
relay_line Library = codes "limit: library" ++ 10 ∷ []
relay_line (Row index) = (codes "peer: row " ++ decimal index) ++ 10 ∷ []
relay_line (Peer fault) = follow_line fault

abbrev pub relay_status : RelayFault → ℕ
relay_status Network = 6
relay_status Requests = 8
relay_status Library = 8
relay_status (Row index) = 7
relay_status (Peer fault) = follow_status fault

-- ---- which error is reported

abbrev pub net_fault : NetError → Fault RelayFault
net_fault nets.Failed = fault.Own Network
net_fault nets.Memory = fault.Memory

-- the workers' error; without a keeper none of them loses an edit
abbrev pub crew_fault : Verdict → Option (Fault RelayFault)
crew_fault crew.Done = None
crew_fault crew.NetworkFailed = Some (fault.Own Network)
crew_fault crew.FileFailed = Some (fault.Own Network)
crew_fault crew.OutOfMemory = Some fault.Memory
crew_fault crew.Exhausted = Some (fault.Own Requests)

-- the relay's error; no other lock handle stops its share
abbrev pub end_fault : RelayEnd → Option (Fault RelayFault)
end_fault end.Done = None
end_fault (end.Row index) = Some (fault.Own (Row index))
end_fault end.Full = Some (fault.Own Library)
end_fault end.Stopped = None
end_fault (end.Peer error) = Some (fault.Own (Peer (follow.Link error)))
end_fault end.Memory = Some fault.Memory

-- the network's error counts before out of memory, then a limit, then the peer's
abbrev pub rank_of_status : ℕ → ℕ
rank_of_status status = if status == 6 then 4 else if status == 9 then 3 else if status == 8 then 2 else 1

abbrev pub rank_of : Option (Fault RelayFault) → ℕ
rank_of None = 0
rank_of (Some fault) = rank_of_status (fault_status relay_status fault)

abbrev pub worse_of : Option (Fault RelayFault) → Option (Fault RelayFault) → Option (Fault RelayFault)
worse_of one other = if nat_le (rank_of other) (rank_of one) then one else other
