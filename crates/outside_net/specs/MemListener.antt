-- A listener in memory, beyond what it is as a listener: its settings, and the number of its next call.
use Rattle.std.specs.Prelude.{◌≡◌, ℕ, ◌+◌, ◌^◌, ◌-◌, min, List, [], map, Some, Option}
use Rattle.outside_net.specs.declared.memory.listener.MemListener.{MemListener}
use Rattle.outside_net.specs.declared.memory.link.MemLink.{MemLink}
use Rattle.outside_net.specs.MemLink.{source_in}
use Rattle.outside_net.specs.MemSource.{left_of}
use Rattle.outside_net.specs.Kept.{kept_items, kept_room}
use Rattle.outside_net.specs.Places.{Returned}

-- The connections that will come, in order.
abbrev pub coming_links : MemListener → List MemLink
coming_links listener = listener.coming.items

-- The inputs of the connections that will come, in order.
abbrev pub coming_of : MemListener → List (List ℕ)
coming_of listener = map (λ link. left_of (source_in link)) (coming_links listener)

-- The connections that were returned, if they are known.
abbrev pub written_of : MemListener → Option (List Returned)
written_of listener = kept_items listener.written

-- The capacity for more returned connections.
abbrev pub room_of : MemListener → ℕ
room_of listener = kept_room listener.written

-- The number of waits that failed.
abbrev pub faults_of : MemListener → ℕ
faults_of listener = listener.faults

-- The numbers of the waits that fail.
abbrev pub failing_calls : MemListener → List ℕ
failing_calls listener = listener.failing.items

-- The number of the next wait, at most 2^64 - 1.
abbrev pub next_call : MemListener → ℕ
next_call listener = min (listener.calls + 1) (2 ^ 64 - 1)

-- A wait was counted, and the settings are unchanged.
pub record CountsCall (before now : MemListener) : Type 0 where
  pub number : next_call now ≡ min (next_call before + 1) (2 ^ 64 - 1)
  pub failing : failing_calls now ≡ failing_calls before

-- No connection was returned, and no wait failed.
pub record IsNew (listener : MemListener) : Type 0 where
  pub unwritten : written_of listener ≡ Some []
  pub faultless : listener.faults ≡ 0
