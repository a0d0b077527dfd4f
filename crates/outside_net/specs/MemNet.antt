-- A network in memory, beyond what it is as a network: its settings, and the number of its next call.
use Rattle.std.specs.Prelude.{◌≡◌, ℕ, ◌+◌, ◌-◌, ◌^◌, nat_le, min, if◌then◌else◌, List, ◌∷◌, [], map, slice_get, length, None, Option, option_map}
use Rattle.outside_net.specs.declared.memory.net.MemNet.{MemNet}
use Rattle.outside_net.specs.declared.memory.listener.MemListener.{MemListener}
use Rattle.outside_net.specs.declared.memory.link.MemLink.{MemLink}
use Rattle.outside_net.specs.MemLink.{source_in}
use Rattle.outside_net.specs.MemListener.{coming_of}
use Rattle.outside_net.specs.MemSource.{left_of}
use Rattle.outside_net.specs.Kept.{kept_items, kept_room, keeps}
use Rattle.outside_net.specs.Places.{Returned}

-- The listeners to be opened, in order.
abbrev pub listeners_of : MemNet → List MemListener
listeners_of net = net.listeners.items

-- The connections to be made, in order.
abbrev pub links_of : MemNet → List MemLink
links_of net = net.links.items

-- The inputs of the connections of each listener to be opened.
abbrev pub listener_inputs : MemNet → List (List (List ℕ))
listener_inputs net = map coming_of (listeners_of net)

-- The input of the connection that is made next, if there is one.
abbrev pub input_next : MemNet → Option (List ℕ)
input_next net = option_map (λ link. left_of (source_in link)) (slice_get (links_of net) 0)

-- The requested addresses, if they are known.
abbrev pub asked_of : MemNet → Option (List (List ℕ × ℕ))
asked_of net = kept_items net.asked

-- The capacity for more addresses.
abbrev pub asked_room : MemNet → ℕ
asked_room net = kept_room net.asked

-- The connections that were returned, if they are known.
abbrev pub written_of : MemNet → Option (List Returned)
written_of net = kept_items net.written

-- The capacity for more returned connections.
abbrev pub written_room : MemNet → ℕ
written_room net = kept_room net.written

-- The number of open listeners and connections.
abbrev pub open_of : MemNet → ℕ
open_of net = net.open_count

-- The numbers of the calls that fail.
abbrev pub failing_calls : MemNet → List ℕ
failing_calls net = net.failing.items

-- The number of the next call, at most 2^64 - 1.
abbrev pub next_call : MemNet → ℕ
next_call net = min (net.calls + 1) (2 ^ 64 - 1)

-- A call was counted, and the settings are unchanged.
pub record CountsCall (before now : MemNet) : Type 0 where
  pub number : next_call now ≡ min (next_call before + 1) (2 ^ 64 - 1)
  pub failing : failing_calls now ≡ failing_calls before

-- The network is unchanged, except for connections and listeners that were added.
pub record IsSetAlike (before now : MemNet) : Type 0 where
  pub asked : asked_of now ≡ asked_of before
  pub asked_space : asked_room now ≡ asked_room before
  pub written : written_of now ≡ written_of before
  pub written_space : written_room now ≡ written_room before
  pub failing : failing_calls now ≡ failing_calls before
  pub number : next_call now ≡ next_call before
  pub open_count : now.open_count ≡ before.open_count
  pub faults : now.faults ≡ before.faults

-- The known addresses with one more; `None` if it exceeds the capacity, or 259 bytes, the longest host name with a
-- port.
abbrev pub with_place : Option (List (List ℕ × ℕ)) → ℕ → List ℕ → ℕ → Option (List (List ℕ × ℕ))
with_place asked room place listeners = if nat_le (length place) 259 then keeps asked room ((place, listeners) ∷ []) else None
