-- A sink in memory, beyond what it is as a sink: its settings, its capacity, and the number of its next call.
use Rattle.std.specs.Prelude.{◌≡◌, ◌==◌, ℕ, ◌+◌, ◌-◌, ◌^◌, min, if◌then◌else◌, List, length, vec_len}
use Rattle.outside_net.specs.declared.memory.sink.MemSink.{MemSink}

-- The bytes that were written to it.
abbrev pub taken_of : MemSink → List ℕ
taken_of sink = sink.taken.items

-- The capacity for more bytes.
abbrev pub room_left : MemSink → ℕ
room_left sink = sink.room - vec_len sink.taken

-- The most bytes that one write takes.
abbrev pub per_call : MemSink → ℕ
per_call sink = sink.per_call

-- The numbers of the calls that fail.
abbrev pub failing_calls : MemSink → List ℕ
failing_calls sink = sink.failing.items

-- The number of the next call, at most 2^64 - 1.
abbrev pub next_call : MemSink → ℕ
next_call sink = min (sink.calls + 1) (2 ^ 64 - 1)

-- The guaranteed capacity: all of it, unless some call may fail.
abbrev pub sure_room : MemSink → ℕ
sure_room sink = if length (failing_calls sink) == 0 then room_left sink else 0

-- A call was counted, and the settings are unchanged.
pub record CountsCall (before now : MemSink) : Type 0 where
  pub number : next_call now ≡ min (next_call before + 1) (2 ^ 64 - 1)
  pub pieces : per_call now ≡ per_call before
  pub failing : failing_calls now ≡ failing_calls before
