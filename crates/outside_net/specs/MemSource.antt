-- A source in memory, beyond what it is as a source: its settings, and the number of its next call.
use Rattle.std.specs.Prelude.{◌≡◌, ℕ, ◌+◌, ◌-◌, ◌^◌, min, List, drop}
use Rattle.outside_net.specs.declared.memory.source.MemSource.{MemSource}

-- The bytes that are left to read.
abbrev pub left_of : MemSource → List ℕ
left_of source = drop source.given source.bytes.items

-- The most bytes that one read returns.
abbrev pub per_call : MemSource → ℕ
per_call source = source.per_call

-- The numbers of the calls that fail.
abbrev pub failing_calls : MemSource → List ℕ
failing_calls source = source.failing.items

-- The number of the next call, at most 2^64 - 1.
abbrev pub next_call : MemSource → ℕ
next_call source = min (source.calls + 1) (2 ^ 64 - 1)

-- A call was counted, and the settings are unchanged.
pub record CountsCall (before now : MemSource) : Type 0 where
  pub number : next_call now ≡ min (next_call before + 1) (2 ^ 64 - 1)
  pub pieces : per_call now ≡ per_call before
  pub failing : failing_calls now ≡ failing_calls before
