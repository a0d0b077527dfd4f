-- A connection in memory: a source and a sink, with its own error counter.
use Rattle.std.specs.Prelude.{◌≡◌, ℕ, ◌+◌, ◌-◌, ◌^◌, min, nat_lt, List, []}
use Rattle.std.specs.Option.{option_map_or}
use Rattle.outside_net.specs.declared.memory.link.MemLink.{MemLink}
use Rattle.outside_net.specs.declared.memory.source.MemSource.{MemSource}
use Rattle.outside_net.specs.declared.memory.sink.MemSink.{MemSink}
use Rattle.outside_net.specs.MemSink.{taken_of}
use Rattle.outside_net.specs.Places.{Returned}

-- The source of its reads.
abbrev pub source_in : MemLink → MemSource
source_in link = link.input

-- The sink of its writes.
abbrev pub sink_in : MemLink → MemSink
sink_in link = link.output

-- The errors of both directions.
abbrev pub faults_of : MemLink → ℕ
faults_of link = link.faults

-- The numbers of the probes that fail.
abbrev pub failing_probes : MemLink → List ℕ
failing_probes link = option_map_or (λ failing. failing.items) link.failing []

-- The number of the next probe, at most 2^64 - 1.
abbrev pub next_probe : MemLink → ℕ
next_probe link = min (link.probes + 1) (2 ^ 64 - 1)

-- A probe was counted, and the settings are unchanged.
pub record CountsProbe (before now : MemLink) : Type 0 where
  pub number : next_probe now ≡ min (next_probe before + 1) (2 ^ 64 - 1)
  pub failing : failing_probes now ≡ failing_probes before

-- No probe was counted, and the settings are unchanged.
pub record ProbesStay (before now : MemLink) : Type 0 where
  pub number : next_probe now ≡ next_probe before
  pub failing : failing_probes now ≡ failing_probes before

-- Nothing was written to it, and no call on it failed.
pub record IsNew (link : MemLink) : Type 0 where
  pub untouched : taken_of link.output ≡ []
  pub faultless : link.faults ≡ 0

-- What is known of the connection after it is returned.
abbrev pub returned_link : MemLink → Returned
returned_link link = (taken_of link.output, nat_lt 0 link.faults)
