-- What contracts see of inputs, outputs, connections, listeners and networks whose type is a parameter. A bound on a
-- type carries the ghost members of its traits as one record; each record type here has their order. Clauses name an
-- object and its bound by these words.
use Rattle.std.specs.Prelude.{ℕ, Bool, List, Option}
use Rattle.outside_disks.specs.declared.faulted.Faulted as faulted
use Rattle.outside_net.specs.declared.source.Source as source
use Rattle.outside_net.specs.declared.sink.Sink as sink
use Rattle.outside_net.specs.declared.net.Listener as listener
use Rattle.outside_net.specs.declared.net.Net as net
use Rattle.outside_net.specs.Places.{Returned}
pub use Rattle.outside_disks.specs.Bounds.{FilesSeen, FileSets, files_of}

-- of an input, at a moment: the bytes that are left to read, and the error counter
pub record InputSeen : Type 0 where
  pub left : Option (List ℕ)
  pub faults : ℕ

-- of an output: the bytes that it took, and the error counter
pub record OutputSeen : Type 0 where
  pub taken : Option (List ℕ)
  pub faults : ℕ

-- of a network: the addresses of the calls of `listen` and `connect`, the closed connections (the bytes sent on each,
-- and whether an error was counted on it), the inputs of connections to come, and the error counter
pub record NetSeen : Type 0 where
  pub asked : Option (List (List ℕ × ℕ))
  pub written : Option (List (List ℕ × Bool))
  pub listener_links : Option (List (List (List ℕ)))
  pub next_input : Option (List ℕ)
  pub faults : ℕ

abbrev pub Sources : Type 0 → Type 0
Sources I = record { faults : I → ℕ; left : I → Option (List ℕ); beside_left : I → Option (List ℕ) }

abbrev pub Sinks : Type 0 → Type 0
Sinks W = record { faults : W → ℕ; taken : W → Option (List ℕ); beside_taken : W → Option (List ℕ); sure_room : W → ℕ }

abbrev pub Links : Type 0 → Type 0
Links K = record { taken : K → Option (List ℕ); beside_taken : K → Option (List ℕ); sure_room : K → ℕ; faults : K → ℕ; left : K → Option (List ℕ); beside_left : K → Option (List ℕ) }

abbrev pub Listeners : Type 0 → Type 0
Listeners D = record { faults : D → ℕ; coming : D → Option (List (List ℕ)); written : D → Option (List Returned) }

abbrev pub Nets : Type 0 → Type 0
Nets N = record { faults : N → ℕ; asked : N → Option (List (List ℕ × ℕ)); written : N → Option (List Returned); listener_links : N → Option (List (List (List ℕ))); next_input : N → Option (List ℕ); open_count : N → ℕ }

abbrev pub input_of : {I : Type 0} → Sources I → I → InputSeen
input_of g input = record { left = g.left input; faults = g.faults input }

abbrev pub output_of : {W : Type 0} → Sinks W → W → OutputSeen
output_of g output = record { taken = g.taken output; faults = g.faults output }

abbrev pub net_of : {N : Type 0} → Nets N → N → NetSeen
net_of g net = record { asked = g.asked net; written = g.written net; listener_links = g.listener_links net; next_input = g.next_input net; faults = g.faults net }

-- the same records, of those of a proof, in which the error counter is apart
abbrev pub sources : {I : Type 0} → source.Ghosts I → faulted.Ghosts I → Sources I
sources g f = record { faults = f.faults; left = g.left; beside_left = g.beside_left }

abbrev pub sinks : {W : Type 0} → sink.Ghosts W → faulted.Ghosts W → Sinks W
sinks g f = record { faults = f.faults; taken = g.taken; beside_taken = g.beside_taken; sure_room = g.sure_room }

abbrev pub links : {K : Type 0} → source.Ghosts K → sink.Ghosts K → faulted.Ghosts K → Links K
links r w f = record { taken = w.taken; beside_taken = w.beside_taken; sure_room = w.sure_room; faults = f.faults; left = r.left; beside_left = r.beside_left }

abbrev pub listeners : {D L : Type 0} → listener.Ghosts D L → faulted.Ghosts D → Listeners D
listeners g f = record { faults = f.faults; coming = g.coming; written = g.written }

abbrev pub nets : {N L D : Type 0} → net.Ghosts N L D → faulted.Ghosts N → Nets N
nets g f = record { faults = f.faults; asked = g.asked; written = g.written; listener_links = g.listener_links; next_input = g.next_input; open_count = g.open_count }
