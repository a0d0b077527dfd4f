-- The state of a client towards its peer.
use Rattle.std.specs.Prelude.{ℕ, List, [], Option}
use Rattle.std.specs.Io.KnownBytes.{prepend_known}
use Rattle.outside_net.specs.Bounds.{Links}

-- The bytes that were read and not used by a response, and how many bytes responses have used.
pub record ReadAhead : Type 0 where
  pub unused : List ℕ
  pub used : ℕ

-- The bytes written, the bytes that the peer still owes, and how many of its bytes responses have used. `None` if the
-- connection's bytes are not known.
pub record Point : Type 0 where
  pub taken : Option (List ℕ)
  pub owed : Option (List ℕ)
  pub used : ℕ

abbrev pub point : Option (List ℕ) → Option (List ℕ) → List ℕ → ℕ → Point
point taken left unused used = record { taken = taken; owed = prepend_known unused left; used = used }

-- The same, with what was read ahead.
abbrev pub place : Option (List ℕ) → Option (List ℕ) → ReadAhead → Point
place taken left ahead = point taken left ahead.unused ahead.used

-- Nothing was read yet.
abbrev pub nothing_read : ReadAhead
nothing_read = record { unused = []; used = 0 }

-- The state of a client, by its connection and what it has read ahead.
abbrev pub point_of : {K : Type 0} → Links K → K → ReadAhead → Point
point_of g link ahead = place (g.taken link) (g.left link) ahead

-- The state of a client that has read nothing of its connection.
abbrev pub start_of : {K : Type 0} → Links K → K → Point
start_of g link = point_of g link nothing_read
