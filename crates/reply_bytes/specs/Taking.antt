-- What a sink takes during a call, of all bytes of a reply.
use Rattle.std.specs.Prelude.{ℕ, List}
use Rattle.std.specs.Io.KnownBytes.{Appends}
use Rattle.outside_net.specs.Bounds.{Sinks}
use Rattle.outside_net.specs.Told.{AppendsPrefix}

module _ {W : Type 0} (g : Sinks W) where
  -- the sink takes these bytes
  abbrev pub TakesAll : W → W → List ℕ → Type 0
  TakesAll old new bytes = Appends (g.taken old) (g.taken new) bytes

  -- the sink takes a prefix of these bytes, perhaps none or all
  abbrev pub TakesPrefix : W → W → List ℕ → Type 0
  TakesPrefix old new bytes = AppendsPrefix (g.taken old) (g.taken new) bytes
