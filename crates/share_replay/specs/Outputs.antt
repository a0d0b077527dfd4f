-- What a call writes to its output, and the output's error counter.
use Rattle.std.specs.Prelude.{◌≡◌, ℕ, List, Result, MatchResult}
use Rattle.std.specs.Io.KnownBytes.{Appends}
use Rattle.outside_net.specs.Bounds.{Sinks}
use Rattle.outside_net.specs.Told.{AppendsPrefix}
use Rattle.share_replay.specs.Stops.{CountsFault}
use Rattle.share_replay.specs.declared.replay_error.ReplayError.{ReplayError}

abbrev pub WritesAll : {W : Type 0} → Sinks W → W → W → List ℕ → Type 0
WritesAll g old new bytes = Appends (g.taken old) (g.taken new) bytes

-- A prefix of the bytes was written, perhaps empty or all.
abbrev pub WritesPrefix : {W : Type 0} → Sinks W → W → W → List ℕ → Type 0
WritesPrefix g old new bytes = AppendsPrefix (g.taken old) (g.taken new) bytes

-- The error counter after a call: a success leaves it unchanged.
abbrev pub CountsErrors : {W A : Type 0} → Sinks W → W → W → Result A ReplayError → Type 0
CountsErrors g old new result =
    MatchResult result (λ _. g.faults new ≡ g.faults old) (λ e. CountsFault (g.faults old) (g.faults new) e)
