-- The error counter after an interrupted replay.
use Rattle.std.specs.Prelude.{◌≡◌, ℕ}
use Rattle.outside_net.specs.Counts.{Rose}
use Rattle.share_replay.specs.declared.replay_error.ReplayError.{ReplayError}
use Rattle.share_replay.specs.declared.replay_error.ReplayError.TheVariants.{Failed, Memory}

-- The sink's counter increased if the error is `Failed`, and is unchanged otherwise.
abbrev pub CountsFault : ℕ → ℕ → ReplayError → Type 0
CountsFault before now Failed = Rose before now
CountsFault before now Memory = now ≡ before
