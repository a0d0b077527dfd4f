-- The error counter of a network whose call may also fail to allocate, which is not counted.
use Rattle.std.specs.Prelude.{◌≡◌, ℕ, Ok, Err, Result}
use Rattle.outside_net.specs.declared.net.NetError.{NetError}
use Rattle.outside_net.specs.declared.net.NetError.TheVariants.{Failed, Memory}
use Rattle.outside_net.specs.Counts.{Rose}

-- The counter increased if the result is `Failed`, and is unchanged otherwise.
abbrev pub CountsNetFaults : {T : Type 0} → ℕ → ℕ → Result T NetError → Type 0
CountsNetFaults before now (Ok x) = now ≡ before
CountsNetFaults before now (Err Failed) = Rose before now
CountsNetFaults before now (Err Memory) = now ≡ before
