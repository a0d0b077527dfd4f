-- Which errors are faults of the bytes themselves: all but their end inside a tag and allocation failures.
use Rattle.std.specs.Prelude.{◌≡◌, Bool, true, false}
use Rattle.dmap_stream.specs.declared.refusal.StreamError.{StreamError}
use Rattle.dmap_stream.specs.declared.refusal.StreamError.TheVariants.{TooLarge, TooDeep, Overrun, ShortHead, Truncated, Memory}
use Rattle.dmap_stream.specs.Walk.{Ending, between, inside, broken}

abbrev pub is_fault : StreamError → Bool
is_fault (TooLarge at) = true
is_fault (TooDeep at) = true
is_fault (Overrun at c) = true
is_fault (ShortHead at) = true
is_fault (Truncated at) = false
is_fault Memory = false

-- bytes are broken only by faults
abbrev pub BreaksByFault : Ending → Type 0
BreaksByFault between = Unit {0}
BreaksByFault inside = Unit {0}
BreaksByFault (broken e) = is_fault e ≡ true
