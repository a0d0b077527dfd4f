-- The numbers of a list, and the handle that added each.
use Rattle.std.specs.Prelude.{ℕ, List}
use Rattle.lock_trials.specs.declared.numbers.Number.{Number}
use Rattle.lock_trials.specs.declared.numbers.Numbers.{Numbers}

abbrev pub numbers_in : Numbers → List Number
numbers_in s = s.items.items

abbrev pub by_of : Number → ℕ
by_of n = n.by
