-- What is known of handles that were joined to one.
use Rattle.std.specs.Prelude.{ℕ, List, All, AllPairs, Contains}
use Rattle.share_lock.specs.declared.pass.Pass.{Pass}
use Rattle.share_lock.specs.Histories.{Continues}
use Rattle.share_lock.specs.Known.{numbers_of}
use Rattle.share_lock.specs.Passes.{known}
use Rattle.lock_trials.specs.declared.numbers.Number.{Number}
use Rattle.lock_trials.specs.declared.numbers.Numbers.{Numbers}
use Rattle.lock_trials.specs.contracts.numbers.NumbersRecorded.TheImpl.{ghosts}
use Rattle.lock_trials.specs.Made.{by_of}
use Rattle.lock_trials.specs.Work.{Apart}

abbrev pub NumbersPass : Type 0
NumbersPass = Pass Numbers Number (Unit {0}) ghosts

-- A handle has the numbers of another, and its history continues the other's.
pub record IsCovered (by other : NumbersPass) : Type 0 where
  pub numbers : (n : ℕ) → Contains (numbers_of (known other)) n → Contains (numbers_of (known by)) n
  pub history : Continues by_of (numbers_of (known other)) (known other).seen (known by).seen

abbrev pub AreCovered : NumbersPass → List NumbersPass → Type 0
AreCovered pass passes = All (λ p. IsCovered pass p) passes

-- No two handles have a number in common.
abbrev pub AreApart : List NumbersPass → Type 0
AreApart passes = AllPairs (λ p q. Apart (known p) (known q)) passes
