-- A turn that lends its state.
use Rattle.std.specs.Borrow.{Lends, MutBor, Fml}
use Rattle.std.specs.Prelude.{[]}
use denote.RattleType.{RattleType}
use mir.Syntax.{named}
use Rattle.share_lock.specs.declared.pass.Turn.{Turn}
use Rattle.share_lock.specs.declared.recorded.Recorded.{Ghosts}
use Rattle.share_lock.specs.contracts.pass.Turn.{the_row}

-- The turn ends with the last value of the reference as its state.
abbrev pub LendsState : (R R' R'' : RattleType) (G : Ghosts R.Denot R'.Denot R''.Denot) → MutBor (Turn R.Denot R'.Denot R''.Denot G) → MutBor R.Denot → Fml
LendsState R R' R'' G s r = Lends (the_row (record { mir = named 1; lft = [] }) R R' R'' G) R s r (λ w. record s.now { state = w })
