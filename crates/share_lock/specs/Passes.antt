-- Which lock a handle belongs to, what is known of it, and when it may begin or end a turn.
use Rattle.std.specs.Prelude.{◌≡◌, ℕ, true, false, List, [], ◌∷◌, None}
use Rattle.atomic_table.specs.Seated.{TableId}
use Rattle.share_lock.specs.declared.pass.Pass.{Pass}
use Rattle.share_lock.specs.declared.pass.ShareLock.{ShareLock}
use Rattle.share_lock.specs.declared.recorded.Recorded.{Ghosts}
use Rattle.share_lock.specs.Known.{Known}

-- A lock: its table, which no other lock has, and the number of handles that it was opened for.
abbrev pub LockId : Type 0
LockId = TableId × ℕ

module _ {S E T : Type 0} where
  abbrev pub lock_id : ShareLock S E T → LockId
  lock_id lock = (lock.table.shared.table_id, lock.passes)

  abbrev pub passes_of : ShareLock S E T → ℕ
  passes_of lock = lock.passes

module _ {S E T : Type 0} {G : Ghosts S E T} where
  abbrev pub lock_of : Pass S E T G → LockId
  lock_of pass = (pass.seat.table_id, pass.seat.me.0.passes)

  abbrev pub known : Pass S E T G → Known E T
  known pass = record { settings = pass.seat.me.0.settings; number = pass.number; taken_in = pass.seat.me.0.taken; seen = pass.seat.me.0.seen; looks = pass.seat.me.0.looks; is_over = pass.is_over }

  -- The history that its turn found.
  abbrev pub found_of : Pass S E T G → List E
  found_of pass = pass.seat.me.0.noted

  -- It belongs to this lock, no turn of it is in progress, and none took the state out for good.
  pub record IsReady (id : LockId) (pass : Pass S E T G) : Type 0 where
    pub lock : lock_of pass ≡ id
    pub going : pass.is_over ≡ false
    pub idle : pass.seat.me.0.ticket ≡ None
    pub outside : pass.seat.me.0.inside ≡ false
    pub free : pass.seat.me.1 ≡ []

  -- It belongs to this lock, and its turn is in progress.
  pub record IsInside (id : LockId) (pass : Pass S E T G) : Type 0 where
    pub lock : lock_of pass ≡ id
    pub going : pass.is_over ≡ false
    pub inside : pass.seat.me.0.inside ≡ true
    pub has : pass.seat.me.1 ≡ (0, None) ∷ []
