-- What goes to the thread in which all workers are served: the crew, and what its work borrows.
use mathlib.Core.List.{[], ◌∷◌}
use base.Fml.{Lft}
use mir.Syntax.{named}
use denote.RattleType.{RattleType}
use denote.Ref.{MutRef, ShrRef}
use denote.Struct.Struct.{Shape, Struct}
use denote.Param.Send.{IsSend, IsSync, mut_send, shr_send, struct_send}
use Rattle.std.proofs.Crossing as std
use Rattle.std.specs.contracts.vec.Vec.{the_row as vec_row}
use Rattle.std.specs.contracts.alloc.Global.{the_row as heap_row}
use Rattle.std.specs.contracts.impls.GlobalAllocator.TheImpl.{ghosts as heap_ghosts}
use Rattle.item_model.specs.contracts.changes.Entry.{the_row as entry_row}
use Rattle.share_core.specs.contracts.settings.Settings.{the_row as settings_row}
use Rattle.share_core.specs.contracts.share.Share.{the_row as share_row}
use Rattle.share_core.specs.contracts.share.ShareRecorded.TheImpl.{ghosts}
use Rattle.share_lock.proofs.bell.Bell.TheSendSync as bell
use Rattle.share_lock.specs.contracts.bell.Bell.{the_row as bell_row}
use Rattle.share_lock.specs.contracts.pass.ShareLock.{the_row as lock_row}
use Rattle.share_workers.specs.contracts.worker.Worker.{the_row as worker_row}
use Rattle.share_workers.proofs.Crossing.{lock_sync, worker_send}

abbrev crew_row : RattleType → RattleType
crew_row D = vec_row (worker_row D) heap_row heap_ghosts

abbrev pub taken : (R D : RattleType) (runtime allocator share rings crew : Lft) → Shape
taken R D runtime allocator share rings crew = record {
  name = [];
  args = [];
  types = [];
  fields = ShrRef (named 8) runtime R ∷ ShrRef (named 9) allocator heap_row ∷ ShrRef (named 10) share (lock_row share_row entry_row settings_row ghosts) ∷ ShrRef (named 11) rings bell_row
      ∷ MutRef (named 12) crew (crew_row D) ∷ [];
}

pub taken_send : (R D : RattleType) (runtime allocator share rings crew : Lft) → IsSync R → IsSend D → IsSend (Struct (taken R D runtime allocator share rings crew))
taken_send R D runtime allocator share rings crew sync listener =
    struct_send (taken R D runtime allocator share rings crew) (
      shr_send (named 8) runtime R sync,
      (
        shr_send (named 9) allocator heap_row std.sync,
        (
          shr_send (named 10) share (lock_row share_row entry_row settings_row ghosts) lock_sync,
          (
            shr_send (named 11) rings bell_row bell.the_sync,
            (mut_send (named 12) crew (crew_row D) (std.Vec-send (worker_row D) (worker_send D listener)), tt),
          ),
        ),
      ),
    )
