-- A share may go to another thread: nothing that it owns is tied to one.
use mathlib.Core.List.{[], ◌∷◌}
use base.Fml.{Lft}
use mir.Syntax.{Lifetime, named}
use denote.RattleType.{RattleType, Denots}
use denote.Ref.{MutRef, ShrRef}
use denote.Struct.Struct.{Shape, Struct}
use denote.Param.SendFields.{declared_send, as_row_send}
use denote.Struct.Field.{row_field}
use denote.Param.Send.{IsSend, IsSync, SyncAt, sendable, view_send, mut_send, shr_send, shr_sync, struct_send, struct_sync_at}
use Rattle.std.proofs.Crossing as std
use Rattle.std.proofs.MapsCrossing as maps
use Rattle.std.proofs.option.Option.TheSendSync as option
use Rattle.std.proofs.alloc.Global.TheSendSync as heap
use Rattle.std.proofs.collections.BTreeSet.TheSendSync as set
use Rattle.key_versions.proofs.version.Version.TheSendSync as version
use Rattle.key_versions.proofs.versions.Versions.TheSendSync as versions
use Rattle.dmap_tags.proofs.payload.Text.TheSendSync as text
use Rattle.item_model.proofs.condition.Cond.TheSendSync as cond
use Rattle.item_model.proofs.condition.Op.TheSendSync as op
use Rattle.item_model.proofs.condition.Pattern.TheSendSync as pattern
use Rattle.item_model.proofs.item.Item.TheSendSync as item
use Rattle.item_model.proofs.item.PropValue.TheSendSync as value
use Rattle.item_model.proofs.item.Row.TheSendSync as row
use Rattle.item_model.proofs.property.Property.TheSendSync as property
use Rattle.item_model.proofs.query.Queries.TheLaws.TheKnot as query
use Rattle.item_model.proofs.shared.SharedRow.TheSendSync as shared
use Rattle.item_model.proofs.texts.Texts.TheSendSync as texts
use Rattle.item_store.proofs.store.ItemStore.TheSendSync as items
use Rattle.playlist_store.proofs.named.Named.TheSendSync as named
use Rattle.prop_index.proofs.index.PropIndex.TheSendSync as index
use Rattle.share_core.proofs.settings.Settings.TheSendSync as settings
use Rattle.share_asks.proofs.ask.Role.TheSendSync as role
use Rattle.share_lock.proofs.bell.Bell.TheSendSync as bell
use Rattle.share_lock.proofs.pass.Pass.TheSendSync as pass
use Rattle.share_lock.proofs.pass.ShareLock.TheSendSync as lock
use Rattle.share_server.proofs.report.LinkReport.TheSendSync as report
use Rattle.share_workers.proofs.worker.WorkerEnd.TheSendSync as end
use Rattle.std.specs.contracts.vec.Vec.{the_row as vec_row}
use Rattle.std.specs.contracts.alloc.Global.{the_row as heap_row}
use Rattle.std.specs.contracts.impls.GlobalAllocator.TheImpl.{ghosts as heap_ghosts}
use Rattle.share_lock.specs.contracts.pass.ShareLock.{the_row as lock_row}
use Rattle.share_lock.specs.contracts.bell.Bell.{the_row as bell_row}
use Rattle.share_lock.specs.contracts.pass.Pass.{the_row as pass_row}
use Rattle.share_server.specs.contracts.report.LinkReport.{the_row as report_row}
use Rattle.share_core.specs.contracts.settings.Settings.{the_row as settings_row}
use Rattle.share_core.specs.contracts.share.ShareRecorded.TheImpl.{ghosts}
use Rattle.share_workers.specs.contracts.worker.Worker.{the_row as worker_row, the_type as worker_type}
use Rattle.item_model.specs.contracts.changes.Edit.{the_row as edit_row}
use Rattle.item_model.specs.contracts.changes.Batch.{the_row as batch_row}
use Rattle.item_model.specs.contracts.changes.Entry.{the_row as entry_row}
use Rattle.playlist_store.specs.contracts.head.ListHead.{the_row as head_row}
use Rattle.playlist_store.specs.contracts.kept.ListVersion.{the_row as kept_row}
use Rattle.playlist_store.specs.contracts.kept.ListHistory.{the_row as list_row}
use Rattle.playlist_store.specs.contracts.store.PlaylistStore.{the_row as lists_row}
use Rattle.share_register.specs.contracts.register.Register.{the_row as register_row}
use Rattle.share_core.specs.contracts.share.Share.{the_row as share_row}
use Rattle.share_core.specs.contracts.stores.Stores.{the_row as stores_row, the_type as stores_type}
use Rattle.share_core.specs.contracts.share.Share.TheInside.{the_type as share_type}

pub ruleset parts = (
  sendable,
  std.crosses,
  maps.crosses,
  query.crosses,
  text.the_send,
  text.the_sync,
  cond.the_send,
  cond.the_sync,
  op.the_send,
  op.the_sync,
  pattern.the_send,
  pattern.the_sync,
  item.the_send,
  item.the_sync,
  value.the_send,
  value.the_sync,
  row.the_send,
  row.the_sync,
  property.the_send,
  property.the_sync,
  shared.the_send,
  shared.the_sync,
  texts.the_send,
  texts.the_sync,
  named.the_send,
  named.the_sync,
  option.the_send,
  option.the_sync,
  heap.the_send,
  heap.the_sync,
  set.the_send,
  version.the_send,
  versions.the_send,
)

pub edit_send : IsSend edit_row
edit_send = search parts depth 30

pub batch_send : IsSend batch_row
batch_send = search (parts, edit_send) depth 30

pub entry_send : IsSend entry_row
entry_send = search (parts, batch_send) depth 30

pub register_send : IsSend register_row
register_send = search (parts, entry_send) depth 30

pub head_send : IsSend head_row
head_send = search parts depth 30

pub kept_send : IsSend kept_row
kept_send = search (parts, head_send) depth 30

pub list_send : IsSend list_row
list_send = search (parts, kept_send) depth 30

pub lists_send : IsSend lists_row
lists_send = search (parts, list_send) depth 30

pub stores_send : IsSend stores_row
stores_send = declared_send stores_type (items.the_send, (lists_send, (index.the_send, tt)))

pub share_send : IsSend share_row
share_send = view_send _ _ _ _ _ (declared_send share_type (std.send, (settings.the_send, (register_send, (stores_send, tt)))))

pub pass_send : IsSend (pass_row share_row entry_row settings_row ghosts)
pass_send = pass.the_send share_row entry_row settings_row ghosts share_send

pub lock_sync : IsSync (lock_row share_row entry_row settings_row ghosts)
lock_sync = lock.the_sync share_row entry_row settings_row ghosts share_send

reports_send : IsSend (vec_row report_row heap_row heap_ghosts)
reports_send = std.Vec-send report_row report.the_send

pub worker_send : (D : RattleType) → IsSend D → IsSend (worker_row D)
worker_send D listener = declared_send (worker_type D) (pass_send, (as_row_send (row_field D) listener, (role.the_send, (reports_send, (end.the_send, tt)))))

-- what the threads' work borrows: a runtime, an allocator, the lock and the bell, each for as long as it may
abbrev pub borrowed : RattleType → (runtime allocator share rings : Lft) → Shape
borrowed R runtime allocator share rings = record {
  name = [];
  args = [];
  types = [];
  fields = ShrRef (named 0) runtime R ∷ ShrRef (named 0) allocator heap_row ∷ ShrRef (named 0) share (lock_row share_row entry_row settings_row ghosts) ∷ ShrRef (named 0) rings bell_row ∷ [];
}

pub borrowed_sync : (R : RattleType) (runtime allocator share rings : Lft) → IsSync R → (a : Denots (borrowed R runtime allocator share rings).fields) → SyncAt (Struct (borrowed R runtime allocator share rings)) a
borrowed_sync R runtime allocator share rings sync a =
    struct_sync_at (borrowed R runtime allocator share rings) a (
      (shr_sync (named 0) runtime R sync).shared a.0,
      (
        (shr_sync (named 0) allocator heap_row std.sync).shared a.1.0,
        (
          (shr_sync (named 0) share (lock_row share_row entry_row settings_row ghosts) lock_sync).shared a.1.1.0,
          ((shr_sync (named 0) rings bell_row bell.the_sync).shared a.1.1.1.0, tt),
        ),
      ),
    )

-- what the thread of the worker with a keeper borrows: the same, and the worker and its keeper
abbrev pub lent : (R D F : RattleType) → (runtime allocator share rings served kept : Lft) (one two : Lifetime) → Shape
lent R D F runtime allocator share rings served kept one two = record {
  name = [];
  args = [];
  types = [];
  fields =
      ShrRef (named 0) runtime R ∷ ShrRef (named 0) allocator heap_row ∷ ShrRef (named 0) share (lock_row share_row entry_row settings_row ghosts) ∷ ShrRef (named 0) rings bell_row
      ∷ MutRef one served (worker_row D) ∷ MutRef two kept F ∷ [];
}

pub lent_send : (R D F : RattleType) (runtime allocator share rings served kept : Lft) (one two : Lifetime) → IsSync R → IsSend D → IsSend F
    → IsSend (Struct (lent R D F runtime allocator share rings served kept one two))
lent_send R D F runtime allocator share rings served kept one two sync listener keeper =
    struct_send (lent R D F runtime allocator share rings served kept one two) (
      shr_send (named 0) runtime R sync,
      (
        shr_send (named 0) allocator heap_row std.sync,
        (
          shr_send (named 0) share (lock_row share_row entry_row settings_row ghosts) lock_sync,
          (shr_send (named 0) rings bell_row bell.the_sync, (mut_send one served (worker_row D) (worker_send D listener), (mut_send two kept F keeper, tt))),
        ),
      ),
    )
