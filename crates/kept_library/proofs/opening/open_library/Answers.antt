use Rattle.std.proofs.Common.{◌≡◌, ◌++◌, ◌∙◌, sym, subst, List, Some, IfSome}
use Rattle.item_model.specs.declared.changes.Edit.{Edit}
use Rattle.outside_disks.specs.Contents.{ClosesFile}
use Rattle.share_core.specs.Opened.{if_filled}
use Rattle.command_core.specs.declared.fault.Fault.TheVariants as fault
use Rattle.edit_file.specs.Files.{HasBatches}
use Rattle.edit_file.specs.Standing.{BreaksAt, FileStands}
use Rattle.kept_library.specs.Opening.{LeavesRefused, StopsOpening}
use Rattle.kept_library.specs.declared.fault.FileFault.TheVariants.{Failed}
use Rattle.kept_library.proofs.Stops.{batches_of_share, leaves_file, leaves_share, stops_file, stops_share}
use Rattle.kept_library.proofs.Told.{told_at, same_at, placed_at, leaves_kept, leaves_unopened}
use Rattle.kept_library.proofs.opening.open_library.Goals as goal

pub returns-in-Err-clause-stops : goal.returns-in-Err-clause-stops
returns-in-Err-clause-stops g c =
    let contents = g.F.Files.contents c.args.files.now in
    subst (StopsOpening contents c.args.path.now c.args.first) (sym c.file_fault.ensures)
    (stops_file contents c.args.path.now c.args.first c.in-Err.error
    (λ at is. told_at (λ b. BreaksAt b at) contents c.args.path.now _ _ c.in-Ok.ensures.opened (c.in-Err.ensures.breaks at is)))

pub returns-in-Err-clause-left : goal.returns-in-Err-clause-left
returns-in-Err-clause-left g c =
    let before = g.F.Files.contents c.args.files.now in
    let now = g.F.Files.contents c.close.new.self in
    let closed = subst (λ contents. ClosesFile contents now (g.F.D.Disk.opened_as c.in-Err.disk) (g.F.D.Disk.bytes c.in-Err.disk)) c.in-Ok.ensures.contents_stay c.close.ensures.closed in
    subst (LeavesRefused before now c.args.path.now c.args.first) (sym c.file_fault.ensures)
    (leaves_file before now c.args.path.now c.args.first c.in-Err.error
    (λ sound. same_at before now c.args.path.now _ _ _ _ c.in-Ok.ensures.opened c.in-Err.ensures.name_stays (c.in-Err.ensures.unchanged sound).0 closed)
    (leaves_kept g.F.D.Disk g.met.F.D.Disk.bytes_count before now c.args.path.now c.in-Ok.disk c.in-Err.disk c.in-Ok.ensures.opened c.in-Ok.ensures.alone c.in-Err.ensures.crash
    c.in-Err.ensures.told_stays c.in-Err.ensures.name_stays closed))

pub returns-in-Ok-open_and_append-clause-opened : goal.returns-in-Ok-open_and_append-clause-opened
returns-in-Ok-open_and_append-clause-opened g c =
    let before = g.F.Files.contents c.args.files.now in
    let opened = c.in-Ok-open.opened in record {
      before = opened.1.items;
      stood = told_at (λ b. FileStands b opened.1.items) before c.args.path.now _ _ c.in-Ok.ensures.opened c.in-Ok-open.ensures.stands;
      share_is = c.in-Ok-open_and_append.ensures.opened;
      few = c.in-Ok-open_and_append.ensures.few;
      keeps = subst (λ (bs : List (List Edit)). HasBatches g.F.D.Disk c.open_and_append.new.file bs)
          (sym (batches_of_share (record { name = c.args.name.now; keep = c.args.keep }) (opened.1.items ++ if_filled c.args.first) c.in-Ok-open_and_append.share c.in-Ok-open_and_append.ensures.opened))
          (c.in-Ok-open_and_append.ensures.keeps c.in-Ok-open.ensures.keeps);
      sound = c.in-Ok-open_and_append.ensures.sound;
      place = subst (λ place. IfSome before (λ _. place ≡ Some c.args.path.now)) (sym c.in-Ok-open_and_append.ensures.place_stays)
          (placed_at g.F.D.Disk before c.args.path.now _ _ opened.0 c.in-Ok.ensures.opened c.in-Ok-open.ensures.told_stays c.in-Ok-open.ensures.name_stays);
      faultless = c.in-Ok-open_and_append.ensures.count ∙ c.in-Ok-open.ensures.count ∙ c.in-Ok.ensures.fresh;
    }

pub returns-in-Err-open_and_append-clause-stops : goal.returns-in-Err-open_and_append-clause-stops
returns-in-Err-open_and_append-clause-stops g c =
    let contents = g.F.Files.contents c.args.files.now in
    let before = c.in-Ok-open.opened.1.items in
    stops_share contents c.args.path.now c.args.first before c.in-Err-open_and_append.stop
    (told_at (λ b. FileStands b before) contents c.args.path.now _ _ c.in-Ok.ensures.opened c.in-Ok-open.ensures.stands) c.in-Err-open_and_append.ensures.stops

pub returns-in-Err-open_and_append-clause-left : goal.returns-in-Err-open_and_append-clause-left
returns-in-Err-open_and_append-clause-left g c =
    let before = g.F.Files.contents c.args.files.now in
    let now = g.F.Files.contents c.close-in-Err-open_and_append.new.self in
    let opened = c.in-Ok-open.opened in
    leaves_share before now c.args.path.now c.args.first opened.1.items (opened.1.items ++ if_filled c.args.first) c.in-Err-open_and_append.stop
    (told_at (λ b. FileStands b opened.1.items) before c.args.path.now _ _ c.in-Ok.ensures.opened c.in-Ok-open.ensures.stands) c.in-Err-open_and_append.ensures.stops
    (leaves_unopened g.F.D.Disk g.met.F.D.Disk.bytes_count c.args.path.now opened.1.items c.args.first before now opened.0 c.open_and_append.new.file (c.in-Err-open_and_append.stop ≡ fault.Own Failed)
    c.in-Ok-open.ensures.sound c.in-Ok-open.ensures.keeps
    (placed_at g.F.D.Disk before c.args.path.now _ _ opened.0 c.in-Ok.ensures.opened c.in-Ok-open.ensures.told_stays c.in-Ok-open.ensures.name_stays) c.in-Err-open_and_append.ensures.place_stays
    (subst (λ contents. ClosesFile contents now (g.F.D.Disk.opened_as c.open_and_append.new.file.disk) (g.F.D.Disk.bytes c.open_and_append.new.file.disk)) c.in-Ok.ensures.contents_stay
    (subst (λ disk. ClosesFile (g.F.Files.contents c.open.new.self) now (g.F.D.Disk.opened_as disk) (g.F.D.Disk.bytes disk)) c.into_disk.ensures c.close-in-Err-open_and_append.ensures.closed))
    c.in-Err-open_and_append.ensures.unchanged)
