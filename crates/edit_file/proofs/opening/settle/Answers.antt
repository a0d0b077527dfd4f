-- Nothing is changed until it is known which file it is; an unfinished one is then made, and another is read.
use Rattle.std.proofs.Common.{◌∙◌}
use Rattle.std.proofs.lemmas.Result.{IfOk-from_err}
use Rattle.edit_file.specs.Making.{empty_file}
use Rattle.edit_file.specs.Standing.{FileStands}
use Rattle.edit_file.proofs.Opened.{was_unmade, was_made, made_rests, make_leaves, quiet_then_run}
use Rattle.edit_file.proofs.Quiet.{quiet_then, quiet_holds}
use Rattle.edit_file.proofs.opening.settle.Goals as goal

pub returns-in_err-make-clause-crash : goal.returns-in_err-make-clause-crash
returns-in_err-make-clause-crash g c b batches stands held =
    let mid = c.in_ok-len.ensures.held b held.told in
    let here = quiet_holds g.D.Disk _ _ b c.is_unmade.ensures.stays.quiet c.in_ok-is_unmade.ensures.stays.bytes_stay mid.1 in
    let unmade = was_unmade b _ c.if-branch.true (c.in_ok-is_unmade.ensures.exact b mid.0 mid.1.told) in
    make_leaves g.D.Disk g.met.D.Disk.now_alone _ _ _ b batches unmade stands held
    (quiet_then g.D.Disk _ _ _ c.measure.ensures.stays.quiet c.is_unmade.ensures.stays.quiet) (c.make.ensures.crash b unmade here)

pub returns-then-branch-clause-rests : goal.returns-then-branch-clause-rests
returns-then-branch-clause-rests g c b told =
    let mid = c.in_ok-len.ensures.held b told in
    let here = quiet_holds g.D.Disk _ _ b c.is_unmade.ensures.stays.quiet c.in_ok-is_unmade.ensures.stays.bytes_stay mid.1 in
    let unmade = was_unmade b _ c.if-branch.true (c.in_ok-is_unmade.ensures.exact b mid.0 mid.1.told) in
    (empty_file, made_rests c.new.result.items c.new.ensures.items, c.in_ok-make.ensures.made b unmade here)

pub returns-then-branch-clause-crash : goal.returns-then-branch-clause-crash
returns-then-branch-clause-crash g c b batches stands held =
    let mid = c.in_ok-len.ensures.held b held.told in
    let here = quiet_holds g.D.Disk _ _ b c.is_unmade.ensures.stays.quiet c.in_ok-is_unmade.ensures.stays.bytes_stay mid.1 in
    let unmade = was_unmade b _ c.if-branch.true (c.in_ok-is_unmade.ensures.exact b mid.0 mid.1.told) in
    make_leaves g.D.Disk g.met.D.Disk.now_alone _ _ _ b batches unmade stands held
    (quiet_then g.D.Disk _ _ _ c.measure.ensures.stays.quiet c.is_unmade.ensures.stays.quiet) (c.make.ensures.crash b unmade here)

pub returns-clause-breaks : goal.returns-clause-breaks
returns-clause-breaks g c b at told same =
    let mid = c.in_ok-len.ensures.held b told in
    let here = quiet_holds g.D.Disk _ _ b c.is_unmade.ensures.stays.quiet c.in_ok-is_unmade.ensures.stays.bytes_stay mid.1 in
    c.read_made.ensures.breaks b at (was_made b _ c.if-branch.false (c.in_ok-is_unmade.ensures.exact b mid.0 mid.1.told)) here same

pub returns-clause-crash : goal.returns-clause-crash
returns-clause-crash g c b batches stands held =
    let mid = c.in_ok-len.ensures.held b held.told in
    let here = quiet_holds g.D.Disk _ _ b c.is_unmade.ensures.stays.quiet c.in_ok-is_unmade.ensures.stays.bytes_stay mid.1 in
    quiet_then_run g.D.Disk g.met.D.Disk.now_alone _ _ _ b (λ image. FileStands image batches) held stands
    (quiet_then g.D.Disk _ _ _ c.measure.ensures.stays.quiet c.is_unmade.ensures.stays.quiet) (c.read_made.ensures.crash b batches stands here)

pub returns-in_err-len-clause-stands : goal.returns-in_err-len-clause-stands
returns-in_err-len-clause-stands g c b told = IfOk-from_err _ _ c.from_residual.ensures.0

pub returns-in_err-len-clause-rests : goal.returns-in_err-len-clause-rests
returns-in_err-len-clause-rests g c b told = IfOk-from_err _ _ c.from_residual.ensures.0

pub returns-in_err-len-clause-near : goal.returns-in_err-len-clause-near
returns-in_err-len-clause-near g c = IfOk-from_err _ _ c.from_residual.ensures.0

pub returns-in_err-len-clause-filled : goal.returns-in_err-len-clause-filled
returns-in_err-len-clause-filled g c = IfOk-from_err _ _ c.from_residual.ensures.0

pub returns-in_err-len-clause-valid : goal.returns-in_err-len-clause-valid
returns-in_err-len-clause-valid g c = IfOk-from_err _ _ c.from_residual.ensures.0

pub returns-in_err-is_unmade-clause-stands : goal.returns-in_err-is_unmade-clause-stands
returns-in_err-is_unmade-clause-stands g c b told = IfOk-from_err _ _ c.from_residual-in_err-is_unmade.ensures.0

pub returns-in_err-is_unmade-clause-rests : goal.returns-in_err-is_unmade-clause-rests
returns-in_err-is_unmade-clause-rests g c b told = IfOk-from_err _ _ c.from_residual-in_err-is_unmade.ensures.0

pub returns-in_err-is_unmade-clause-near : goal.returns-in_err-is_unmade-clause-near
returns-in_err-is_unmade-clause-near g c = IfOk-from_err _ _ c.from_residual-in_err-is_unmade.ensures.0

pub returns-in_err-is_unmade-clause-filled : goal.returns-in_err-is_unmade-clause-filled
returns-in_err-is_unmade-clause-filled g c = IfOk-from_err _ _ c.from_residual-in_err-is_unmade.ensures.0

pub returns-in_err-is_unmade-clause-valid : goal.returns-in_err-is_unmade-clause-valid
returns-in_err-is_unmade-clause-valid g c = IfOk-from_err _ _ c.from_residual-in_err-is_unmade.ensures.0

pub returns-in_err-make-clause-stands : goal.returns-in_err-make-clause-stands
returns-in_err-make-clause-stands g c b told = IfOk-from_err _ _ c.from_residual-in_err-make.ensures.0

pub returns-in_err-make-clause-rests : goal.returns-in_err-make-clause-rests
returns-in_err-make-clause-rests g c b told = IfOk-from_err _ _ c.from_residual-in_err-make.ensures.0

pub returns-in_err-make-clause-near : goal.returns-in_err-make-clause-near
returns-in_err-make-clause-near g c = IfOk-from_err _ _ c.from_residual-in_err-make.ensures.0

pub returns-in_err-make-clause-filled : goal.returns-in_err-make-clause-filled
returns-in_err-make-clause-filled g c = IfOk-from_err _ _ c.from_residual-in_err-make.ensures.0

pub returns-in_err-make-clause-valid : goal.returns-in_err-make-clause-valid
returns-in_err-make-clause-valid g c = IfOk-from_err _ _ c.from_residual-in_err-make.ensures.0

pub returns-in_err-is_unmade-clause-named : goal.returns-in_err-is_unmade-clause-named
returns-in_err-is_unmade-clause-named g c = record {
  told_stays = c.is_unmade.ensures.stays.named.told_stays ∙ c.measure.ensures.stays.named.told_stays;
  name_stays = c.is_unmade.ensures.stays.named.name_stays ∙ c.measure.ensures.stays.named.name_stays;
}

pub returns-in_err-make-clause-named : goal.returns-in_err-make-clause-named
returns-in_err-make-clause-named g c = record {
  told_stays = c.make.ensures.named.told_stays ∙ c.is_unmade.ensures.stays.named.told_stays ∙ c.measure.ensures.stays.named.told_stays;
  name_stays = c.make.ensures.named.name_stays ∙ c.is_unmade.ensures.stays.named.name_stays ∙ c.measure.ensures.stays.named.name_stays;
}

pub returns-then-branch-clause-named : goal.returns-then-branch-clause-named
returns-then-branch-clause-named g c = record {
  told_stays = c.make.ensures.named.told_stays ∙ c.is_unmade.ensures.stays.named.told_stays ∙ c.measure.ensures.stays.named.told_stays;
  name_stays = c.make.ensures.named.name_stays ∙ c.is_unmade.ensures.stays.named.name_stays ∙ c.measure.ensures.stays.named.name_stays;
}

pub returns-clause-named : goal.returns-clause-named
returns-clause-named g c = record {
  told_stays = c.read_made.ensures.named.told_stays ∙ c.is_unmade.ensures.stays.named.told_stays ∙ c.measure.ensures.stays.named.told_stays;
  name_stays = c.read_made.ensures.named.name_stays ∙ c.is_unmade.ensures.stays.named.name_stays ∙ c.measure.ensures.stays.named.name_stays;
}

pub returns-clause-stands : goal.returns-clause-stands
returns-clause-stands g c b told =
    let mid = c.in_ok-len.ensures.held b told in
    let here = quiet_holds g.D.Disk _ _ b c.is_unmade.ensures.stays.quiet c.in_ok-is_unmade.ensures.stays.bytes_stay mid.1 in
    c.read_made.ensures.stands b here

pub returns-clause-rests : goal.returns-clause-rests
returns-clause-rests g c b told =
    let mid = c.in_ok-len.ensures.held b told in
    let here = quiet_holds g.D.Disk _ _ b c.is_unmade.ensures.stays.quiet c.in_ok-is_unmade.ensures.stays.bytes_stay mid.1 in
    c.read_made.ensures.rests b here

pub returns-clause-near : goal.returns-clause-near
returns-clause-near g c = c.read_made.ensures.near

pub returns-clause-filled : goal.returns-clause-filled
returns-clause-filled g c = c.read_made.ensures.filled

pub returns-clause-valid : goal.returns-clause-valid
returns-clause-valid g c = c.read_made.ensures.valid
