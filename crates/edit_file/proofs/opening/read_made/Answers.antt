-- Each way through a finished file changes nothing, or truncates it after the closing byte.
use Rattle.std.proofs.Common.{rules, ◌≡◌, ◌+◌, ◌≤◌, length, Err, true, false, sym, ◌∙◌, inl, inr}
use Rattle.std.proofs.lemmas.Result.{IfOk-from_err}
use Rattle.edit_file.specs.Standing.{FileStands}
use Rattle.edit_file.proofs.Opened.{head_is, head_is_wrong, closes_with, cut_leaves, cut_is_rest}
use Rattle.edit_file.proofs.Quiet.{if_told, told_of, quiet_then, quiet_run}
use Rattle.edit_file.proofs.Settled.{closed_stands_for, closes_inside}
use Rattle.edit_file.specs.declared.refusal.FileError.TheVariants.{NotEditFile}
use Rattle.edit_file.proofs.opening.read_made.Goals as goal

pub returns-then-not-branch-clause-breaks : goal.returns-then-not-branch-clause-breaks
returns-then-not-branch-clause-breaks g c b at begun held same =
    let it : c.in_ok-has_head.field-0 ≡ false = search rules in
    inl (record { begun = begun; wrong = head_is_wrong b _ it (c.in_ok-has_head.ensures.exact b held.told); place = search rules })

pub returns-in_err-closing-clause-breaks : goal.returns-in_err-closing-clause-breaks
returns-in_err-closing-clause-breaks g c b at begun held same =
    let it : c.in_ok-has_head.field-0 ≡ true = search rules in
    let begins = head_is b _ it (c.in_ok-has_head.ensures.exact b held.told) in
    let refused : c.read_frames.result ≡ Err (NotEditFile at) = search rules in
    inr (c.read_frames.ensures.breaks b begins.0 at (told_of _ _ b held.told c.requires.known) (c.in_ok-has_head.ensures.stays.bytes_stay ∙ held.told) begins.1 refused)

pub returns-in_err-closing-clause-crash : goal.returns-in_err-closing-clause-crash
returns-in_err-closing-clause-crash g c b batches stands held =
    quiet_run g.D.Disk g.met.D.Disk.now_alone _ _ b (λ image. FileStands image batches) held stands
    (quiet_then g.D.Disk _ _ _ c.has_head.ensures.stays.quiet c.read_frames.ensures.stays.quiet)

pub cut_safely-requires : goal.cut_safely-requires
cut_safely-requires g c = record {
  inside = if_told (g.D.Disk.bytes c.read_frames.new.disk) (λ b. c.in_ok-closing.closing + 1 ≤ length b) (λ b told.
      let it : c.in_ok-has_head.field-0 ≡ true = search rules in
      let mid = sym c.in_ok-closing.ensures.stays.bytes_stay ∙ told in
      let old = sym c.in_ok-has_head.ensures.stays.bytes_stay ∙ mid in
      closes_inside b c.in_ok-closing.closing c.in_ok-closing.batches.items
      (closes_with b _ c.in_ok-closing.closing c.in_ok-closing.batches.items it (c.in_ok-has_head.ensures.exact b old)
      (λ rest e. c.in_ok-closing.ensures.found b rest (told_of _ _ b old c.requires.known) mid e)));
}

pub returns-in_err-cut_safely-clause-crash : goal.returns-in_err-cut_safely-clause-crash
returns-in_err-cut_safely-clause-crash g c b batches stands held =
    let closes = closes_with b c.in_ok-has_head.field-0 c.in_ok-closing.closing c.in_ok-closing.batches.items (search rules) (c.in_ok-has_head.ensures.exact b held.told)
    (λ rest e. c.in_ok-closing.ensures.found b rest (told_of _ _ b held.told c.requires.known) (c.in_ok-has_head.ensures.stays.bytes_stay ∙ held.told) e) in
    cut_leaves g.D.Disk g.met.D.Disk.now_alone _ _ _ b c.in_ok-closing.closing c.in_ok-closing.batches.items batches closes stands held
    (quiet_then g.D.Disk _ _ _ c.has_head.ensures.stays.quiet c.read_frames.ensures.stays.quiet)
    (c.in_ok-closing.ensures.stays.bytes_stay ∙ c.in_ok-has_head.ensures.stays.bytes_stay) c.cut_safely.ensures.does

pub returns-clause-stands : goal.returns-clause-stands
returns-clause-stands g c b held =
    let closes = closes_with b c.in_ok-has_head.field-0 c.in_ok-closing.closing c.in_ok-closing.batches.items (search rules) (c.in_ok-has_head.ensures.exact b held.told)
    (λ rest e. c.in_ok-closing.ensures.found b rest (told_of _ _ b held.told c.requires.known) (c.in_ok-has_head.ensures.stays.bytes_stay ∙ held.told) e) in
    closed_stands_for b c.in_ok-closing.closing c.in_ok-closing.batches.items closes

pub returns-clause-crash : goal.returns-clause-crash
returns-clause-crash g c b batches stands held =
    let closes = closes_with b c.in_ok-has_head.field-0 c.in_ok-closing.closing c.in_ok-closing.batches.items (search rules) (c.in_ok-has_head.ensures.exact b held.told)
    (λ rest e. c.in_ok-closing.ensures.found b rest (told_of _ _ b held.told c.requires.known) (c.in_ok-has_head.ensures.stays.bytes_stay ∙ held.told) e) in
    cut_leaves g.D.Disk g.met.D.Disk.now_alone _ _ _ b c.in_ok-closing.closing c.in_ok-closing.batches.items batches closes stands held
    (quiet_then g.D.Disk _ _ _ c.has_head.ensures.stays.quiet c.read_frames.ensures.stays.quiet)
    (c.in_ok-closing.ensures.stays.bytes_stay ∙ c.in_ok-has_head.ensures.stays.bytes_stay) c.cut_safely.ensures.does

pub returns-clause-rests : goal.returns-clause-rests
returns-clause-rests g c b held =
    let closes = closes_with b c.in_ok-has_head.field-0 c.in_ok-closing.closing c.in_ok-closing.batches.items (search rules) (c.in_ok-has_head.ensures.exact b held.told)
    (λ rest e. c.in_ok-closing.ensures.found b rest (told_of _ _ b held.told c.requires.known) (c.in_ok-has_head.ensures.stays.bytes_stay ∙ held.told) e) in
    cut_is_rest g.D.Disk _ _ b c.in_ok-closing.closing c.in_ok-closing.batches.items closes
    (c.in_ok-closing.ensures.stays.bytes_stay ∙ c.in_ok-has_head.ensures.stays.bytes_stay ∙ held.told) c.in_ok-cut_safely.ensures.shorter c.in_ok-cut_safely.ensures.safe

pub returns-in_err-has_head-clause-stands : goal.returns-in_err-has_head-clause-stands
returns-in_err-has_head-clause-stands g c b held = IfOk-from_err _ _ c.from_residual.ensures.0

pub returns-in_err-has_head-clause-rests : goal.returns-in_err-has_head-clause-rests
returns-in_err-has_head-clause-rests g c b held = IfOk-from_err _ _ c.from_residual.ensures.0

pub returns-in_err-has_head-clause-near : goal.returns-in_err-has_head-clause-near
returns-in_err-has_head-clause-near g c = IfOk-from_err _ _ c.from_residual.ensures.0

pub returns-in_err-has_head-clause-filled : goal.returns-in_err-has_head-clause-filled
returns-in_err-has_head-clause-filled g c = IfOk-from_err _ _ c.from_residual.ensures.0

pub returns-in_err-has_head-clause-valid : goal.returns-in_err-has_head-clause-valid
returns-in_err-has_head-clause-valid g c = IfOk-from_err _ _ c.from_residual.ensures.0

pub returns-in_err-closing-clause-stands : goal.returns-in_err-closing-clause-stands
returns-in_err-closing-clause-stands g c b held = IfOk-from_err _ _ c.from_residual-in_err-closing.ensures.0

pub returns-in_err-closing-clause-rests : goal.returns-in_err-closing-clause-rests
returns-in_err-closing-clause-rests g c b held = IfOk-from_err _ _ c.from_residual-in_err-closing.ensures.0

pub returns-in_err-closing-clause-near : goal.returns-in_err-closing-clause-near
returns-in_err-closing-clause-near g c = IfOk-from_err _ _ c.from_residual-in_err-closing.ensures.0

pub returns-in_err-closing-clause-filled : goal.returns-in_err-closing-clause-filled
returns-in_err-closing-clause-filled g c = IfOk-from_err _ _ c.from_residual-in_err-closing.ensures.0

pub returns-in_err-closing-clause-valid : goal.returns-in_err-closing-clause-valid
returns-in_err-closing-clause-valid g c = IfOk-from_err _ _ c.from_residual-in_err-closing.ensures.0

pub returns-in_err-cut_safely-clause-stands : goal.returns-in_err-cut_safely-clause-stands
returns-in_err-cut_safely-clause-stands g c b held = IfOk-from_err _ _ c.from_residual-in_err-cut_safely.ensures.0

pub returns-in_err-cut_safely-clause-rests : goal.returns-in_err-cut_safely-clause-rests
returns-in_err-cut_safely-clause-rests g c b held = IfOk-from_err _ _ c.from_residual-in_err-cut_safely.ensures.0

pub returns-in_err-cut_safely-clause-near : goal.returns-in_err-cut_safely-clause-near
returns-in_err-cut_safely-clause-near g c = IfOk-from_err _ _ c.from_residual-in_err-cut_safely.ensures.0

pub returns-in_err-cut_safely-clause-filled : goal.returns-in_err-cut_safely-clause-filled
returns-in_err-cut_safely-clause-filled g c = IfOk-from_err _ _ c.from_residual-in_err-cut_safely.ensures.0

pub returns-in_err-cut_safely-clause-valid : goal.returns-in_err-cut_safely-clause-valid
returns-in_err-cut_safely-clause-valid g c = IfOk-from_err _ _ c.from_residual-in_err-cut_safely.ensures.0

pub returns-in_err-closing-clause-named : goal.returns-in_err-closing-clause-named
returns-in_err-closing-clause-named g c = record {
  told_stays = c.read_frames.ensures.stays.named.told_stays ∙ c.has_head.ensures.stays.named.told_stays;
  name_stays = c.read_frames.ensures.stays.named.name_stays ∙ c.has_head.ensures.stays.named.name_stays;
}

pub returns-in_err-cut_safely-clause-named : goal.returns-in_err-cut_safely-clause-named
returns-in_err-cut_safely-clause-named g c = record {
  told_stays = c.cut_safely.ensures.named.told_stays ∙ c.read_frames.ensures.stays.named.told_stays ∙ c.has_head.ensures.stays.named.told_stays;
  name_stays = c.cut_safely.ensures.named.name_stays ∙ c.read_frames.ensures.stays.named.name_stays ∙ c.has_head.ensures.stays.named.name_stays;
}

pub returns-in_err-has_head-clause-crash : goal.returns-in_err-has_head-clause-crash
returns-in_err-has_head-clause-crash g c b batches stands held =
    quiet_run g.D.Disk g.met.D.Disk.now_alone _ _ b (λ image. FileStands image batches) held stands c.has_head.ensures.stays.quiet

pub returns-then-not-branch-clause-crash : goal.returns-then-not-branch-clause-crash
returns-then-not-branch-clause-crash g c b batches stands held =
    quiet_run g.D.Disk g.met.D.Disk.now_alone _ _ b (λ image. FileStands image batches) held stands c.has_head.ensures.stays.quiet

pub returns-clause-named : goal.returns-clause-named
returns-clause-named g c = record {
  told_stays = c.cut_safely.ensures.named.told_stays ∙ c.read_frames.ensures.stays.named.told_stays ∙ c.has_head.ensures.stays.named.told_stays;
  name_stays = c.cut_safely.ensures.named.name_stays ∙ c.read_frames.ensures.stays.named.name_stays ∙ c.has_head.ensures.stays.named.name_stays;
}

pub returns-clause-near : goal.returns-clause-near
returns-clause-near g c = c.in_ok-closing.ensures.near

pub returns-clause-filled : goal.returns-clause-filled
returns-clause-filled g c = c.in_ok-closing.ensures.filled

pub returns-clause-valid : goal.returns-clause-valid
returns-clause-valid g c = c.in_ok-closing.ensures.valid
