-- One frame more was read, or the closing byte, or neither is there.
use Rattle.std.proofs.Common.{rules, ◌≢◌, ℕ, List, ◌+◌, [], ◌∷◌, ◌++◌, drop, refl, ◌∙◌, subst, arith}
use Rattle.std.proofs.lemmas.Result.{IfOk-from_err}
use Rattle.std.proofs.lemmas.Grind.{common_steps}
use Rattle.std.proofs.lemmas.List.Elements.{All-nil, All-push}
use Rattle.std.specs.Prelude.{All}
use Rattle.item_model.specs.declared.changes.Edit.{Edit}
use Rattle.item_model.specs.Valid.{AreValid}
use Rattle.edit_file.specs.Opening.{HasRead}
use Rattle.edit_file.specs.Reading.{IsFound, IsUsable}
use Rattle.edit_file.specs.Standing.{IsNoFrame}
use Rattle.edit_file.proofs.Quiet.{told_of, ok_is_no_err, quiet_self, quiet_then}
use Rattle.edit_file.proofs.Settled.{none_read, more_read, closed_read, broken_read}
use Rattle.edit_file.proofs.opening.read_frames.Goals as goal

abbrev Filled : List Edit → Type 0
Filled batch = batch ≢ []

pub frames-init : goal.frames-init
frames-init g c = record {
  read = λ b rest size told e. let start : HasRead b 9 [] = none_read b rest e in search rules;
  near = grind (arith, common_steps);
  filled = let none : All Filled [] = All-nil Filled in search rules;
  valid = let none : All AreValid [] = All-nil AreValid in search rules;
  bytes = refl;
  quiet = quiet_self g.D.Disk _;
  told = refl;
  name = refl;
  faultless = refl;
}

pub frames-preserved : goal.frames-preserved
frames-preserved g c = record {
  read = λ b rest size told e.
      let before = c.frames.invariant.read b rest size told e in
      let found = subst (λ f. IsFound (drop c.frames.at b) f) c.in-Frame.is
      (told_of _ _ b (c.frames.invariant.bytes ∙ told) c.in_ok-batch.ensures.exact size) in
      let more : HasRead b (c.frames.at + c.in-Frame.size) (c.frames.batches.items ++ c.in-Frame.batch ∷ []) =
      more_read b c.frames.at c.in-Frame.size c.frames.batches.items c.in-Frame.batch before found.0 found.1 in
      search rules;
  near = grind (arith, common_steps);
  filled =
      let more : All Filled (c.frames.batches.items ++ c.in-Frame.batch ∷ []) =
      All-push Filled c.frames.batches.items c.in-Frame.batch c.frames.invariant.filled (subst IsUsable c.in-Frame.is c.in_ok-batch.ensures.usable).0 in
      search rules;
  valid =
      let more : All AreValid (c.frames.batches.items ++ c.in-Frame.batch ∷ []) =
      All-push AreValid c.frames.batches.items c.in-Frame.batch c.frames.invariant.valid (subst IsUsable c.in-Frame.is c.in_ok-batch.ensures.usable).1 in
      search rules;
  bytes = c.in_ok-batch.ensures.stays.bytes_stay ∙ c.frames.invariant.bytes;
  quiet = quiet_then g.D.Disk _ _ _ c.frames.invariant.quiet c.read_frame.ensures.stays.quiet;
  told = c.read_frame.ensures.stays.named.told_stays ∙ c.frames.invariant.told;
  name = c.read_frame.ensures.stays.named.name_stays ∙ c.frames.invariant.name;
  faultless = c.in_ok-batch.ensures.count ∙ c.frames.invariant.faultless;
}

pub returns-in-Closed-clause-found : goal.returns-in-Closed-clause-found
returns-in-Closed-clause-found g c b rest size told e =
    closed_read b c.frames.at c.frames.batches.items (c.frames.invariant.read b rest size told e)
    (subst (λ f. IsFound (drop c.frames.at b) f) c.in-Closed.is
    (told_of _ _ b (c.frames.invariant.bytes ∙ told) c.in_ok-batch.ensures.exact size))

pub returns-in-Broken-clause-breaks : goal.returns-in-Broken-clause-breaks
returns-in-Broken-clause-breaks g c b rest at size told e same =
    subst (λ (n : ℕ). IsNoFrame b n) (search rules)
    (broken_read b c.frames.at c.frames.batches.items (c.frames.invariant.read b rest size told e)
    (subst (λ f. IsFound (drop c.frames.at b) f) c.in-Broken.is
    (told_of _ _ b (c.frames.invariant.bytes ∙ told) c.in_ok-batch.ensures.exact size)))

pub returns-in-Closed-clause-near : goal.returns-in-Closed-clause-near
returns-in-Closed-clause-near g c = c.frames.invariant.near

pub returns-in-Closed-clause-filled : goal.returns-in-Closed-clause-filled
returns-in-Closed-clause-filled g c = c.frames.invariant.filled

pub returns-in-Closed-clause-valid : goal.returns-in-Closed-clause-valid
returns-in-Closed-clause-valid g c = c.frames.invariant.valid

pub returns-in-Closed-clause-breaks : goal.returns-in-Closed-clause-breaks
returns-in-Closed-clause-breaks g c b rest at size told e same = absurd (ok_is_no_err _ _ same)

pub returns-in-Closed-clause-unchanged : goal.returns-in-Closed-clause-unchanged
returns-in-Closed-clause-unchanged g c error e other = absurd (ok_is_no_err _ error e)

pub returns-in-Closed-clause-stays : goal.returns-in-Closed-clause-stays
returns-in-Closed-clause-stays g c = record {
  bytes_stay = c.in_ok-batch.ensures.stays.bytes_stay ∙ c.frames.invariant.bytes;
  quiet = quiet_then g.D.Disk _ _ _ c.frames.invariant.quiet c.read_frame.ensures.stays.quiet;
  named = record {
    told_stays = c.read_frame.ensures.stays.named.told_stays ∙ c.frames.invariant.told;
    name_stays = c.read_frame.ensures.stays.named.name_stays ∙ c.frames.invariant.name;
  };
}

pub returns-in-Closed-clause-count : goal.returns-in-Closed-clause-count
returns-in-Closed-clause-count g c = c.in_ok-batch.ensures.count ∙ c.frames.invariant.faultless

pub returns-in_err-batch-clause-found : goal.returns-in_err-batch-clause-found
returns-in_err-batch-clause-found g c b rest size told e = IfOk-from_err _ _ c.from_residual.ensures.0

pub returns-in_err-batch-clause-near : goal.returns-in_err-batch-clause-near
returns-in_err-batch-clause-near g c = IfOk-from_err _ _ c.from_residual.ensures.0

pub returns-in_err-batch-clause-filled : goal.returns-in_err-batch-clause-filled
returns-in_err-batch-clause-filled g c = IfOk-from_err _ _ c.from_residual.ensures.0

pub returns-in_err-batch-clause-valid : goal.returns-in_err-batch-clause-valid
returns-in_err-batch-clause-valid g c = IfOk-from_err _ _ c.from_residual.ensures.0
