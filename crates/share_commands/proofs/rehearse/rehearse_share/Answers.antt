use Rattle.std.proofs.Common.{◌≤◌, ◌<◌, ◌*◌, [], Some, inr, refl, ap, ◌∙◌, arith}
use Rattle.share_history.specs.Numbers.{most_edits}
use Rattle.command_core.specs.Seen.{Run, output_seen, share_with, run_over_streams}
use Rattle.command_core.proofs.Appending.{none_written}
use Rattle.command_core.proofs.Ended.{by_memory, by_output, by_refusal}
use Rattle.command_core.specs.declared.fault.Fault.TheVariants.{Own}
use Rattle.rehearsal.specs.Edits.{rehearsed}
use Rattle.share_commands.specs.declared.rehearse.RehearseFault.TheVariants.{TooMany}
use Rattle.share_commands.specs.RehearseShare.{rehearse_meaning}
use Rattle.share_commands.proofs.Begun.{has_all, not_opened, opened}
use Rattle.share_commands.proofs.Senses.{rehearse_sense}
use Rattle.share_commands.proofs.rehearse.rehearse_share.Goals as goal

pub returns-then-batches-size-gt-MAX_EDITS-clause-answered : goal.returns-then-batches-size-gt-MAX_EDITS-clause-answered
returns-then-batches-size-gt-MAX_EDITS-clause-answered g c =
    let a = c.args in
    let many : most_edits < a.batches * a.size = omega (arith, c.if-batches-size-gt-MAX_EDITS.true) in
    λ around input.
    let told : Run = run_over_streams around input input
    (output_seen (g.W.Sink.taken a.output.now) (g.W.Faulted.faults a.output.now)) (output_seen (g.W.Sink.taken c.write_error.new.output) (g.W.Faulted.faults c.write_error.new.output)) in
    by_refusal (rehearse_meaning a.number a.batches a.size a.keep) (rehearse_sense a.number a.batches a.size a.keep) told c.write_error.result (Own TooMany)
    (many, record { left = refl; faults = refl }) c.write_error.ensures

pub returns-in-Ok-clause-answered : goal.returns-in-Ok-clause-answered
returns-in-Ok-clause-answered g c =
    let a = c.args in
    let few : a.batches * a.size ≤ most_edits = omega (arith, c.if-batches-size-gt-MAX_EDITS.false) in
    λ around input.
    let told : Run = run_over_streams around input input
    (output_seen (g.W.Sink.taken a.output.now) (g.W.Faulted.faults a.output.now)) (output_seen (g.W.Sink.taken c.write_output.new.output) (g.W.Faulted.faults c.write_output.new.output)) in
    by_output (rehearse_meaning a.number a.batches a.size a.keep) (rehearse_sense a.number a.batches a.size a.keep) told c.write_output.result (Some c.in-Ok.rehearsed.history) c.as_slice.result.now (record {
      unread = record { left = refl; faults = refl };
      within = few;
      opened = ap share_with c.in-Ok.ensures.history;
      written = c.as_slice.ensures.value ∙ c.in-Ok.ensures.summary;
    }) c.write_output.ensures

pub returns-in-Err-clause-answered : goal.returns-in-Err-clause-answered
returns-in-Err-clause-answered g c =
    let a = c.args in
    let few : a.batches * a.size ≤ most_edits = omega (arith, c.if-batches-size-gt-MAX_EDITS.false) in
    λ around input.
    let told : Run = run_over_streams around input input
    (output_seen (g.W.Sink.taken a.output.now) (g.W.Faulted.faults a.output.now))
    (output_seen (g.W.Sink.taken c.out_of_memory.new.output) (g.W.Faulted.faults c.out_of_memory.new.output)) in
    by_memory (rehearse_meaning a.number a.batches a.size a.keep) (rehearse_sense a.number a.batches a.size a.keep).sensible told told.output_before c.out_of_memory.result []
    (Some c.in-Err.broken.history) tt (record { left = refl; faults = refl })
    (inr (record { within = few; history = c.in-Err.broken.history; opened = refl; has = c.in-Err.ensures.part })) refl (none_written told.output_before) c.out_of_memory.ensures

-- ---- the share

pub returns-then-batches-size-gt-MAX_EDITS-clause-opened : goal.returns-then-batches-size-gt-MAX_EDITS-clause-opened
returns-then-batches-size-gt-MAX_EDITS-clause-opened g c =
    let a = c.args in
    let many : most_edits < a.batches * a.size = omega (arith, c.if-batches-size-gt-MAX_EDITS.true) in
    not_opened a.number a.batches a.size c.write_error.result many c.write_error.ensures.unopened

pub returns-in-Ok-clause-opened : goal.returns-in-Ok-clause-opened
returns-in-Ok-clause-opened g c =
    let a = c.args in
    let few : a.batches * a.size ≤ most_edits = omega (arith, c.if-batches-size-gt-MAX_EDITS.false) in
    opened a.number a.batches a.size c.write_output.result c.in-Ok.rehearsed.history few c.write_output.ensures.history
    (has_all (rehearsed a.number a.batches a.size) c.in-Ok.rehearsed.history c.in-Ok.ensures.history)

pub returns-in-Err-clause-opened : goal.returns-in-Err-clause-opened
returns-in-Err-clause-opened g c =
    let a = c.args in
    let few : a.batches * a.size ≤ most_edits = omega (arith, c.if-batches-size-gt-MAX_EDITS.false) in
    opened a.number a.batches a.size c.out_of_memory.result c.in-Err.broken.history few c.out_of_memory.ensures.history c.in-Err.ensures.part
