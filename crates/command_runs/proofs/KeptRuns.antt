-- A run of `serve` and a run of `edit` that met on a connection.
use Rattle.std.proofs.Common.{Bool, subst}
use Rattle.edit_meetings.proofs.AllOrNothing.{edits_are_all_or_nothing}
use Rattle.edit_meetings.proofs.MetEdits.{edit_meets_the_share, edit_tells_of_the_share}
use Rattle.link_commands.specs.EditShare.{edit_meaning}
use Rattle.link_commands.specs.Meanings.{LinkEnds}
use Rattle.serve_command.specs.Terms.{settings_of}
use Rattle.share_meetings.proofs.Shares.{runs_serve_a_share}
use Rattle.daapshare_words.specs.Edit.{AreEditWords}
use Rattle.daapshare_words.specs.declared.command.NetCommand.TheVariants.{Edit}
use Rattle.command_runs.specs.Laws.{RunsKeepEdits, RunsTellOfEdits}
use Rattle.command_runs.specs.Left.{serve_outcome_of}
use Rattle.command_runs.specs.Table.{serving_of}
use Rattle.command_runs.proofs.MetRuns.{made_ranged, place_is_host}

pub runs_tell_of_edits : RunsTellOfEdits
runs_tell_of_edits w told served history v seen edited serves is edits meets =
    let ranged : AreEditWords v = made_ranged (Edit v) seen edited meets.sent meets.owed edits meets.made in
    let share = runs_serve_a_share (serving_of w) told (serve_outcome_of served) history meets.input meets.output serves.ends is meets.served in (
      edit_tells_of_the_share (settings_of (serving_of w)) history meets.served.report meets.input meets.output v.place v.stop seen edited.status meets.sent meets.owed meets.lost meets.dropped
          share edits.ends.1.ends meets.made meets.reached meets.answered (place_is_host v.place ranged.place),
      edits_are_all_or_nothing (settings_of (serving_of w)) history meets.served.report meets.input meets.output v.place v.stop seen edited.status meets.sent meets.owed meets.lost
          share edits.ends.1.ends meets.made meets.reached (place_is_host v.place ranged.place),
    )

pub runs_keep_edits : RunsKeepEdits
runs_keep_edits w told served history v seen edited serves is edits pushes zero meets =
    let ranged : AreEditWords v = made_ranged (Edit v) seen edited meets.sent meets.owed edits meets.made in
    edit_meets_the_share (settings_of (serving_of w)) history meets.served.report meets.input meets.output v.place seen edited.status meets.sent meets.owed meets.lost meets.dropped
    (runs_serve_a_share (serving_of w) told (serve_outcome_of served) history meets.input meets.output serves.ends is meets.served)
    (subst (λ (stop : Bool). LinkEnds (edit_meaning v.place stop) seen edited.status) pushes edits.ends.1.ends) zero meets.made meets.reached meets.answered (place_is_host v.place ranged.place)
