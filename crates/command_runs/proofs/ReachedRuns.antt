-- Runs of the program that reach a share.
use Rattle.share_meetings.proofs.EditGoesOn.{edit_goes_on}
use Rattle.share_meetings.proofs.FollowGoesOn.{follow_goes_on}
use Rattle.command_runs.specs.Laws.{RunsOfEditGoOn, RunsOfFollowGoOn}
use Rattle.command_runs.specs.Table.{target_of}

pub runs_of_follow_go_on : RunsOfFollowGoOn
runs_of_follow_go_on v told outcome s h follows serves faultless =
    follow_goes_on v.place v.rounds v.query v.meta (target_of v.list) told outcome.status s h follows.ends.1.ends serves faultless

pub runs_of_edit_go_on : RunsOfEditGoOn
runs_of_edit_go_on v told outcome s h edits serves faultless = edit_goes_on v.place v.stop told outcome.status s h edits.ends.1.ends serves faultless
