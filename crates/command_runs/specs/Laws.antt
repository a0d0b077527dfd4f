-- What two runs of the program that met on a connection have to do with each other. The premises are what is told: the
-- runs, and the bytes of the connection. Then when a run that reaches a share succeeds.
use Rattle.std.specs.Prelude.{◌≡◌, List, false, Some}
use Rattle.item_model.specs.declared.changes.Entry.{Entry}
use Rattle.share_replies.specs.Settings.{Settings}
use Rattle.command_core.specs.Seen.{Run}
use Rattle.edit_meetings.specs.Kept.{Acknowledges, IsAllOrNothing, TellsOf}
use Rattle.link_commands.specs.Decided.{IsOrMemory}
use Rattle.link_commands.specs.Promises.{IsFaultless}
use Rattle.share_meetings.specs.CommandLaws.{ServesMirror, ServesPush}
use Rattle.share_meetings.specs.Meetings.{Meets}
use Rattle.share_meetings.specs.Shown.{ShowsAsked}
use Rattle.daapshare_words.specs.declared.command.Command.TheVariants.{Net}
use Rattle.daapshare_words.specs.declared.command.NetCommand.TheVariants.{Edit, Follow, Relay, Serve}
use Rattle.daapshare_words.specs.declared.edit.EditWords.{EditWords}
use Rattle.daapshare_words.specs.declared.follow.FollowWords.{FollowWords}
use Rattle.daapshare_words.specs.declared.relay.RelayWords.{RelayWords}
use Rattle.daapshare_words.specs.declared.serve.ServeWords.{ServeWords}
use Rattle.command_runs.specs.declared.outcome.Outcome.{Outcome}
use Rattle.command_runs.specs.Table.{IsRun, target_of}

-- A run of `serve` and a run of `follow` met on a connection, which may have broken, however each ended. There are
-- revisions of the one history that the share left, each above the one before, none from before the login on that
-- connection, at most ROUNDS. What `follow` wrote is the text of these revisions, or a prefix of it if its output failed,
-- or their lines and then that of an error, perhaps cut. With status 0 it is all of it, for exactly ROUNDS revisions.
abbrev pub RunsShowTheShare : Type 0
RunsShowTheShare =
    (w : ServeWords) (told : Run) (served : Outcome) (history : List Entry) (v : FollowWords) (seen : Run) (followed : Outcome)
    → IsRun (Some (Net (Serve w))) told served → served.history ≡ Some history → IsRun (Some (Net (Follow v))) seen followed
    → (meets : Meets told.before.around.net told.after.around.net served.links seen.before.around.net seen.after.around.net)
    → ShowsAsked w.keep meets.served.report history v.rounds (target_of v.list) v.query v.meta seen.output_before seen.output_after followed.status

-- The same of a run of `relay` and a run of `follow`, by the history of the relay's own share.
abbrev pub RunsShowTheRelay : Type 0
RunsShowTheRelay =
    (w : RelayWords) (told : Run) (relayed : Outcome) (history : List Entry) (v : FollowWords) (seen : Run) (followed : Outcome)
    → IsRun (Some (Net (Relay w))) told relayed → relayed.history ≡ Some history → IsRun (Some (Net (Follow v))) seen followed
    → (meets : Meets told.before.around.net told.after.around.net relayed.links seen.before.around.net seen.after.around.net)
    → ShowsAsked w.keep meets.served.report history v.rounds (target_of v.list) v.query v.meta seen.output_before seen.output_after followed.status

-- A run of `serve` and a run of `edit` met on a connection, which may have broken. If `edit` succeeded, then the history
-- that the share left has the batch of its input, at the revision that it wrote; or the input has no edits.
abbrev pub RunsKeepEdits : Type 0
RunsKeepEdits =
    (w : ServeWords) (told : Run) (served : Outcome) (history : List Entry) (v : EditWords) (seen : Run) (edited : Outcome)
    → IsRun (Some (Net (Serve w))) told served → served.history ≡ Some history
    → IsRun (Some (Net (Edit v))) seen edited → v.stop ≡ false → edited.status ≡ 0
    → (meets : Meets told.before.around.net told.after.around.net served.links seen.before.around.net seen.after.around.net)
    → Acknowledges meets.served.report history seen

-- The same however `edit` ended, also for a stop: what it wrote of the share is true, and the answers on the connection
-- added all of the input's edits, in one batch, or none.
abbrev pub RunsTellOfEdits : Type 0
RunsTellOfEdits =
    (w : ServeWords) (told : Run) (served : Outcome) (history : List Entry) (v : EditWords) (seen : Run) (edited : Outcome)
    → IsRun (Some (Net (Serve w))) told served → served.history ≡ Some history → IsRun (Some (Net (Edit v))) seen edited
    → (meets : Meets told.before.around.net told.after.around.net served.links seen.before.around.net seen.after.around.net)
    → TellsOf v.stop meets.served.report history seen edited.status × IsAllOrNothing v.stop meets.served.report history seen

-- If the bytes of its connection are a share's responses to what the arguments name, for all rounds, then a run of
-- `follow` succeeds, unless an error outside was counted or an allocation failed.
abbrev pub RunsOfFollowGoOn : Type 0
RunsOfFollowGoOn =
    (v : FollowWords) (told : Run) (outcome : Outcome) (s : Settings) (h : List Entry)
    → IsRun (Some (Net (Follow v))) told outcome → ServesMirror s h v.rounds v.query v.meta (target_of v.list) told → IsFaultless told → IsOrMemory 0 outcome.status

-- So does a run of `edit`, if these bytes are one success of a share and its input is within its limit.
abbrev pub RunsOfEditGoOn : Type 0
RunsOfEditGoOn =
    (v : EditWords) (told : Run) (outcome : Outcome) (s : Settings) (h : List Entry)
    → IsRun (Some (Net (Edit v))) told outcome → ServesPush s h v.stop told → IsFaultless told → IsOrMemory 0 outcome.status
