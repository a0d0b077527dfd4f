-- The specification of each command, a line for each, and how a run of it ends.
use Rattle.std.specs.Prelude.{◌≡◌, ◌⊎◌, ℕ, [], Bool, true, false, not, is_some, Option, Some, None}
use Rattle.item_model.specs.declared.request.Target.{Target}
use Rattle.item_model.specs.declared.request.Target.TheVariants.{Items, Container}
use Rattle.command_core.specs.Answers.{WritesMemory}
use Rattle.command_core.specs.Endings.{IsAnswered}
use Rattle.command_core.specs.Meanings.{Meaning}
use Rattle.command_core.specs.Seen.{IsUnread, Run}
use Rattle.json_commands.specs.Json.{json_meaning}
use Rattle.json_commands.specs.JsonBack.{json_back_meaning}
use Rattle.link_commands.specs.EditShare.{edit_meaning}
use Rattle.link_commands.specs.FollowShare.{follow_meaning}
use Rattle.link_commands.specs.Meanings.{IsLinkAnswered}
use Rattle.relay_command.specs.declared.terms.Relaying.{Relaying}
use Rattle.relay_command.specs.Runs.{RelayEnds}
use Rattle.serve_command.specs.declared.terms.Serving.{Serving}
use Rattle.serve_command.specs.Runs.{ServeEnds}
use Rattle.tag_commands.specs.Check.{check_meaning}
use Rattle.tag_commands.specs.Codes.{codes_meaning}
use Rattle.tag_commands.specs.LearnCodes.{learn_meaning}
use Rattle.tag_commands.specs.Show.{show_meaning}
use Rattle.tag_commands.specs.ShowBack.{show_back_meaning}
use Rattle.share_commands.specs.ReplayShare.{replay_meaning}
use Rattle.share_commands.specs.ListShare.{list_meaning}
use Rattle.share_commands.specs.RehearseShare.{rehearse_meaning}
use Rattle.daapshare_words.specs.Words.{IsNetRanged}
use Rattle.daapshare_words.specs.declared.command.Command.{Command}
use Rattle.daapshare_words.specs.declared.command.Command.TheVariants.{Local, Net}
use Rattle.daapshare_words.specs.declared.command.LocalCommand.{LocalCommand}
use Rattle.daapshare_words.specs.declared.command.LocalCommand.TheVariants as local
use Rattle.daapshare_words.specs.declared.command.NetCommand.{NetCommand}
use Rattle.daapshare_words.specs.declared.command.NetCommand.TheVariants as net
use Rattle.daapshare_words.specs.declared.relay.RelayWords.{RelayWords}
use Rattle.daapshare_words.specs.declared.serve.ServeWords.{ServeWords}
use Rattle.command_runs.specs.declared.outcome.Outcome.{Outcome}
use Rattle.command_runs.specs.Left.{HasNoLinks, core_of, crew_of, serve_outcome_of}
use Rattle.command_runs.specs.Usage.{usage_meaning}

abbrev pub show_meaning_of : (back : Bool) → Meaning
show_meaning_of true = show_back_meaning
show_meaning_of false = show_meaning

abbrev pub json_meaning_of : (back : Bool) → Meaning
json_meaning_of true = json_back_meaning
json_meaning_of false = json_meaning

abbrev pub codes_meaning_of : (learn : Bool) → Meaning
codes_meaning_of true = learn_meaning
codes_meaning_of false = codes_meaning

-- what is listed: all items, or the rows of a container
abbrev pub target_of : Option ℕ → Target
target_of None = Items
target_of (Some id) = Container id

-- the specifications of the commands over standard input and output
abbrev pub meaning_of : LocalCommand → Meaning
meaning_of (local.List words) = list_meaning words.query words.meta (target_of words.list)
meaning_of (local.Show words) = show_meaning_of words.back
meaning_of local.Check = check_meaning
meaning_of (local.Codes words) = codes_meaning_of words.learn
meaning_of (local.Replay words) = replay_meaning words.keep words.name
meaning_of (local.Rehearse words) = rehearse_meaning words.number words.batches words.size words.keep
meaning_of (local.Json words) = json_meaning_of words.back

-- the settings of `serve` for its arguments
abbrev pub serving_of : ServeWords → Serving
serving_of words = record {
  listen = words.listen;
  edit = words.edit;
  name = words.name;
  keep = words.keep;
  workers = words.workers;
  editors = words.editors;
  file = words.file;
}

-- the settings of `relay` for its arguments
abbrev pub relaying_of : RelayWords → Relaying
relaying_of words = record {
  upstream = words.upstream;
  listen = words.listen;
  rounds = words.rounds;
  name = words.name;
  keep = words.keep;
  workers = words.workers;
}

-- `relay` ended, and the input and the files are unchanged
pub record IsRelayed (relaying : Relaying) (told : Run) (outcome : Outcome) : Type 0 where
  pub unread : IsUnread told.before.input told.after.input
  pub files : told.after.around.files ≡ told.before.around.files
  pub ends : RelayEnds relaying told.before.around.net told.after.around.net told.output_before told.output_after (crew_of outcome)

-- a run of a command over the network ends as its specification says
abbrev pub IsRunOverNet : NetCommand → Run → Outcome → Type 0
IsRunOverNet (net.Serve words) told outcome = ServeEnds (serving_of words) told (serve_outcome_of outcome)
IsRunOverNet (net.Edit words) told outcome = HasNoLinks (IsLinkAnswered (edit_meaning words.place words.stop) told) outcome
IsRunOverNet (net.Follow words) told outcome =
    HasNoLinks (IsLinkAnswered (follow_meaning words.place words.rounds words.query words.meta (target_of words.list)) told) outcome
IsRunOverNet (net.Relay words) told outcome = IsRelayed (relaying_of words) told outcome

-- an allocation failed before the arguments were read: nothing was done, and only the line of that was written
pub record IsIdle (told : Run) (outcome : Outcome) : Type 0 where
  pub same : told.after ≡ told.before
  pub unlinked : outcome.links ≡ []
  pub memory : WritesMemory None told.output_before told.output_after (core_of outcome)

-- .. and the numbers, names and addresses among its arguments are in their ranges, if it read them
pub record IsNetRun (command : NetCommand) (told : Run) (outcome : Outcome) : Type 0 where
  pub ranged : IsNetRanged command ⊎ IsIdle told outcome
  pub ends : IsRunOverNet command told outcome

-- a run ends as the specification of its arguments' command says
abbrev pub IsRun : Option Command → Run → Outcome → Type 0
IsRun None told outcome = HasNoLinks (IsAnswered usage_meaning told) outcome
IsRun (Some (Local command)) told outcome = HasNoLinks (IsAnswered (meaning_of command) told) outcome
IsRun (Some (Net command)) told outcome = IsNetRun command told outcome

-- whether a run leaves files unchanged
abbrev pub leaves_files : Option Command → Bool
leaves_files (Some (Net (net.Serve words))) = not (is_some words.file)
leaves_files _ = true

-- whether a run leaves the network unchanged
abbrev pub leaves_net : Option Command → Bool
leaves_net (Some (Net command)) = false
leaves_net _ = true
