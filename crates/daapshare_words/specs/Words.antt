-- The command that a list of arguments is.
use Rattle.std.specs.Prelude.{◌≡◌, List, [], ◌∷◌, Option, Some, None, Result, Ok, Err, codes, if◌then◌else◌}
use Rattle.std.specs.Str.{bytes_eq}
use Rattle.clap.specs.Words.{Text}
use Rattle.daapshare_words.specs.List.{list_command}
use Rattle.daapshare_words.specs.Show.{show_command}
use Rattle.daapshare_words.specs.Check.{check_command}
use Rattle.daapshare_words.specs.Codes.{codes_command}
use Rattle.daapshare_words.specs.Replay.{replay_command, AreReplayWords}
use Rattle.daapshare_words.specs.Rehearse.{rehearse_command, AreRehearseWords}
use Rattle.daapshare_words.specs.Serve.{serve_command, AreServeWords}
use Rattle.daapshare_words.specs.Edit.{edit_command, AreEditWords}
use Rattle.daapshare_words.specs.Follow.{follow_command, AreFollowWords}
use Rattle.daapshare_words.specs.Relay.{relay_command, AreRelayWords}
use Rattle.daapshare_words.specs.Json.{json_command}
use Rattle.daapshare_words.specs.declared.command.Command.{Command}
use Rattle.daapshare_words.specs.declared.command.Command.TheVariants.{Local, Net}
use Rattle.daapshare_words.specs.declared.command.LocalCommand.{LocalCommand}
use Rattle.daapshare_words.specs.declared.command.LocalCommand.TheVariants.{Replay, Rehearse}
use Rattle.daapshare_words.specs.declared.command.NetCommand.{NetCommand}
use Rattle.daapshare_words.specs.declared.command.NetCommand.TheVariants.{Serve, Edit, Follow, Relay}
use Rattle.daapshare_words.specs.declared.command.WordsError.{WordsError}
use Rattle.daapshare_words.specs.declared.command.WordsError.TheVariants.{Usage, Memory}

-- the command with that name, over the network
abbrev pub net_command_named : Text → List Text → Option Command
net_command_named name words =
    if bytes_eq name (codes "serve") then serve_command words
    else (if bytes_eq name (codes "edit") then edit_command words
    else (if bytes_eq name (codes "follow") then follow_command words
    else (if bytes_eq name (codes "relay") then relay_command words
    else None)))

-- the command with that name
abbrev pub command_named : Text → List Text → Option Command
command_named name words =
    if bytes_eq name (codes "list") then list_command words
    else (if bytes_eq name (codes "show") then show_command words
    else (if bytes_eq name (codes "check") then check_command words
    else (if bytes_eq name (codes "codes") then codes_command words
    else (if bytes_eq name (codes "replay") then replay_command words
    else (if bytes_eq name (codes "rehearse") then rehearse_command words
    else (if bytes_eq name (codes "json") then json_command words
    else net_command_named name words))))))

-- the first argument is the command's name, and the arguments are in that command's grammar
abbrev pub command_of : List Text → Option Command
command_of [] = None
command_of (name ∷ rest) = command_named name (name ∷ rest)

-- the call returns `told`, unless an allocation fails
abbrev pub Reads : {T : Type 0} → Option T → Result T WordsError → Type 0
Reads told (Ok read) = told ≡ Some read
Reads told (Err Usage) = told ≡ None
Reads told (Err Memory) = Unit {0}

-- the numbers, names and addresses of a command are in their ranges
abbrev pub IsLocalRanged : LocalCommand → Type 0
IsLocalRanged (Replay words) = AreReplayWords words
IsLocalRanged (Rehearse words) = AreRehearseWords words
IsLocalRanged _ = Unit {0}

abbrev pub IsNetRanged : NetCommand → Type 0
IsNetRanged (Serve words) = AreServeWords words
IsNetRanged (Edit words) = AreEditWords words
IsNetRanged (Follow words) = AreFollowWords words
IsNetRanged (Relay words) = AreRelayWords words

abbrev pub IsRanged : Command → Type 0
IsRanged (Local command) = IsLocalRanged command
IsRanged (Net command) = IsNetRanged command
