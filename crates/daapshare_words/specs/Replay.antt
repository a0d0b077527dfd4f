-- The arguments of `replay`.
use Rattle.std.specs.Prelude.{◌≡◌, List, [], ◌∷◌, Option, codes, true, option_map, option_and_then}
use Rattle.clap.specs.Words.{Row, Text, first_of}
use Rattle.daapshare_words.specs.Grammar.{Grammar, command_by}
use Rattle.daapshare_words.specs.Numbers.{IsWithin, keep_of}
use Rattle.daapshare_words.specs.Texts.{is_name, name_of}
use Rattle.daapshare_words.specs.declared.grammar.Part.TheVariants.{Valued}
use Rattle.daapshare_words.specs.declared.command.Command.{Command}
use Rattle.daapshare_words.specs.declared.command.Command.TheVariants.{Local}
use Rattle.daapshare_words.specs.declared.command.LocalCommand.TheVariants as local
use Rattle.daapshare_words.specs.declared.replay.ReplayWords.{ReplayWords}

abbrev pub replay_usage : Text
replay_usage = codes "replay [--keep K] [--name N]"

abbrev pub replay_grammar : Grammar
replay_grammar = record { name = codes "replay"; parts = (codes "keep", Valued) ∷ (codes "name", Valued) ∷ [] }

abbrev pub replay_of : List Row → Option Command
replay_of rows =
    option_and_then
    (λ keep. option_map (λ name. Local (local.Replay (record { keep = keep; name = name }))) (name_of (first_of (codes "name") rows)))
    (keep_of (first_of (codes "keep") rows))

abbrev pub replay_command : List Text → Option Command
replay_command words = command_by replay_of replay_grammar words

pub record AreReplayWords (words : ReplayWords) : Type 0 where
  pub keep : IsWithin 1 65536 words.keep
  pub name : is_name words.name ≡ true
