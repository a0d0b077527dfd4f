-- The arguments of `json`.
use Rattle.std.specs.Prelude.{List, [], ◌∷◌, Option, Some, codes}
use Rattle.clap.specs.Words.{Row, Text}
use Rattle.daapshare_words.specs.Grammar.{Grammar, is_flagged, command_by}
use Rattle.daapshare_words.specs.declared.grammar.Part.TheVariants.{Flag}
use Rattle.daapshare_words.specs.declared.command.Command.{Command}
use Rattle.daapshare_words.specs.declared.command.Command.TheVariants.{Local}
use Rattle.daapshare_words.specs.declared.command.LocalCommand.TheVariants as local

abbrev pub json_usage : Text
json_usage = codes "json [--back]"

abbrev pub json_grammar : Grammar
json_grammar = record { name = codes "json"; parts = (codes "back", Flag) ∷ [] }

abbrev pub json_of : List Row → Option Command
json_of rows = Some (Local (local.Json (record { back = is_flagged (codes "back") rows })))

abbrev pub json_command : List Text → Option Command
json_command words = command_by json_of json_grammar words
