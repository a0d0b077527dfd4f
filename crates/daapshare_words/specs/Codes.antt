-- The arguments of `codes`.
use Rattle.std.specs.Prelude.{List, [], ◌∷◌, Option, Some, codes}
use Rattle.clap.specs.Words.{Row, Text}
use Rattle.daapshare_words.specs.Grammar.{Grammar, is_flagged, command_by}
use Rattle.daapshare_words.specs.declared.grammar.Part.TheVariants.{Flag}
use Rattle.daapshare_words.specs.declared.command.Command.{Command}
use Rattle.daapshare_words.specs.declared.command.Command.TheVariants.{Local}
use Rattle.daapshare_words.specs.declared.command.LocalCommand.TheVariants as local

abbrev pub codes_usage : Text
codes_usage = codes "codes [--learn]"

abbrev pub codes_grammar : Grammar
codes_grammar = record { name = codes "codes"; parts = (codes "learn", Flag) ∷ [] }

abbrev pub codes_of : List Row → Option Command
codes_of rows = Some (Local (local.Codes (record { learn = is_flagged (codes "learn") rows })))

abbrev pub codes_command : List Text → Option Command
codes_command words = command_by codes_of codes_grammar words
