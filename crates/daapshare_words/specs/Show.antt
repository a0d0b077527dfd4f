-- The arguments of `show`.
use Rattle.std.specs.Prelude.{List, [], ◌∷◌, Option, Some, codes}
use Rattle.clap.specs.Words.{Row, Text}
use Rattle.daapshare_words.specs.Grammar.{Grammar, is_flagged, command_by}
use Rattle.daapshare_words.specs.declared.grammar.Part.TheVariants.{Flag}
use Rattle.daapshare_words.specs.declared.command.Command.{Command}
use Rattle.daapshare_words.specs.declared.command.Command.TheVariants.{Local}
use Rattle.daapshare_words.specs.declared.command.LocalCommand.TheVariants as local

abbrev pub show_usage : Text
show_usage = codes "show [--back]"

abbrev pub show_grammar : Grammar
show_grammar = record { name = codes "show"; parts = (codes "back", Flag) ∷ [] }

abbrev pub show_of : List Row → Option Command
show_of rows = Some (Local (local.Show (record { back = is_flagged (codes "back") rows })))

abbrev pub show_command : List Text → Option Command
show_command words = command_by show_of show_grammar words
