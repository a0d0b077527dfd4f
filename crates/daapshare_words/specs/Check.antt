-- The arguments of `check`.
use Rattle.std.specs.Prelude.{List, [], Option, Some, codes}
use Rattle.clap.specs.Words.{Row, Text}
use Rattle.daapshare_words.specs.Grammar.{Grammar, command_by}
use Rattle.daapshare_words.specs.declared.command.Command.{Command}
use Rattle.daapshare_words.specs.declared.command.Command.TheVariants.{Local}
use Rattle.daapshare_words.specs.declared.command.LocalCommand.TheVariants as local

abbrev pub check_usage : Text
check_usage = codes "check"

abbrev pub check_grammar : Grammar
check_grammar = record { name = codes "check"; parts = [] }

abbrev pub check_of : List Row → Option Command
check_of rows = Some (Local local.Check)

abbrev pub check_command : List Text → Option Command
check_command words = command_by check_of check_grammar words
