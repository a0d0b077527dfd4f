-- The arguments of `list`.
use Rattle.std.specs.Prelude.{ℕ, List, [], ◌∷◌, Option, codes, option_map}
use Rattle.clap.specs.Words.{Row, Text, first_of}
use Rattle.daapshare_words.specs.Grammar.{Grammar, command_by}
use Rattle.daapshare_words.specs.Numbers.{list_of}
use Rattle.daapshare_words.specs.declared.grammar.Part.TheVariants.{Valued}
use Rattle.daapshare_words.specs.declared.command.Command.{Command}
use Rattle.daapshare_words.specs.declared.command.Command.TheVariants.{Local}
use Rattle.daapshare_words.specs.declared.command.LocalCommand.TheVariants as local

abbrev pub list_usage : Text
list_usage = codes "list [--query Q] [--meta M] [--list ID]"

abbrev pub list_grammar : Grammar
list_grammar = record { name = codes "list"; parts = (codes "query", Valued) ∷ (codes "meta", Valued) ∷ (codes "list", Valued) ∷ [] }

-- the texts as they are given, and the container, if its id is in its range
abbrev pub list_for : List Row → Option (Option ℕ) → Option Command
list_for rows container = option_map (λ list. Local (local.List (record { query = first_of (codes "query") rows; meta = first_of (codes "meta") rows; list = list }))) container

abbrev pub list_words : List Row → Option Command
list_words rows = list_for rows (list_of (first_of (codes "list") rows))

abbrev pub list_command : List Text → Option Command
list_command words = command_by list_words list_grammar words
