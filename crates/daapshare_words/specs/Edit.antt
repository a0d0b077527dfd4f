-- The arguments of `edit`.
use Rattle.std.specs.Prelude.{◌≡◌, List, [], ◌∷◌, Option, codes, true, option_map}
use Rattle.clap.specs.Words.{Row, Text, first_of}
use Rattle.daapshare_words.specs.Grammar.{Grammar, is_flagged, command_by}
use Rattle.daapshare_words.specs.Texts.{is_place, place_of}
use Rattle.daapshare_words.specs.declared.grammar.Part.TheVariants.{Place, Flag}
use Rattle.daapshare_words.specs.declared.command.Command.{Command}
use Rattle.daapshare_words.specs.declared.command.Command.TheVariants.{Net}
use Rattle.daapshare_words.specs.declared.command.NetCommand.TheVariants as net
use Rattle.daapshare_words.specs.declared.edit.EditWords.{EditWords}

abbrev pub edit_usage : Text
edit_usage = codes "edit PLACE [--stop]"

abbrev pub edit_grammar : Grammar
edit_grammar = record { name = codes "edit"; parts = (codes "place", Place) ∷ (codes "stop", Flag) ∷ [] }

abbrev pub edit_of : List Row → Option Command
edit_of rows =
    option_map (λ place. Net (net.Edit (record { place = place; stop = is_flagged (codes "stop") rows }))) (place_of (first_of (codes "place") rows))

abbrev pub edit_command : List Text → Option Command
edit_command words = command_by edit_of edit_grammar words

pub record AreEditWords (words : EditWords) : Type 0 where
  pub place : is_place words.place ≡ true
