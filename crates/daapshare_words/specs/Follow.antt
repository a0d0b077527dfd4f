-- The arguments of `follow`.
use Rattle.std.specs.Prelude.{◌≡◌, List, [], ◌∷◌, Option, IfSome, IsUtf8, codes, true, option_map, option_and_then}
use Rattle.clap.specs.Words.{Row, Text, first_of}
use Rattle.daapshare_words.specs.Grammar.{Grammar, command_by}
use Rattle.daapshare_words.specs.Numbers.{IsWithin, number_within, list_of}
use Rattle.daapshare_words.specs.Texts.{is_place, place_of}
use Rattle.daapshare_words.specs.declared.grammar.Part.TheVariants.{Place, Valued}
use Rattle.daapshare_words.specs.declared.command.Command.{Command}
use Rattle.daapshare_words.specs.declared.command.Command.TheVariants.{Net}
use Rattle.daapshare_words.specs.declared.command.NetCommand.TheVariants as net
use Rattle.daapshare_words.specs.declared.follow.FollowWords.{FollowWords}

abbrev pub follow_usage : Text
follow_usage = codes "follow PLACE ROUNDS [--query Q] [--meta M] [--list ID]"

abbrev pub follow_grammar : Grammar
follow_grammar = record {
  name = codes "follow";
  parts = (codes "place", Place) ∷ (codes "rounds", Place) ∷ (codes "query", Valued) ∷ (codes "meta", Valued) ∷ (codes "list", Valued) ∷ [];
}

-- the address, the rounds and the container, if each is in its range, and the texts as they are given
abbrev pub follow_of : List Row → Option Command
follow_of rows =
    option_and_then
    (λ place. option_and_then
    (λ rounds. option_map (λ list. Net (net.Follow (record { place = place; rounds = rounds; query = first_of (codes "query") rows; meta = first_of (codes "meta") rows; list = list }))) (list_of (first_of (codes "list") rows)))
    (number_within 1 16384 (first_of (codes "rounds") rows)))
    (place_of (first_of (codes "place") rows))

abbrev pub follow_command : List Text → Option Command
follow_command words = command_by follow_of follow_grammar words

pub record AreFollowWords (words : FollowWords) : Type 0 where
  pub place : is_place words.place ≡ true
  pub rounds : IsWithin 1 16384 words.rounds
  pub query : IfSome words.query IsUtf8
  pub list : IfSome words.list (IsWithin 1 4294967295)
