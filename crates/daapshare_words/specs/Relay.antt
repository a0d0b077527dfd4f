-- The arguments of `relay`.
use Rattle.std.specs.Prelude.{◌≡◌, List, [], ◌∷◌, Option, codes, true, option_map, option_and_then}
use Rattle.clap.specs.Words.{Row, Text, first_of}
use Rattle.daapshare_words.specs.Grammar.{Grammar, command_by}
use Rattle.daapshare_words.specs.Numbers.{IsWithin, number_within, keep_of, workers_of}
use Rattle.daapshare_words.specs.Texts.{is_name, is_place, name_of, place_of}
use Rattle.daapshare_words.specs.declared.grammar.Part.TheVariants.{Place, Valued}
use Rattle.daapshare_words.specs.declared.command.Command.{Command}
use Rattle.daapshare_words.specs.declared.command.Command.TheVariants.{Net}
use Rattle.daapshare_words.specs.declared.command.NetCommand.TheVariants as net
use Rattle.daapshare_words.specs.declared.relay.RelayWords.{RelayWords}

abbrev pub relay_usage : Text
relay_usage = codes "relay UPSTREAM LISTEN ROUNDS [--name N] [--keep K] [--workers W]"

abbrev pub relay_grammar : Grammar
relay_grammar = record {
  name = codes "relay";
  parts = (codes "upstream", Place) ∷ (codes "listen", Place) ∷ (codes "rounds", Place) ∷ (codes "name", Valued) ∷ (codes "keep", Valued) ∷ (codes "workers", Valued) ∷ [];
}

-- each address, name and number, if it is in its range
abbrev pub relay_of : List Row → Option Command
relay_of rows =
    option_and_then
    (λ upstream. option_and_then
    (λ listen. option_and_then
    (λ rounds. option_and_then
    (λ name. option_and_then
    (λ keep. option_map (λ workers. Net (net.Relay (record { upstream = upstream; listen = listen; rounds = rounds; name = name; keep = keep; workers = workers })))
    (workers_of (first_of (codes "workers") rows)))
    (keep_of (first_of (codes "keep") rows)))
    (name_of (first_of (codes "name") rows)))
    (number_within 1 16384 (first_of (codes "rounds") rows)))
    (place_of (first_of (codes "listen") rows)))
    (place_of (first_of (codes "upstream") rows))

abbrev pub relay_command : List Text → Option Command
relay_command words = command_by relay_of relay_grammar words

pub record AreRelayWords (words : RelayWords) : Type 0 where
  pub upstream : is_place words.upstream ≡ true
  pub listen : is_place words.listen ≡ true
  pub rounds : IsWithin 1 16384 words.rounds
  pub name : is_name words.name ≡ true
  pub keep : IsWithin 1 65536 words.keep
  pub workers : IsWithin 1 64 words.workers
