-- The arguments of `serve`.
use Rattle.std.specs.Prelude.{◌≡◌, List, [], ◌∷◌, Option, is_some, IfSome, codes, true, option_map, option_and_then}
use Rattle.clap.specs.Words.{Row, Text, first_of}
use Rattle.daapshare_words.specs.Grammar.{Grammar, command_by}
use Rattle.daapshare_words.specs.Numbers.{IsWithin, keep_of, workers_of, editors_of}
use Rattle.daapshare_words.specs.Texts.{is_name, is_place, name_of, place_of}
use Rattle.daapshare_words.specs.declared.grammar.Part.TheVariants.{Place, Valued}
use Rattle.daapshare_words.specs.declared.command.Command.{Command}
use Rattle.daapshare_words.specs.declared.command.Command.TheVariants.{Net}
use Rattle.daapshare_words.specs.declared.command.NetCommand.TheVariants as net
use Rattle.daapshare_words.specs.declared.serve.ServeWords.{ServeWords}

abbrev pub serve_usage : Text
serve_usage = codes "serve LISTEN EDIT [--name N] [--keep K] [--workers W] [--editors E] [--file F]"

abbrev pub serve_grammar : Grammar
serve_grammar = record {
  name = codes "serve";
  parts = (codes "listen", Place) ∷ (codes "edit", Place) ∷ (codes "name", Valued) ∷ (codes "keep", Valued) ∷ (codes "workers", Valued) ∷ (codes "editors", Valued) ∷ (codes "file", Valued) ∷ [];
}

-- each address, name and number, if it is in its range, and the file as it is given
abbrev pub serve_of : List Row → Option Command
serve_of rows =
    option_and_then
    (λ listen. option_and_then
    (λ edit. option_and_then
    (λ name. option_and_then
    (λ keep. option_and_then
    (λ workers. option_map (λ editors. Net (net.Serve (record { listen = listen; edit = edit; name = name; keep = keep; workers = workers; editors = editors; file = first_of (codes "file") rows })))
    (editors_of (is_some (first_of (codes "file") rows)) (first_of (codes "editors") rows)))
    (workers_of (first_of (codes "workers") rows)))
    (keep_of (first_of (codes "keep") rows)))
    (name_of (first_of (codes "name") rows)))
    (place_of (first_of (codes "edit") rows)))
    (place_of (first_of (codes "listen") rows))

abbrev pub serve_command : List Text → Option Command
serve_command words = command_by serve_of serve_grammar words

pub record AreServeWords (words : ServeWords) : Type 0 where
  pub listen : is_place words.listen ≡ true
  pub edit : is_place words.edit ≡ true
  pub name : is_name words.name ≡ true
  pub keep : IsWithin 1 65536 words.keep
  pub workers : IsWithin 1 64 words.workers
  pub editors : IsWithin 1 8 words.editors
  pub one_editor : IfSome words.file (λ file. words.editors ≡ 1)
