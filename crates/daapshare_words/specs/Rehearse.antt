-- The arguments of `rehearse`.
use Rattle.std.specs.Prelude.{List, [], ◌∷◌, Option, codes, ◌≤◌, option_map, option_and_then}
use Rattle.clap.specs.Words.{Row, Text, first_of}
use Rattle.daapshare_words.specs.Grammar.{Grammar, command_by}
use Rattle.daapshare_words.specs.declared.grammar.Part.TheVariants.{Place, Valued}
use Rattle.daapshare_words.specs.declared.command.Command.{Command}
use Rattle.daapshare_words.specs.declared.command.Command.TheVariants.{Local}
use Rattle.daapshare_words.specs.declared.command.LocalCommand.TheVariants as local
use Rattle.daapshare_words.specs.declared.rehearse.RehearseWords.{RehearseWords}
use Rattle.daapshare_words.specs.Numbers.{number_within, keep_of}

abbrev pub rehearse_usage : Text
rehearse_usage = codes "rehearse NUMBER BATCHES SIZE [--keep K]"

abbrev pub rehearse_grammar : Grammar
rehearse_grammar = record { name = codes "rehearse"; parts = (codes "number", Place) ∷ (codes "batches", Place) ∷ (codes "size", Place) ∷ (codes "keep", Valued) ∷ [] }

-- each number, if it is in its range
abbrev pub rehearse_of : List Row → Option Command
rehearse_of rows =
    option_and_then
    (λ number. option_and_then
    (λ batches. option_and_then
    (λ size. option_map (λ keep. Local (local.Rehearse (record { number = number; batches = batches; size = size; keep = keep }))) (keep_of (first_of (codes "keep") rows)))
    (number_within 1 256 (first_of (codes "size") rows)))
    (number_within 1 65536 (first_of (codes "batches") rows)))
    (number_within 0 2147483647 (first_of (codes "number") rows))

abbrev pub rehearse_command : List Text → Option Command
rehearse_command words = command_by rehearse_of rehearse_grammar words

pub record AreRehearseWords (words : RehearseWords) : Type 0 where
  pub begins : words.number ≤ 2147483647
  pub some_batches : 1 ≤ words.batches
  pub few_batches : words.batches ≤ 65536
  pub some_edits : 1 ≤ words.size
  pub few_edits : words.size ≤ 256
  pub some_kept : 1 ≤ words.keep
  pub few_kept : words.keep ≤ 65536
