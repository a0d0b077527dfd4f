use Rattle.std.proofs.Common.{◌≡◌, take}
use Rattle.clap.specs.Words.{app_of}
use Rattle.daapshare_words.specs.Grammar.{app_for, grammar_of}
use Rattle.daapshare_words.proofs.grammar.command.Given as goal

-- the parts so far are in the command
abbrev pub invariant-loop-part_name : goal.invariant-loop-part_name
invariant-loop-part_name l = app_of l.command ≡ app_for (grammar_of l.name (take l.part_name-index l.parts))
