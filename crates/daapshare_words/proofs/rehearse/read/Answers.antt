use Rattle.std.proofs.Common.{ap, sym, ◌∙◌, option_and_then}
use Rattle.daapshare_words.specs.Rehearse.{rehearse_of}
use Rattle.daapshare_words.proofs.rehearse.read.Goals as goal

pub returns-in-Some-clause-read : goal.returns-in-Some-clause-read
returns-in-Some-clause-read c = ap (option_and_then rehearse_of) c.in_ok-matches.ensures ∙ sym c.in-Some.ensures.read

pub returns-clause-read : goal.returns-clause-read
returns-clause-read c = ap (option_and_then rehearse_of) c.in_ok-matches.ensures ∙ sym c.in-None.ensures.read
