use Rattle.std.proofs.Common.{ap, sym, subst, ◌∙◌, option_and_then}
use Rattle.clap.specs.Words.{found_of, rows_of}
use Rattle.daapshare_words.specs.List.{list_for, list_words}
use Rattle.daapshare_words.specs.Numbers.{list_of}
use Rattle.daapshare_words.specs.Words.{Reads}
use Rattle.daapshare_words.proofs.list.read.Goals as goal

pub returns-in-Some-clause-read : goal.returns-in-Some-clause-read
returns-in-Some-clause-read c =
    let container = c.in-Some.ensures.read ∙ ap list_of c.value_of.ensures in
    subst (λ told. Reads told c.words_of.result)
    (ap (list_for (rows_of (found_of c.in_ok-matches.matches))) container ∙ sym (ap (option_and_then list_words) c.in_ok-matches.ensures)) c.words_of.ensures.read
