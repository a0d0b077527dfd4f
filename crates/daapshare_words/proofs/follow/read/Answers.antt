use Rattle.std.proofs.Common.{ap, sym, subst, option_and_then}
use Rattle.daapshare_words.specs.Follow.{follow_of}
use Rattle.daapshare_words.specs.Words.{Reads}
use Rattle.daapshare_words.proofs.follow.read.Goals as goal

pub returns-clause-read : goal.returns-clause-read
returns-clause-read c = subst (λ told. Reads told c.words_of.result) (sym (ap (option_and_then follow_of) c.in_ok-matches.ensures)) c.words_of.ensures.read
