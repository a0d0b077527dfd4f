use Rattle.std.proofs.Common.{◌≡◌, Err, ap, sym, subst, option_and_then, rules}
use Rattle.daapshare_words.specs.Grammar.{rows_for, texts_of}
use Rattle.daapshare_words.specs.Relay.{relay_grammar, relay_of}
use Rattle.daapshare_words.specs.Words.{Reads}
use Rattle.daapshare_words.proofs.Refused.{refused}
use Rattle.daapshare_words.proofs.relay.read.Goals as goal

pub returns-clause-read : goal.returns-clause-read
returns-clause-read c = subst (λ told. Reads told c.words_of.result) (sym (ap (option_and_then relay_of) c.in_ok-matches.ensures)) c.words_of.ensures.read

pub returns-in_err-matches-clause-read : goal.returns-in_err-matches-clause-read
returns-in_err-matches-clause-read c =
    let error = c.in_err-matches.field-0.0 in
    let is : c.from_residual.result ≡ Err error = search rules in
    refused relay_of (rows_for relay_grammar (texts_of c.args.words.now)) c.from_residual.result error is c.in_err-matches.ensures
