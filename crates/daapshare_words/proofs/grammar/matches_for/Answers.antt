use Rattle.clap.specs.Words.{app_of, rows_of, found_of}
use Rattle.daapshare_words.specs.Grammar.{grammar_of, texts_of}
use Rattle.daapshare_words.proofs.Taken.{taken, refused, at_error}
use Rattle.daapshare_words.proofs.grammar.matches_for.Goals as goal

pub returns-in_err-try_get_matches_from : goal.returns-in_err-try_get_matches_from
returns-in_err-try_get_matches_from c =
    at_error c.from_residual-in_err-try_get_matches_from.result _ _ _ c.from_residual-in_err-try_get_matches_from.ensures.1
    (λ e other usage. refused (grammar_of c.args.name.now c.args.parts.now) (app_of c.in_ok-command.command) (texts_of c.args.words.now)
    c.in_err-try_get_matches_from.field-0.0 c.in_ok-command.ensures c.in_err-try_get_matches_from.ensures.kinds (other usage))

pub returns : goal.returns
returns c = taken (grammar_of c.args.name.now c.args.parts.now) (app_of c.in_ok-command.command) (texts_of c.args.words.now)
    (rows_of (found_of c.in_ok-try_get_matches_from.field-0)) c.in_ok-command.ensures c.in_ok-try_get_matches_from.ensures.kinds
    (λ simple. (c.in_ok-try_get_matches_from.ensures.matches simple).0)
