use Rattle.std.proofs.Common.{◌∙◌, ap, sym, take}
use Rattle.std.proofs.lemmas.List.{take_more}
use Rattle.clap.specs.Words.{App, Rule, rule_of, with_rule}
use Rattle.daapshare_words.specs.Grammar.{app_for, grammar_of}
use Rattle.daapshare_words.proofs.Parts.{with_part}
use Rattle.daapshare_words.proofs.grammar.command.Goals as goal

pub loop-part_name-preserved : goal.loop-part_name-preserved
loop-part_name-preserved c =
    let i = c.loop-part_name.part_name-index in
    let before = app_for (grammar_of c.args.name.now (take i c.args.parts.now)) in
    c.in_ok-command.ensures.shape c.argument.ensures.local
    ∙ (ap (λ (app : App). with_rule app (rule_of c.argument.result)) c.loop-part_name.invariant
    ∙ (ap (λ (rule : Rule). with_rule before rule) c.argument.ensures.rule
    ∙ (with_part c.args.name.now (take i c.args.parts.now) _
    ∙ ap (λ parts. app_for (grammar_of c.args.name.now parts)) (sym (take_more c.args.parts.now i _ c.loop-part_name-test.true)))))
