use Rattle.std.proofs.Common.{◌∙◌, ap, true}
use Rattle.clap.specs.Simple.{App, app_of_fields}
use Rattle.clap.specs.declared.builder.command.Command.{Command}
use Rattle.clap.specs.declared.builder.command.Command.TheOpen.{Command-F}
use Rattle.daapshare_words.specs.Grammar.{app_for}
use Rattle.daapshare_words.proofs.grammar.bare.Goals as goal

pub returns : goal.returns
unfolding app_for
returns c = ap app_of_fields c.disable_version_flag.ensures
    ∙ (ap (λ (f : Command-F Command). app_of_fields (record f { disable_version_flag = true })) c.disable_help_flag.ensures
    ∙ ap (λ (a : App). record a { top = record a.top { disable_help_flag = true; disable_version_flag = true } }) c.new.ensures.app)
