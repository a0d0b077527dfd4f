use Rattle.std.proofs.Common.{subst}
use Rattle.share_core.specs.Steps.{IsRead}
use Rattle.share_core.proofs.Answered.{read_is, shared}
use Rattle.share_core.proofs.Sound.{sound_on}
use Rattle.share_core.proofs.share.Share.read.Goals as goal

pub invariant_of-self : goal.invariant_of-self
invariant_of-self c =
    let a = c.self.inside in
    sound_on a.settings a.register.history c.read.new.register.history a.stores c.read.ensures.history c.self.invariant

pub returns-clause-read : goal.returns-clause-read
returns-clause-read c = λ told fits.
    let a = c.self.inside in
    let now = c.read.new.register in
    subst (λ old. IsRead told c.args.session old (shared a.settings now.history now.marks) c.read.result) c.self.view_is
    (read_is a.settings a.register.history now.history a.register.marks now.marks c.args.content c.args.session c.read.result told c.read.ensures.history c.read.ensures.marks c.read.ensures.reply fits)
