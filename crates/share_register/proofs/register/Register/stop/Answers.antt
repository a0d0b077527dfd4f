use Rattle.std.proofs.Common.{sym, subst}
use Rattle.share_register.specs.Counts.{IsSound}
use Rattle.share_register.proofs.Sound.{few_after, sound_stop}
use Rattle.share_register.proofs.register.Register.stop.Goals as goal

pub append-requires-clause-few : goal.append-requires-clause-few
append-requires-clause-few c = few_after _ _ _ _ _ _ c.self.invariant.counts

pub invariant_of-self : goal.invariant_of-self
invariant_of-self c =
    let a = c.self.inside in
    subst (λ h. IsSound h a.limited_entries a.edits a.logins Rattle.std.proofs.Common.true a.marks.entries c.append.new.self.spare) (sym c.append.ensures.list)
    (sound_stop a.log.entries c.args.by a.limited_entries a.edits a.logins a.log.spare c.append.new.self.spare a.is_stopped a.marks.entries c.self.invariant)
