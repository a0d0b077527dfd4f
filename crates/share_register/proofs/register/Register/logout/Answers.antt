use Rattle.std.proofs.Common.{◌≡◌, ◌+◌, ◌≤◌, true, cond, List, length, sym, ap, ◌∙◌, subst, arith}
use Rattle.std.specs.Option.{is_some}
use Rattle.item_model.specs.declared.changes.Entry.{Entry}
use Rattle.share_history.specs.Marks.{marks_after}
use Rattle.share_history.specs.Sessions.{is_live, is_stopped}
use Rattle.share_register.specs.Counts.{IsSound}
use Rattle.share_register.specs.Registers.{Register}
use Rattle.share_register.proofs.Marking.{logout_marks}
use Rattle.share_register.proofs.Sound.{few_after, sound_logout}
use Rattle.share_register.proofs.register.Register.logout.Goals as goal

pub append-requires-clause-few : goal.append-requires-clause-few
append-requires-clause-few c = few_after _ _ _ _ _ _ c.self.invariant.counts

pub invariant_of-self : goal.invariant_of-self
invariant_of-self c =
    let a = c.self.inside in
    let live = ap (λ r. is_live r.history c.args.id) c.self.view_is ∙ c.requires.live in
    let had : is_some c.remove.result ≡ true = ap is_some c.remove.ensures.value ∙ (c.self.invariant.marks_are.live c.args.id ∙ live) in
    let fewer : length c.remove.new.self.entries + 1 ≡ length a.marks.entries = subst (λ b. length c.remove.new.self.entries + cond b 1 0 ≡ length a.marks.entries) had c.remove.ensures.len in
    let before = c.self.invariant.room (ap (λ r. is_stopped r.history) c.self.view_is ∙ c.requires.going) in
    let left = c.append.ensures.room in
    let room : length c.remove.new.self.entries + 1 ≤ c.append.new.self.spare = omega arith in
    subst (λ (h : List Entry). IsSound h a.limited_entries a.edits a.logins a.is_stopped c.remove.new.self.entries c.append.new.self.spare) (sym c.append.ensures.list)
    (sound_logout a.log.entries c.args.by a.limited_entries a.edits a.logins c.args.id a.log.spare c.append.new.self.spare a.is_stopped a.marks.entries c.remove.new.self.entries c.self.invariant live c.remove.ensures.entries room)

pub returns-clause-marks : goal.returns-clause-marks
returns-clause-marks c =
    let a = c.self.inside in
    subst (λ (t : List Entry × Register). c.remove.new.self.entries ≡ marks_after t.0 c.args.id t.1.marks) (λ i. (sym c.append.ensures.list i, c.self.view_is i))
    (c.remove.ensures.entries ∙ logout_marks a.log.entries c.args.by c.args.id a.marks.entries c.self.invariant.marks_are)
