use Rattle.std.proofs.Common.{◌≡◌, sym, ap, ◌∙◌, subst}
use Rattle.share_history.specs.Keyed.{put_in}
use Rattle.share_history.specs.Marks.{marks_after}
use Rattle.share_register.specs.Registers.{Register}
use Rattle.share_register.proofs.Marking.{touch_marks, pass_marks}
use Rattle.share_register.proofs.register.Register.touch.Goals as goal

pub returns-in-Ok-clause-marks : goal.returns-in-Ok-clause-marks
returns-in-Ok-clause-marks c =
    let a = c.self.inside in
    let m = c.self.invariant.marks_are in
    let live = sym (m.live c.args.id) ∙ (sym c.contains_key.ensures ∙ c.if-contains_key.true) in
    subst (λ (r : Register). c.insert.new.self.entries ≡ marks_after r.history c.args.id r.marks) c.self.view_is
    (c.in-Ok.ensures.entries ∙ (ap (λ n. put_in a.marks.entries (c.args.id, n)) c.len-point.ensures.count ∙ touch_marks a.log.entries c.args.id a.marks.entries m live))

pub returns-else-contains_key-clause-marks : goal.returns-else-contains_key-clause-marks
returns-else-contains_key-clause-marks c =
    let a = c.self.inside in
    let m = c.self.invariant.marks_are in
    let gone = sym (m.live c.args.id) ∙ (sym c.contains_key.ensures ∙ c.if-contains_key.false) in
    subst (λ (r : Register). r.marks ≡ marks_after r.history c.args.id r.marks) c.self.view_is (pass_marks a.log.entries c.args.id a.marks.entries m gone)
