use Rattle.std.proofs.Common.{◌≡◌, ◌+◌, ◌-◌, ◌<◌, ◌≤◌, ℕ, Bool, true, false, cond, List, [], ◌∷◌, ◌++◌, length, sym, refl, ap, ◌∙◌, subst, arith}
use Rattle.std.specs.Option.{is_some}
use Rattle.item_model.specs.declared.changes.Entry.{Entry}
use Rattle.item_model.specs.declared.changes.Entry.TheVariants.{Login}
use Rattle.share_history.specs.Histories.{batches, revision}
use Rattle.share_history.specs.Keyed.{put_in, taken_out}
use Rattle.share_history.specs.Limits.{is_below_entry_limit}
use Rattle.share_history.specs.Marks.{Marks, marks_after}
use Rattle.share_history.specs.Sessions.{next_session}
use Rattle.share_register.specs.Counts.{IsSound}
use Rattle.share_register.specs.Registers.{Register}
use Rattle.share_register.proofs.Marking.{login_marks}
use Rattle.share_register.proofs.Sound.{few_after, next_fits, sound_login}
use Rattle.share_register.proofs.register.Register.login.Goals as goal

at_most_one : (b : Bool) → cond b 0 1 ≤ 1
at_most_one true = omega arith
at_most_one false = omega arith

pub overflow_add-id : goal.overflow_add-id
overflow_add-id c = omega (arith, next_fits _ _ _ _ _ c.self.invariant.counts)

pub append-requires-clause-few : goal.append-requires-clause-few
append-requires-clause-few c =
    let e = Login c.args.by (c.self.inside.logins + 1) in
    subst (λ (h : List Entry). revision (batches (h ++ e ∷ [])) < 4294967296) (sym c.in_ok-reserve.ensures.list) (few_after c.self.inside.log.entries e _ _ _ _ c.self.invariant.counts)

-- the last-answered lengths after the login
left : (marks put gone : Marks) (x k len point : ℕ) → gone ≡ taken_out put k → put ≡ put_in marks (x, point) → k ≡ x - 64 → point ≡ len + 1 → gone ≡ taken_out (put_in marks (x, len + 1)) (x - 64)
left marks put gone x k len point out in_put key at_end = out ∙ (λ i. taken_out ((in_put ∙ ap (λ n. put_in marks (x, n)) at_end) i) (key i))

pub invariant_of-self-2 : goal.invariant_of-self-2
invariant_of-self-2 c =
    let a = c.self.inside in
    let is = left a.marks.entries c.insert.new.self.entries c.remove.new.self.entries (a.logins + 1) c.saturating_sub.result (length a.log.entries) (c.len-point.result + 1)
    c.remove.ensures.entries c.in_ok-insert.ensures.entries c.saturating_sub.ensures (ap (λ n. n + 1) c.len-point.ensures.count) in
    let fewer = c.remove.ensures.len in
    let more = c.in_ok-insert.ensures.len in
    let one = at_most_one (is_some c.in_ok-insert.field-0) in
    let made = c.in_ok-reserve.ensures.room in
    let many = c.len.ensures.len in
    let kept = c.append.ensures.room in
    let room : length c.remove.new.self.entries + 1 ≤ c.append.new.self.spare = omega arith in
    let list = c.append.ensures.list ∙ ap (λ (h : List Entry). h ++ Login c.args.by (a.logins + 1) ∷ []) c.in_ok-reserve.ensures.list in
    subst (λ (h : List Entry). IsSound h (a.limited_entries + 1) a.edits (a.logins + 1) a.is_stopped c.remove.new.self.entries c.append.new.self.spare) (sym list)
    (sound_login a.log.entries c.args.by a.limited_entries a.edits a.logins (a.logins + 1) a.log.spare c.append.new.self.spare a.is_stopped a.marks.entries c.remove.new.self.entries c.self.invariant
    (ap (λ r. is_below_entry_limit r.history) c.self.view_is ∙ c.requires.below) refl is room)

pub returns-clause-marks : goal.returns-clause-marks
returns-clause-marks c =
    let a = c.self.inside in
    let is = left a.marks.entries c.insert.new.self.entries c.remove.new.self.entries (a.logins + 1) c.saturating_sub.result (length a.log.entries) (c.len-point.result + 1)
    c.remove.ensures.entries c.in_ok-insert.ensures.entries c.saturating_sub.ensures (ap (λ n. n + 1) c.len-point.ensures.count) in
    let list = c.append.ensures.list ∙ ap (λ (h : List Entry). h ++ Login c.args.by (a.logins + 1) ∷ []) c.in_ok-reserve.ensures.list in
    let id = ap (λ n. n + 1) c.self.invariant.counts.logins_are in
    subst (λ (t : List Entry × ℕ × Register). c.remove.new.self.entries ≡ marks_after t.0 t.1 t.2.marks) (λ i. (sym list i, (id ∙ ap (λ (r : Register). next_session r.history) c.self.view_is) i, c.self.view_is i))
    (is ∙ login_marks a.log.entries c.args.by (a.logins + 1) a.marks.entries c.self.invariant.marks_are id)
