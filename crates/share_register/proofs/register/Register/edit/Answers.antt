use Rattle.std.proofs.Common.{◌+◌, ◌≤◌, List, length, sym, ap, ◌∙◌, subst, arith}
use Rattle.item_model.specs.declared.changes.Edit.{Edit}
use Rattle.item_model.specs.declared.changes.Entry.{Entry}
use Rattle.share_history.specs.Limits.{is_below_entry_limit, has_room_for}
use Rattle.share_register.specs.Counts.{IsSound}
use Rattle.share_register.proofs.Sound.{few_after, sound_edit}
use Rattle.share_register.proofs.register.Register.edit.Goals as goal

pub append-requires-clause-few : goal.append-requires-clause-few
append-requires-clause-few c = few_after _ _ _ _ _ _ c.self.invariant.counts

pub invariant_of-self : goal.invariant_of-self
invariant_of-self c =
    let a = c.self.inside in
    let edits = c.as_slice-count.ensures ∙ c.batch.view_is in
    let many = ap (λ r. length r.marks) c.self.view_is in
    let spare = ap (λ r. r.spare) c.self.view_is in
    let asked = c.requires.room in
    let left = c.append.ensures.room in
    let room : length a.marks.entries + 1 ≤ c.append.new.self.spare = omega arith in
    subst (λ (t : List Entry × List Edit). IsSound t.0 (a.limited_entries + 1) (a.edits + length t.1) a.logins a.is_stopped a.marks.entries c.append.new.self.spare) (λ i. (sym c.append.ensures.list i, sym edits i))
    (sound_edit a.log.entries c.args.by a.limited_entries a.edits a.logins a.log.spare c.append.new.self.spare a.is_stopped a.marks.entries c.args.batch c.self.invariant
    (ap (λ r. is_below_entry_limit r.history) c.self.view_is ∙ c.requires.below) (ap (λ r. has_room_for r.history (length c.args.batch)) c.self.view_is ∙ c.requires.few) room)
