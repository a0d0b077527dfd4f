-- The plans of rehearsals, and the batches of a plan.
use Rattle.std.specs.Prelude.{◌≤◌, ◌*◌, List}
use Rattle.item_model.specs.declared.changes.Edit.{Edit}
use Rattle.rehearsal.specs.declared.plan.Rehearsal.{Rehearsal}
use Rattle.rehearsal.specs.Edits.{rehearsed}

pub record AreInRange (plan : Rehearsal) : Type 0 where
  pub number : plan.number ≤ 2147483647
  pub batches_from : 1 ≤ plan.batches
  pub batches_to : plan.batches ≤ 65536
  pub size_from : 1 ≤ plan.size
  pub size_to : plan.size ≤ 256
  pub edits : plan.batches * plan.size ≤ 262144
  pub keep_from : 1 ≤ plan.keep
  pub keep_to : plan.keep ≤ 65536

abbrev pub batches_of : Rehearsal → List (List Edit)
batches_of plan = rehearsed plan.number plan.batches plan.size
