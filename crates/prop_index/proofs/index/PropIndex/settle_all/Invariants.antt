use Rattle.std.proofs.Common.{◌≡◌, ℕ, List, not, ◌&&◌}
use Rattle.std.specs.List.{list_any}
use Rattle.item_model.specs.declared.request.Browse.{Browse}
use Rattle.prop_index.specs.IdSets.{has}
use Rattle.prop_index.specs.Forms.{Form}
use Rattle.prop_index.specs.Index.{found}
use Rattle.prop_index.specs.Keys.{leaves}
use Rattle.prop_index.proofs.index.PropIndex.settle_all.Given as goal

-- without what the turns to come take away, each text has what it had without what all of them take away
abbrev pub invariant-loop-id : goal.invariant-loop-id
invariant-loop-id l =
    (browse : Browse) (form : Form) (text : List ℕ) (id : ℕ)
    → (has id (found l.self browse form text) && not (list_any (leaves browse form text id) l.id-iterator))
    ≡ (has id (found l.initial.self browse form text) && not (list_any (leaves browse form text id) l.turns.entries))
