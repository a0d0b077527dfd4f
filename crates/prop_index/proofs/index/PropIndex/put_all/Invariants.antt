use Rattle.std.proofs.Common.{◌≡◌, ℕ, List, true, ◌||◌}
use Rattle.std.specs.List.{list_any}
use Rattle.item_model.specs.declared.request.Browse.{Browse}
use Rattle.prop_index.specs.IdSets.{has}
use Rattle.prop_index.specs.Forms.{Form}
use Rattle.prop_index.specs.Index.{found}
use Rattle.prop_index.specs.Keys.{brings, HaveTexts}
use Rattle.prop_index.proofs.index.PropIndex.put_all.Given as goal

-- with what the turns to come bring, each text has what it had and what all of them bring
abbrev pub invariant-loop-id : goal.invariant-loop-id
invariant-loop-id l = record {
  all : (browse : Browse) (form : Form) (text : List ℕ) (id : ℕ)
      → (has id (found l.self browse form text) || list_any (brings browse form text id) l.id-iterator)
      ≡ (has id (found l.initial.self browse form text) || list_any (brings browse form text id) l.turns.entries);
  kept : (browse : Browse) (form : Form) (text : List ℕ) (id : ℕ)
      → has id (found l.initial.self browse form text) ≡ true → has id (found l.self browse form text) ≡ true;
  texts : HaveTexts l.id-iterator → HaveTexts l.turns.entries;
}
