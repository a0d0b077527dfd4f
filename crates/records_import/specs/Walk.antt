-- How the cells of a record fill in the values of its edit, one after another. Only contracts of private functions
-- need it.
use Rattle.std.specs.Prelude.{◌≡◌, ℕ, List, [], ◌∷◌, Bool, true, false, Option, Some, None, Result, Ok, Err, option_map}
use Rattle.item_model.specs.declared.changes.Edit.{Edit}
use Rattle.item_model.specs.declared.changes.Edit.TheVariants as an_edit
use Rattle.item_model.specs.declared.query.Query.{Query}
use Rattle.item_model.specs.declared.refusal.RecordWhy.{RecordWhy}
use Rattle.records_import.specs.Actions.{uses}
use Rattle.records_import.specs.Number.{cell_number}
use Rattle.records_import.specs.Records.{name_in, with_cell}
use Rattle.records_import.specs.Rules.{RuleReads}
use Rattle.records_import.specs.Table.{Cells}
use Rattle.records_import.specs.Values.{CellFlaw, UsedFlaw}
use Rattle.records_import.specs.declared.action.Action.{Action}
use Rattle.records_import.specs.declared.action.Action.TheVariants as does
use Rattle.records_import.specs.declared.header.Column.{Column}
use Rattle.records_import.specs.declared.header.Column.TheVariants as holds
use Rattle.records_import.specs.declared.values.CellError.{CellError}
use Rattle.records_import.specs.declared.values.CellError.TheVariants.{Refused, Memory}
use Rattle.records_import.specs.declared.values.Values.{Values}

-- nothing is known yet
abbrev pub no_values : Values
no_values = record { item = []; rule = None; list = None; entry = None }

-- what a cell adds whose column the action uses
abbrev pub Added : Column → List ℕ → Values → Values → Type 0
Added (holds.Property p) cell before after = after ≡ record before { item = with_cell (holds.Property p) cell before.item }
Added holds.Query cell before after = (rule : Query) × RuleReads cell (Ok rule) × (after ≡ record before { rule = Some rule })
Added holds.List cell before after = (id : ℕ) × (cell_number cell ≡ Some id) × (after ≡ record before { list = Some id })
Added holds.Item cell before after = (id : ℕ) × (cell_number cell ≡ Some id) × (after ≡ record before { entry = Some id })

abbrev pub AddedBy : Bool → Column → List ℕ → Values → Values → Type 0
AddedBy true column cell before after = Added column cell before after
AddedBy false column cell before after = after ≡ before

-- if the error is not an allocation failure, its reason is right
abbrev pub ForCause : CellError → (RecordWhy → Type 0) → Type 0
ForCause (Refused why) Means = Means why
ForCause Memory Means = Unit {0}

abbrev pub UsedTaken : Column → List ℕ → Values → Values → Result (Unit {0}) CellError → Type 0
UsedTaken column cell before after (Ok _) = UsedFlaw column cell None × Added column cell before after
UsedTaken column cell before after (Err error) = ForCause error (λ why. UsedFlaw column cell (Some why))

-- a cell was applied, or is malformed
abbrev pub CellTaken : Action → Column → List ℕ → Values → Values → Result (Unit {0}) CellError → Type 0
CellTaken action column cell before after (Ok _) = CellFlaw action column cell None × AddedBy (uses action column) column cell before after
CellTaken action column cell before after (Err error) = ForCause error (λ why. CellFlaw action column cell (Some why))

-- all cells were applied
abbrev pub Walked : Action → List Column → Cells → Values → Values → Type 0
Walked action [] cells before after = after ≡ before
Walked action (c ∷ columns) [] before after = ⊥
Walked action (c ∷ columns) (cell ∷ cells) before after =
    (next : Values) × CellFlaw action c cell None × AddedBy (uses action c) c cell before next × Walked action columns cells next after

abbrev pub member_edit : ℕ → Option ℕ → Option ℕ → Option Edit
member_edit id (Some list) (Some item) = Some (an_edit.PutMember list id item)
member_edit id None item = None
member_edit id (Some list) None = None

-- the edit with these values, or None if the action lacks one of them
abbrev pub edit_from : Action → ℕ → Values → Option Edit
edit_from does.PutItem id values = Some (an_edit.PutItem (record { id = id; item = values.item }))
edit_from does.DropItem id values = Some (an_edit.DropItem id)
edit_from does.PutList id values = Some (an_edit.PutList id (name_in values.item))
edit_from does.PutRule id values = option_map (λ rule. an_edit.PutRule id (name_in values.item) rule) values.rule
edit_from does.DropList id values = Some (an_edit.DropList id)
edit_from does.PutMember id values = member_edit id values.list values.entry
edit_from does.DropMember id values = option_map (λ list. an_edit.DropMember list id) values.list
