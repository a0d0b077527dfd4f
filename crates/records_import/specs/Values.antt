-- The values in the cells of a record: ids, properties, rules, and what is malformed in them.
use Rattle.std.specs.Prelude.{◌≡◌, ℕ, ◌^◌, List, [], ◌∷◌, length, Bool, true, false, ◌&&◌, nat_le, nat_lt, Option, Some, None, Result, Ok, Err, if◌then◌else◌}
use Rattle.std.specs.Str.{is_utf8}
use Rattle.dmap_tags.specs.declared.kinds.Kind.{Kind}
use Rattle.dmap_tags.specs.declared.kinds.Kind.TheVariants as kind
use Rattle.item_model.specs.Items.{is_value_of}
use Rattle.item_model.specs.Properties.{property_kind}
use Rattle.item_model.specs.declared.item.PropValue.{PropValue}
use Rattle.item_model.specs.declared.item.PropValue.TheVariants as value
use Rattle.item_model.specs.Limits.{text_limit}
use Rattle.item_model.specs.declared.property.Property.{Property}
use Rattle.item_model.specs.declared.query.Query.{Query}
use Rattle.item_model.specs.declared.refusal.RecordWhy.{RecordWhy}
use Rattle.item_model.specs.declared.refusal.RecordWhy.TheVariants as reason
use Rattle.records_import.specs.Actions.{uses}
use Rattle.records_import.specs.Number.{cell_number}
use Rattle.records_import.specs.Rules.{RuleReads}
use Rattle.records_import.specs.declared.action.Action.{Action}
use Rattle.records_import.specs.declared.header.Column.{Column}
use Rattle.records_import.specs.declared.header.Column.TheVariants as holds

abbrev pub is_empty : List ℕ → Bool
is_empty [] = true
is_empty (b ∷ bytes) = false

abbrev pub flaw_of : {A : Type 0} → Result A RecordWhy → Option RecordWhy
flaw_of (Ok x) = None
flaw_of (Err why) = Some why

-- an id is a number of 32 bits that is at least the least one
abbrev pub id_from : ℕ → Option ℕ → Result ℕ RecordWhy
id_from least None = Err reason.Number
id_from least (Some n) = if nat_le least n && nat_lt n (2 ^ 32) then Ok n else Err reason.Range

abbrev pub id_in : ℕ → List ℕ → Result ℕ RecordWhy
id_in least cell = id_from least (cell_number cell)

-- an id that the record needs
abbrev pub needed_id : ℕ → List ℕ → Result ℕ RecordWhy
needed_id least cell = if is_empty cell then Err reason.Missing else id_in least cell

-- a text is UTF-8 and not too long
abbrev pub text_in : List ℕ → Result PropValue RecordWhy
text_in cell = if is_utf8 cell && nat_le (length cell) text_limit then Ok (value.Text cell) else Err reason.Text

abbrev pub number_from : Property → Option ℕ → Result PropValue RecordWhy
number_from p None = Err reason.Number
number_from p (Some n) = if is_value_of p (value.Number n) then Ok (value.Number n) else Err reason.Range

abbrev pub by_kind : Kind → Property → List ℕ → Result PropValue RecordWhy
by_kind kind.Text p cell = text_in cell
by_kind _ p cell = number_from p (cell_number cell)

-- the value of a property in a cell that is not empty
abbrev pub property_in : Property → List ℕ → Result PropValue RecordWhy
property_in p cell = by_kind (property_kind p) p cell

-- an empty cell is a property that the item lacks
abbrev pub property_flaw : Property → List ℕ → Option RecordWhy
property_flaw p cell = if is_empty cell then None else flaw_of (property_in p cell)

-- the error of a query's cell whose text was read
abbrev pub ReadFlaw : List ℕ → Option RecordWhy → Type 0
ReadFlaw cell None = (rule : Query) × RuleReads cell (Ok rule)
ReadFlaw cell (Some (reason.Query error)) = RuleReads cell (Err error)
ReadFlaw cell (Some _) = ⊥

abbrev pub TextFlaw : Bool → List ℕ → Option RecordWhy → Type 0
TextFlaw true cell flaw = ReadFlaw cell flaw
TextFlaw false cell flaw = flaw ≡ Some reason.Text

abbrev pub RuleFlaw : List ℕ → Option RecordWhy → Type 0
RuleFlaw [] flaw = flaw ≡ Some reason.Missing
RuleFlaw (b ∷ bytes) flaw = TextFlaw (is_utf8 (b ∷ bytes)) (b ∷ bytes) flaw

-- the error, if there is one, of a cell that the action uses
abbrev pub UsedFlaw : Column → List ℕ → Option RecordWhy → Type 0
UsedFlaw (holds.Property p) cell flaw = flaw ≡ property_flaw p cell
UsedFlaw holds.Query cell flaw = RuleFlaw cell flaw
UsedFlaw holds.List cell flaw = flaw ≡ flaw_of (needed_id 2 cell)
UsedFlaw holds.Item cell flaw = flaw ≡ flaw_of (needed_id 1 cell)

abbrev pub FlawBy : Bool → Column → List ℕ → Option RecordWhy → Type 0
FlawBy true column cell flaw = UsedFlaw column cell flaw
FlawBy false column cell flaw = flaw ≡ (if is_empty cell then None else Some reason.Extra)

-- the error, if there is one, of a cell of a record: one that the action doesn't use has to be empty
abbrev pub CellFlaw : Action → Column → List ℕ → Option RecordWhy → Type 0
CellFlaw action column cell flaw = FlawBy (uses action column) column cell flaw
