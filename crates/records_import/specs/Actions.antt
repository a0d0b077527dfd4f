-- The action of a record: an operation on a kind of thing. Each uses some of the further cells, and needs some of the
-- columns.
use Rattle.std.specs.Prelude.{ℕ, List, [], ◌∷◌, codes, Bool, true, false, not, ◌||◌, Option, Some, None, if◌then◌else◌}
use Rattle.std.specs.List.{list_any}
use Rattle.std.specs.Str.{bytes_eq}
use Rattle.item_model.specs.declared.property.Property.TheVariants.{Minm}
use Rattle.records_import.specs.declared.action.Action.{Action}
use Rattle.records_import.specs.declared.action.Action.TheVariants.{PutItem, DropItem, PutList, PutRule, DropList, PutMember, DropMember}
use Rattle.records_import.specs.declared.header.Column.{Column}
use Rattle.records_import.specs.declared.header.Column.TheVariants as holds
use Rattle.records_import.specs.Columns.{has_column, is_same_column}

abbrev pub put_of_kind : List ℕ → Option Action
put_of_kind kind =
    if bytes_eq kind (codes "item") then Some PutItem
    else if bytes_eq kind (codes "list") then Some PutList
    else if bytes_eq kind (codes "rule") then Some PutRule
    else if bytes_eq kind (codes "member") then Some PutMember
    else None

abbrev pub drop_of_kind : List ℕ → Option Action
drop_of_kind kind =
    if bytes_eq kind (codes "item") then Some DropItem
    else if bytes_eq kind (codes "list") then Some DropList
    else if bytes_eq kind (codes "member") then Some DropMember
    else None

-- the least id that may be put or dropped: list 1 always exists, and no record names it
abbrev pub least_id : Action → ℕ
least_id PutItem = 1
least_id DropItem = 1
least_id PutList = 2
least_id PutRule = 2
least_id DropList = 2
least_id PutMember = 1
least_id DropMember = 1

abbrev pub is_property : Column → Bool
is_property (holds.Property p) = true
is_property _ = false

abbrev pub is_name : Column → Bool
is_name column = is_same_column column (holds.Property Minm)

abbrev pub is_rule : Column → Bool
is_rule column = is_same_column column holds.Query

abbrev pub is_list : Column → Bool
is_list column = is_same_column column holds.List

abbrev pub is_item : Column → Bool
is_item column = is_same_column column holds.Item

-- whether the action uses the cells of a column
abbrev pub uses : Action → Column → Bool
uses PutItem column = is_property column
uses DropItem column = false
uses PutList column = is_name column
uses PutRule column = is_name column || is_rule column
uses DropList column = false
uses PutMember column = is_list column || is_item column
uses DropMember column = is_list column

-- the columns that the action needs
abbrev pub needs : Action → List Column
needs PutRule = holds.Query ∷ []
needs PutMember = holds.List ∷ holds.Item ∷ []
needs DropMember = holds.List ∷ []
needs _ = []

abbrev pub lacks : Action → List Column → Bool
lacks action columns = list_any (λ column. not (has_column column columns)) (needs action)
