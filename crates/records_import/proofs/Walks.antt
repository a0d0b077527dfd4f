-- The values of cells that were applied one after another.
use Rattle.std.proofs.Common.{nat_lt, ◌==◌, ◌≡◌, ◌≤◌, ◌<◌, ◌+◌, ◌∷◌, ◌∙◌, [], ℕ, suc, List, Option, Some, None, Bool, true, false, ◌||◌, inl, inr, Result, Ok, Err, refl, sym, ap, subst, length, get_or, drop, arith}
use Rattle.std.proofs.lemmas.Bool.{cases_Bool}
use Rattle.std.proofs.lemmas.List.{drop_all, drop_more}
use Rattle.std.specs.Str.Parse.{digits_value}
use Rattle.item_model.specs.declared.changes.Edit.{Edit}
use Rattle.item_model.specs.declared.changes.Edit.TheVariants as an_edit
use Rattle.item_model.specs.declared.query.Query.{Query}
use Rattle.item_model.specs.declared.refusal.RecordWhy.{RecordWhy}
use Rattle.item_model.specs.declared.refusal.RecordWhy.TheVariants.{Missing}
use Rattle.records_import.specs.Actions.{least_id, uses}
use Rattle.records_import.specs.Columns.{has_column, is_same_column}
use Rattle.records_import.specs.Limits.{cell_digits}
use Rattle.records_import.specs.Number.{is_number, cell_number}
use Rattle.records_import.specs.Records.{AreSound, FurtherAnswer, IsLeftmost, RecordAnswers, action_of, cell_under, name_in, number_under, properties_of, with_cell, with_cells}
use Rattle.records_import.specs.Rules.{RuleReads}
use Rattle.records_import.specs.Table.{Cells}
use Rattle.records_import.specs.Values.{CellFlaw, FlawBy, id_in}
use Rattle.records_import.specs.Walk.{Added, AddedBy, Walked, edit_from, member_edit, no_values}
use Rattle.records_import.specs.declared.action.Action.{Action}
use Rattle.records_import.specs.declared.action.Action.TheVariants.{PutItem, DropItem, PutList, PutRule, DropList, PutMember, DropMember}
use Rattle.records_import.specs.Limits.{most_records}
use Rattle.records_import.specs.declared.header.Column.{Column}
use Rattle.records_import.specs.declared.header.Column.TheVariants as holds
use Rattle.records_import.specs.declared.refusal.RecordError.{RecordError}
use Rattle.records_import.specs.declared.refusal.RecordError.TheVariants.{Field}
use Rattle.records_import.specs.declared.values.Values.{Values}

-- one more cell
pub walked_more : (action : Action) (columns : List Column) (cells : Cells) (i : ℕ) (c : Column) (before next after : Values)
    → i < length columns → length cells ≡ length columns + 3
    → CellFlaw action (get_or columns i c) (get_or cells (i + 3) []) None → AddedBy (uses action (get_or columns i c)) (get_or columns i c) (get_or cells (i + 3) []) before next
    → Walked action (drop (i + 1) columns) (drop (i + 1 + 3) cells) next after → Walked action (drop i columns) (drop (i + 3) cells) before after
walked_more action columns cells i c before next after inside same flaw added rest =
    let inside_too : i + 3 < length cells = omega arith in
    let later : i + 1 + 3 ≡ i + 3 + 1 = omega arith in
    let moved = rw later at rest in
    rw (drop_more columns i c inside, drop_more cells (i + 3) [] inside_too) (next, flaw, added, moved)

pub leftmost_more : (action : Action) (row : ℕ) (columns : List Column) (cells : Cells) (i : ℕ) (c : Column) (fault : RecordError)
    → i < length columns → length cells ≡ length columns + 3
    → CellFlaw action (get_or columns i c) (get_or cells (i + 3) []) None
    → IsLeftmost action row (i + 1 + 4) (drop (i + 1) columns) (drop (i + 1 + 3) cells) fault → IsLeftmost action row (i + 4) (drop i columns) (drop (i + 3) cells) fault
leftmost_more action row columns cells i c fault inside same flaw rest =
    let inside_too : i + 3 < length cells = omega arith in
    let later : i + 1 + 3 ≡ i + 3 + 1 = omega arith in
    let next : i + 1 + 4 ≡ suc (i + 4) = omega arith in
    let moved = rw (later, next) at rest in
    rw (drop_more columns i c inside, drop_more cells (i + 3) [] inside_too) (inr (flaw, moved))

pub leftmost_here : (action : Action) (row : ℕ) (columns : List Column) (cells : Cells) (i : ℕ) (c : Column) (why : RecordWhy)
    → i < length columns → length cells ≡ length columns + 3
    → CellFlaw action (get_or columns i c) (get_or cells (i + 3) []) (Some why)
    → IsLeftmost action row (i + 4) (drop i columns) (drop (i + 3) cells) (Field row (i + 4) why)
leftmost_here action row columns cells i c why inside same flaw =
    let inside_too : i + 3 < length cells = omega arith in
    rw (drop_more columns i c inside, drop_more cells (i + 3) [] inside_too) (inl (why, flaw, refl))

-- no cell was malformed
walked_sound : (action : Action) (columns : List Column) (cells : Cells) (before after : Values) → Walked action columns cells before after → AreSound action columns cells
walked_sound action [] cells before after w = tt
walked_sound action (c ∷ columns) [] before after w = absurd w
walked_sound action (c ∷ columns) (cell ∷ cells) before after w = (w.1, walked_sound action columns cells w.0 after w.3)

-- the properties are those of all cells: one that isn't used is empty
with_empty : (c : Column) (item : List (Rattle.item_model.specs.declared.property.Property.Property × Rattle.item_model.specs.declared.item.PropValue.PropValue)) → with_cell c [] item ≡ item
with_empty (holds.Property p) item = refl
with_empty holds.Query item = refl
with_empty holds.List item = refl
with_empty holds.Item item = refl

item_kept : (b : Bool) (c : Column) (cell : List ℕ) (before next : Values) → FlawBy b c cell None → AddedBy b c cell before next → next.item ≡ with_cell c cell before.item
item_kept true (holds.Property p) cell before next flaw added = ap (λ v. v.item) added
item_kept true holds.Query cell before next flaw added = ap (λ v. v.item) added.2
item_kept true holds.List cell before next flaw added = ap (λ v. v.item) added.2
item_kept true holds.Item cell before next flaw added = ap (λ v. v.item) added.2
item_kept false c [] before next flaw added = ap (λ v. v.item) added ∙ sym (with_empty c before.item)
item_kept false c (b ∷ bytes) before next flaw added = absurd (cc flaw)

walked_item : (action : Action) (columns : List Column) (cells : Cells) (before after : Values) → Walked action columns cells before after
    → after.item ≡ with_cells before.item columns cells
walked_item action [] cells before after w = ap (λ v. v.item) w
walked_item action (c ∷ columns) [] before after w = absurd w
walked_item action (c ∷ columns) (cell ∷ cells) before after w =
    walked_item action columns cells w.0 after w.3
    ∙ ap (λ item. with_cells item columns cells) (item_kept (uses action c) c cell before w.0 w.1 w.2)

-- the number in a cell
pub number_value : (cell : List ℕ) (n : ℕ) → cell_number cell ≡ Some n → n ≡ digits_value 10 cell
number_value cell n h = elim (cases_Bool (is_number cell_digits cell)) [
  | inl digits ↦
      let e : Some (digits_value 10 cell) ≡ Some n = rw digits at h in
      cc e
  | inr other ↦ absurd (cc (rw other at h))
]

-- a list's id, if there is a column of it and the action uses it
abbrev ListFound : Bool → List Column → Cells → Values → Values → Type 0
ListFound true columns cells before after = after.list ≡ Some (number_under holds.List columns cells)
ListFound false columns cells before after = after.list ≡ before.list

list_kept : (b : Bool) (c : Column) (cell : List ℕ) (before next : Values) → is_same_column holds.List c ≡ false → AddedBy b c cell before next → next.list ≡ before.list
list_kept true (holds.Property p) cell before next other added = ap (λ v. v.list) added
list_kept true holds.Query cell before next other added = ap (λ v. v.list) added.2
list_kept true holds.List cell before next other added = absurd (cc other)
list_kept true holds.Item cell before next other added = ap (λ v. v.list) added.2
list_kept false c cell before next other added = ap (λ v. v.list) added

list_step : (has same : Bool) (c : Column) (columns : List Column) (cell : List ℕ) (cells : Cells) (before next after : Values) (b : Bool)
    → has_column holds.List columns ≡ has → is_same_column holds.List c ≡ same → (same ≡ true → b ≡ true) → AddedBy b c cell before next
    → ListFound has columns cells next after → ListFound (same || has) (c ∷ columns) (cell ∷ cells) before after
list_step true true c columns cell cells before next after b has same used added found = rw has found
list_step true false c columns cell cells before next after b has same used added found = rw has found
list_step false false c columns cell cells before next after b has same used added found = found ∙ list_kept b c cell before next same added
list_step false true (holds.Property p) columns cell cells before next after b has same used added found = absurd (cc same)
list_step false true holds.Query columns cell cells before next after b has same used added found = absurd (cc same)
list_step false true holds.Item columns cell cells before next after b has same used added found = absurd (cc same)
list_step false true holds.List columns cell cells before next after b has same used added found =
    let told : Added holds.List cell before next = subst (λ used. AddedBy used holds.List cell before next) (used refl) added in
    rw has (found ∙ ap (λ v. v.list) told.2 ∙ ap Some (number_value cell told.0 told.1))

pub list_used : (action : Action) (c : Column) → uses action holds.List ≡ true → is_same_column holds.List c ≡ true → uses action c ≡ true
list_used action (holds.Property p) used same = absurd (cc same)
list_used action holds.Query used same = absurd (cc same)
list_used action holds.List used same = used
list_used action holds.Item used same = absurd (cc same)

walked_list : (action : Action) (columns : List Column) (cells : Cells) (before after : Values) → uses action holds.List ≡ true
    → Walked action columns cells before after → ListFound (has_column holds.List columns) columns cells before after
walked_list action [] cells before after used w = ap (λ v. v.list) w
walked_list action (c ∷ columns) [] before after used w = absurd w
walked_list action (c ∷ columns) (cell ∷ cells) before after used w =
    list_step (has_column holds.List columns) (is_same_column holds.List c) c columns cell cells before w.0 after (uses action c) refl refl
    (list_used action c used) w.2 (walked_list action columns cells w.0 after used w.3)

-- the same for a member's item
abbrev ItemFound : Bool → List Column → Cells → Values → Values → Type 0
ItemFound true columns cells before after = after.entry ≡ Some (number_under holds.Item columns cells)
ItemFound false columns cells before after = after.entry ≡ before.entry

entry_kept : (b : Bool) (c : Column) (cell : List ℕ) (before next : Values) → is_same_column holds.Item c ≡ false → AddedBy b c cell before next → next.entry ≡ before.entry
entry_kept true (holds.Property p) cell before next other added = ap (λ v. v.entry) added
entry_kept true holds.Query cell before next other added = ap (λ v. v.entry) added.2
entry_kept true holds.Item cell before next other added = absurd (cc other)
entry_kept true holds.List cell before next other added = ap (λ v. v.entry) added.2
entry_kept false c cell before next other added = ap (λ v. v.entry) added

entry_step : (has same : Bool) (c : Column) (columns : List Column) (cell : List ℕ) (cells : Cells) (before next after : Values) (b : Bool)
    → has_column holds.Item columns ≡ has → is_same_column holds.Item c ≡ same → (same ≡ true → b ≡ true) → AddedBy b c cell before next
    → ItemFound has columns cells next after → ItemFound (same || has) (c ∷ columns) (cell ∷ cells) before after
entry_step true true c columns cell cells before next after b has same used added found = rw has found
entry_step true false c columns cell cells before next after b has same used added found = rw has found
entry_step false false c columns cell cells before next after b has same used added found = found ∙ entry_kept b c cell before next same added
entry_step false true (holds.Property p) columns cell cells before next after b has same used added found = absurd (cc same)
entry_step false true holds.Query columns cell cells before next after b has same used added found = absurd (cc same)
entry_step false true holds.List columns cell cells before next after b has same used added found = absurd (cc same)
entry_step false true holds.Item columns cell cells before next after b has same used added found =
    let told : Added holds.Item cell before next = subst (λ used. AddedBy used holds.Item cell before next) (used refl) added in
    rw has (found ∙ ap (λ v. v.entry) told.2 ∙ ap Some (number_value cell told.0 told.1))

pub entry_used : (action : Action) (c : Column) → uses action holds.Item ≡ true → is_same_column holds.Item c ≡ true → uses action c ≡ true
entry_used action (holds.Property p) used same = absurd (cc same)
entry_used action holds.Query used same = absurd (cc same)
entry_used action holds.Item used same = used
entry_used action holds.List used same = absurd (cc same)

walked_entry : (action : Action) (columns : List Column) (cells : Cells) (before after : Values) → uses action holds.Item ≡ true
    → Walked action columns cells before after → ItemFound (has_column holds.Item columns) columns cells before after
walked_entry action [] cells before after used w = ap (λ v. v.entry) w
walked_entry action (c ∷ columns) [] before after used w = absurd w
walked_entry action (c ∷ columns) (cell ∷ cells) before after used w =
    entry_step (has_column holds.Item columns) (is_same_column holds.Item c) c columns cell cells before w.0 after (uses action c) refl refl
    (entry_used action c used) w.2 (walked_entry action columns cells w.0 after used w.3)

-- the cell in a column that comes later, and the cell of a query that occurs only here
cell_later : (column c : Column) (columns : List Column) (cell : List ℕ) (cells : Cells) → has_column column columns ≡ true
    → cell_under column (c ∷ columns) (cell ∷ cells) ≡ cell_under column columns cells
cell_later column c columns cell cells has = rw has refl

cell_here : (columns : List Column) (cell : List ℕ) (cells : Cells) → has_column holds.Query columns ≡ false → cell_under holds.Query (holds.Query ∷ columns) (cell ∷ cells) ≡ cell
cell_here columns cell cells has = rw has refl

-- the same for a rule
abbrev RuleFound : Bool → List Column → Cells → Values → Values → Type 0
RuleFound true columns cells before after = (rule : Query) × (after.rule ≡ Some rule) × RuleReads (cell_under holds.Query columns cells) (Ok rule)
RuleFound false columns cells before after = after.rule ≡ before.rule

rule_kept : (b : Bool) (c : Column) (cell : List ℕ) (before next : Values) → is_same_column holds.Query c ≡ false → AddedBy b c cell before next → next.rule ≡ before.rule
rule_kept true (holds.Property p) cell before next other added = ap (λ v. v.rule) added
rule_kept true holds.Query cell before next other added = absurd (cc other)
rule_kept true holds.List cell before next other added = ap (λ v. v.rule) added.2
rule_kept true holds.Item cell before next other added = ap (λ v. v.rule) added.2
rule_kept false c cell before next other added = ap (λ v. v.rule) added

rule_step : (has same : Bool) (c : Column) (columns : List Column) (cell : List ℕ) (cells : Cells) (before next after : Values) (b : Bool)
    → has_column holds.Query columns ≡ has → is_same_column holds.Query c ≡ same → (same ≡ true → b ≡ true) → AddedBy b c cell before next
    → RuleFound has columns cells next after → RuleFound (same || has) (c ∷ columns) (cell ∷ cells) before after
rule_step true true c columns cell cells before next after b has same used added found =
    (found.0, found.1, subst (λ text. RuleReads text (Ok found.0)) (sym (cell_later holds.Query c columns cell cells has)) found.2)
rule_step true false c columns cell cells before next after b has same used added found =
    (found.0, found.1, subst (λ text. RuleReads text (Ok found.0)) (sym (cell_later holds.Query c columns cell cells has)) found.2)
rule_step false false c columns cell cells before next after b has same used added found = found ∙ rule_kept b c cell before next same added
rule_step false true (holds.Property p) columns cell cells before next after b has same used added found = absurd (cc same)
rule_step false true holds.List columns cell cells before next after b has same used added found = absurd (cc same)
rule_step false true holds.Item columns cell cells before next after b has same used added found = absurd (cc same)
rule_step false true holds.Query columns cell cells before next after b has same used added found =
    let told : Added holds.Query cell before next = subst (λ used. AddedBy used holds.Query cell before next) (used refl) added in
    (told.0, found ∙ ap (λ v. v.rule) told.2, subst (λ text. RuleReads text (Ok told.0)) (sym (cell_here columns cell cells has)) told.1)

rule_used : (action : Action) (c : Column) → uses action holds.Query ≡ true → is_same_column holds.Query c ≡ true → uses action c ≡ true
rule_used action (holds.Property p) used same = absurd (cc same)
rule_used action holds.Query used same = used
rule_used action holds.List used same = absurd (cc same)
rule_used action holds.Item used same = absurd (cc same)

walked_rule : (action : Action) (columns : List Column) (cells : Cells) (before after : Values) → uses action holds.Query ≡ true
    → Walked action columns cells before after → RuleFound (has_column holds.Query columns) columns cells before after
walked_rule action [] cells before after used w = ap (λ v. v.rule) w
walked_rule action (c ∷ columns) [] before after used w = absurd w
walked_rule action (c ∷ columns) (cell ∷ cells) before after used w =
    rule_step (has_column holds.Query columns) (is_same_column holds.Query c) c columns cell cells before w.0 after (uses action c) refl refl
    (rule_used action c used) w.2 (walked_rule action columns cells w.0 after used w.3)

-- the edit with the values is the result, and if there is none, a column is missing
abbrev pub EditAnswer : Action → ℕ → ℕ → List Column → Cells → Option Edit → Type 0
EditAnswer action row id columns cells (Some edit) = FurtherAnswer action row id columns cells (Ok edit)
EditAnswer action row id columns cells None = FurtherAnswer action row id columns cells (Err (Field row (length columns + 4) Missing))

rule_answer : (has : Bool) (row id : ℕ) (columns : List Column) (cells : Cells) (after : Values) → has_column holds.Query columns ≡ has
    → AreSound PutRule columns cells → after.item ≡ properties_of columns cells → RuleFound has columns cells no_values after
    → EditAnswer PutRule row id columns cells (edit_from PutRule id after)
rule_answer true row id columns cells after has sound item found =
    rw found.1 (sound, rw has refl, (found.0, found.2, ap (λ properties. an_edit.PutRule id (name_in properties) found.0) item))
rule_answer false row id columns cells after has sound item found = rw found (inr (sound, rw has refl, refl))

drop_answer : (has : Bool) (row id : ℕ) (columns : List Column) (cells : Cells) (after : Values) → has_column holds.List columns ≡ has
    → AreSound DropMember columns cells → ListFound has columns cells no_values after
    → EditAnswer DropMember row id columns cells (edit_from DropMember id after)
drop_answer true row id columns cells after has sound found = rw found (sound, rw has refl, refl)
drop_answer false row id columns cells after has sound found = rw found (inr (sound, rw has refl, refl))

member_answer : (has_list has_item : Bool) (row id : ℕ) (columns : List Column) (cells : Cells) (after : Values)
    → has_column holds.List columns ≡ has_list → has_column holds.Item columns ≡ has_item
    → AreSound PutMember columns cells → ListFound has_list columns cells no_values after → ItemFound has_item columns cells no_values after
    → EditAnswer PutMember row id columns cells (edit_from PutMember id after)
member_answer true true row id columns cells after list item sound found entry =
    rw (found, entry) (sound, rw (list, item) refl, refl)
member_answer true false row id columns cells after list item sound found entry =
    subst (EditAnswer PutMember row id columns cells) (sym (ap (member_edit id after.list) entry ∙ ap (λ o. member_edit id o None) found)) (inr (sound, rw (list, item) refl, refl))
member_answer false has_item row id columns cells after list item sound found entry =
    subst (EditAnswer PutMember row id columns cells) (sym (ap (λ o. member_edit id o after.entry) found)) (inr (sound, rw list refl, refl))

pub walked_edit : (action : Action) (row id : ℕ) (columns : List Column) (cells : Cells) (after : Values) → Walked action columns cells no_values after
    → EditAnswer action row id columns cells (edit_from action id after)
walked_edit PutItem row id columns cells after w =
    (walked_sound PutItem columns cells no_values after w, refl, ap (λ properties. an_edit.PutItem (record { id = id; item = properties })) (walked_item PutItem columns cells no_values after w))
walked_edit DropItem row id columns cells after w = (walked_sound DropItem columns cells no_values after w, refl, refl)
walked_edit PutList row id columns cells after w =
    (walked_sound PutList columns cells no_values after w, refl, ap (λ properties. an_edit.PutList id (name_in properties)) (walked_item PutList columns cells no_values after w))
walked_edit PutRule row id columns cells after w =
    rule_answer (has_column holds.Query columns) row id columns cells after refl (walked_sound PutRule columns cells no_values after w)
    (walked_item PutRule columns cells no_values after w) (walked_rule PutRule columns cells no_values after refl w)
walked_edit DropList row id columns cells after w = (walked_sound DropList columns cells no_values after w, refl, refl)
walked_edit PutMember row id columns cells after w =
    member_answer (has_column holds.List columns) (has_column holds.Item columns) row id columns cells after refl refl
    (walked_sound PutMember columns cells no_values after w) (walked_list PutMember columns cells no_values after refl w) (walked_entry PutMember columns cells no_values after refl w)
walked_edit DropMember row id columns cells after w =
    drop_answer (has_column holds.List columns) row id columns cells after refl (walked_sound DropMember columns cells no_values after w)
    (walked_list DropMember columns cells no_values after refl w)

-- the result of the further cells is that of a record with the action and the id
pub record_answers : (columns : List Column) (row : ℕ) (cells : Cells) (action : Action) (id : ℕ) (answer : Result Edit RecordError)
    → nat_lt row (suc most_records) ≡ true → (length cells == length columns + 3) ≡ true
    → action_of row (get_or cells 0 []) (get_or cells 1 []) ≡ Ok action → id_in (least_id action) (get_or cells 2 []) ≡ Ok id
    → FurtherAnswer action row id columns (drop 3 cells) answer → RecordAnswers columns row cells answer
record_answers columns row cells action id answer few same acts numbered further = rw (few, same, acts, numbered) further

-- after the last column there is nothing to apply
pub walked_all : (action : Action) (columns : List Column) (cells : Cells) (i : ℕ) (values : Values) → length columns ≤ i
    → Walked action (drop i columns) (drop (i + 3) cells) values values
walked_all action columns cells i values past = rw (drop_all i columns past) refl
