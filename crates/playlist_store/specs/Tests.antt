-- How often a batch evaluates rules: for each smart playlist, once for each edit that puts or drops an item; or, if
-- the batch puts the list itself, once for each item of the library.
use Rattle.std.specs.Prelude.{ℕ, List, length, if◌then◌else◌}
use Rattle.std.specs.List.{list_any, sum_by}
use Rattle.item_model.specs.declared.changes.Edit.{Edit}
use Rattle.item_store.specs.Stands.{named_items}
use Rattle.share_history.specs.LastSaid.{Playlist, Plain, Ruled}
use Rattle.share_history.specs.Named.{names_list}
use Rattle.share_history.specs.Rows.{library, lists}

-- for one list; `es` are all edits, at the end those of the batch
abbrev pub tests_for : (es batch : List Edit) → ℕ → Playlist → ℕ
tests_for es batch c (Plain name) = 0
tests_for es batch c (Ruled name rule) = if list_any (names_list c) batch then length (library es) else length (named_items batch)

abbrev pub tests_of : (es batch : List Edit) → ℕ
tests_of es batch = sum_by (λ list. tests_for es batch list.0 list.1) (lists es)
