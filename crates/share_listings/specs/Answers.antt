-- What listings need of the stores and of candidates, and what a listing costs.
use Rattle.std.specs.Prelude.{◌≡◌, ◌≤◌, ◌*◌, ◌==◌, ℕ, Bool, true, List, length, false, Option, Some, None, if◌then◌else◌}
use Rattle.std.specs.BTreeMap.{is_at}
use Rattle.std.specs.List.{list_any}
use Rattle.std.specs.Ordering.{nat_cmp}
use Rattle.item_model.specs.declared.changes.Edit.{Edit}
use Rattle.item_model.specs.declared.query.Query.{Query}
use Rattle.item_model.specs.declared.request.Target.{Target}
use Rattle.item_model.specs.declared.request.Target.TheVariants.{Items, Container}
use Rattle.share_history.specs.Histories.{edits}
use Rattle.share_history.specs.Keyed.{AreAscending}
use Rattle.share_history.specs.Kept.{is_kept, touched}
use Rattle.share_history.specs.Numbers.{base_list}
use Rattle.share_history.specs.Rows.{row_at, rows}
use Rattle.item_store.specs.Stands as items_stand
use Rattle.item_store.specs.Store as items_kept
use Rattle.playlist_store.specs.Stands as lists_stand
use Rattle.playlist_store.specs.Store as lists_kept
use Rattle.listing_plan.specs.Limits.{rows_limit}

-- the store represents batches with at most `most` edits
pub record HasEdits (most : ℕ) (store : items_kept.Store) : Type 0 where
  pub bs : List (List Edit)
  pub stands : items_stand.StandsFor bs store
  pub few : length (edits bs) ≤ most

-- with no more edits than a listing may have rows
abbrev pub HasFew : items_kept.Store → Type 0
HasFew store = HasEdits rows_limit store

-- both stores represent the same batches, with at most `most` edits, and keep as many revisions
pub record HaveEdits (most : ℕ) (items : items_kept.Store) (lists : lists_kept.Store) : Type 0 where
  pub bs : List (List Edit)
  pub of_items : items_stand.StandsFor bs items
  pub of_lists : lists_stand.StandsFor bs lists
  pub few : length (edits bs) ≤ most
  pub keep : lists.keep ≡ items.keep

abbrev pub HaveFew : items_kept.Store → lists_kept.Store → Type 0
HaveFew items lists = HaveEdits rows_limit items lists

-- whether a target's rows are all items of the library: container 1 has them too
abbrev pub is_library : Target → Bool
is_library Items = true
is_library (Container c) = c == base_list

-- a full listing of items may start from these ids: they ascend, and no other id has a row that the query selects
pub record AreCandidates (es : List Edit) (query : Option Query) (ids : List ℕ) : Type 0 where
  pub ascending : AreAscending ids
  pub others : (id : ℕ) → list_any (is_at (nat_cmp id)) ids ≡ false → row_at es Items query id ≡ None

abbrev pub StartFrom : List Edit → Option Query → Option (List ℕ) → Type 0
StartFrom es query None = Unit {0}
StartFrom es query (Some ids) = AreCandidates es query ids

-- how many items a full listing evaluates: the candidates, if there are some of all items, or else all of the target
abbrev pub looked_at : List Edit → Target → Option (List ℕ) → ℕ
looked_at es target None = length (rows es target None)
looked_at es target (Some ids) = if is_library target then length ids else length (rows es target None)

-- the most steps of an answer: four for each touched key since a kept base, or else one for each item that is evaluated
abbrev pub most_ticks : ℕ → List (List Edit) → Target → ℕ → Option (List ℕ) → ℕ
most_ticks keep bs target base candidates =
    if is_kept keep bs target base then 4 * length (touched bs target base) else looked_at (edits bs) target candidates
