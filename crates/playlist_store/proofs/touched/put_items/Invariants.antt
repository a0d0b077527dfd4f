use Rattle.std.proofs.Common.{◌≡◌, ◌||◌, ℕ, drop}
use Rattle.std.specs.List.{list_any}
use Rattle.playlist_store.specs.Reads.{is_key, is_item_of}
use Rattle.playlist_store.proofs.touched.put_items.Given as goal

abbrev pub invariant-loop-item : goal.invariant-loop-item
invariant-loop-item l =
    (q : ℕ) → (is_key q l.keys.keys || list_any (is_item_of l.kept q) (drop l.item-index l.items)) ≡ (is_key q l.fn.keys.keys || list_any (is_item_of l.kept q) l.items)
