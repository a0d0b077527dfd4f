use Rattle.std.proofs.Common.{◌≡◌, ◌||◌, ℕ, drop}
use Rattle.std.specs.List.{list_any}
use Rattle.playlist_store.specs.Reads.{is_key, is_touched_by}
use Rattle.playlist_store.proofs.touched.touched.Given as goal

abbrev pub invariant-loop-index : goal.invariant-loop-index
invariant-loop-index l =
    (q : ℕ) → (is_key q l.keys.keys || list_any (is_touched_by l.kept l.list q) (drop l.index l.named.items)) ≡ list_any (is_touched_by l.kept l.list q) (drop l.passed l.named.items)
