use Rattle.std.proofs.Common.{◌≡◌, ◌||◌, ◌&&◌, ◌==◌, ℕ}
use Rattle.std.specs.List.{list_any}
use Rattle.key_versions.specs.Found.{newest_value}
use Rattle.key_versions.specs.Held.{versions_at}
use Rattle.playlist_store.specs.Reads.{is_key, has_item, pairs_of}
use Rattle.playlist_store.proofs.touched.put_item.Given as goal

abbrev pub invariant-loop-pair : goal.invariant-loop-pair
invariant-loop-pair l =
    (q : ℕ) → (is_key q l.keys.keys || list_any (λ pair. has_item (newest_value (versions_at pair.1 l.kept.members)) l.item && (pair.1 == q)) l.pair-iterator)
    ≡ (is_key q l.fn.keys.keys || list_any (λ pair. has_item (newest_value (versions_at pair.1 l.kept.members)) l.item && (pair.1 == q)) (pairs_of l.item l.kept.near.keys))
