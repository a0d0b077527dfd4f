use Rattle.std.proofs.Common.{◌≡◌, ◌++◌, filter, is_some}
use Rattle.std.specs.Map.{keys_of}
use Rattle.playlist_store.proofs.listed.ids.Given as goal

abbrev pub invariant-loop-id : goal.invariant-loop-id
invariant-loop-id l = l.ids.items ++ keys_of (filter (λ e. is_some e.1.now.head) l.id-iterator) ≡ keys_of (filter (λ e. is_some e.1.now.head) l.lists.entries)
