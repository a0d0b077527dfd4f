use Rattle.std.proofs.Common.{◌≡◌, ◌<◌, ◌+◌, ◌^◌, length, filter, is_some}
use Rattle.playlist_store.proofs.listed.count.Given as goal

abbrev pub invariant-loop-id : goal.invariant-loop-id
invariant-loop-id l =
    length (filter (λ e. is_some e.1.now.head) l.lists.entries) < 2 ^ 32
    → l.count + length (filter (λ e. is_some e.1.now.head) l.id-iterator) ≡ length (filter (λ e. is_some e.1.now.head) l.lists.entries)
