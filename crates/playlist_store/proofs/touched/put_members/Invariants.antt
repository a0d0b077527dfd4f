use Rattle.std.proofs.Common.{◌≡◌, ◌||◌, ℕ, drop}
use Rattle.std.specs.List.{list_any}
use Rattle.playlist_store.specs.Reads.{is_key, is_member}
use Rattle.playlist_store.proofs.touched.put_members.Given as goal

abbrev pub invariant-loop-member : goal.invariant-loop-member
invariant-loop-member l =
    (q : ℕ) → (is_key q l.keys.keys || list_any (is_member l.list q) (drop l.member-index l.members)) ≡ (is_key q l.fn.keys.keys || list_any (is_member l.list q) l.members)
