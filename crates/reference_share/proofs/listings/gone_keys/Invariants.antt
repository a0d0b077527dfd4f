use Rattle.std.proofs.Common.{◌≡◌, ◌++◌, map, filter, drop, is_none}
use Rattle.std.specs.Option.{option_copied}
use Rattle.std.specs.Map.{keys_of}
use Rattle.share_history.specs.Histories.{all_edits}
use Rattle.share_history.specs.Rows.{row_at}
use Rattle.reference_share.specs.RowSeen.{row_of}
use Rattle.reference_share.proofs.listings.gone_keys.Given as goal

abbrev pub invariant-loop-old : goal.invariant-loop-old
invariant-loop-old l =
    l.gone.items ++ filter (λ key. is_none (row_at (all_edits l.history) l.target (option_copied l.query) key)) (keys_of (map row_of (drop l.old-index l.earlier)))
    ≡ filter (λ key. is_none (row_at (all_edits l.history) l.target (option_copied l.query) key)) (keys_of (map row_of l.earlier))
