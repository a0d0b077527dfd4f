use Rattle.std.proofs.Common.{◌≡◌, ◌++◌, map}
use Rattle.std.specs.Option.{option_copied}
use Rattle.share_history.specs.Histories.{all_edits}
use Rattle.share_history.specs.Keyed.{pairs_at}
use Rattle.share_history.specs.Rows.{row_at, rows}
use Rattle.reference_share.specs.RowSeen.{row_of}
use Rattle.reference_share.proofs.selection.found_rows.Given as goal

abbrev pub invariant-loop-key : goal.invariant-loop-key
invariant-loop-key l =
    map row_of l.rows.items ++ pairs_at (row_at (all_edits l.history) l.target (option_copied l.query)) l.key-iterator
    ≡ rows (all_edits l.history) l.target (option_copied l.query)
