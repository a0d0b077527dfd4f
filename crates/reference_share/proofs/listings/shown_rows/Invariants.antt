use Rattle.std.proofs.Common.{◌≡◌, ◌++◌, map, drop}
use Rattle.share_history.specs.Listings.{shown_rows}
use Rattle.reference_share.specs.RowSeen.{row_of}
use Rattle.reference_share.proofs.listings.shown_rows.Given as goal

abbrev pub invariant-loop-row : goal.invariant-loop-row
invariant-loop-row l =
    l.tags.items ++ shown_rows l.target l.meta (map row_of (drop l.row-index l.rows)) ≡ shown_rows l.target l.meta (map row_of l.rows)
