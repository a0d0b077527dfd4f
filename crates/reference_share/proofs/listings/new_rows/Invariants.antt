use Rattle.std.proofs.Common.{◌≡◌, ◌≤◌, length, ◌++◌, map, filter, not, drop}
use Rattle.std.specs.Option.{option_copied}
use Rattle.share_history.specs.Histories.{all_edits}
use Rattle.share_history.specs.Rows.{rows}
use Rattle.share_history.specs.Differences.{has_tag}
use Rattle.share_history.specs.Listings.{shown, shown_rows}
use Rattle.reference_share.specs.RowSeen.{row_of}
use Rattle.reference_share.proofs.listings.new_rows.Given as goal

abbrev pub invariant-loop-row : goal.invariant-loop-row
invariant-loop-row l = record {
  rows : map row_of l.found.items ++ filter (λ row. not (has_tag (shown_rows l.target l.meta (rows (all_edits l.earlier) l.target (option_copied l.query))) (shown l.target l.meta row))) (map row_of (drop l.row-index l.current))
      ≡ filter (λ row. not (has_tag (shown_rows l.target l.meta (rows (all_edits l.earlier) l.target (option_copied l.query))) (shown l.target l.meta row))) (map row_of l.current);
  few : length l.found.items ≤ l.row-index;
}
