-- The response to a `Look`: 404 if the target does not exist, otherwise its listing.
use Rattle.std.specs.Prelude.{ℕ, List, if◌then◌else◌}
use Rattle.item_model.specs.declared.changes.Entry.{Entry}
use Rattle.item_model.specs.declared.request.Look.{Look}
use Rattle.item_model.specs.declared.request.Target.{Target}
use Rattle.share_history.specs.Bodies.{listing_body}
use Rattle.share_history.specs.Histories.{all_edits}
use Rattle.share_history.specs.Rows.{is_there}
use Rattle.share_replies.specs.Replies.{Body, Nothing, Tagged}

abbrev pub rows_content : ℕ → List Entry → Target → Look → ℕ × Body
rows_content keep h target look = if is_there (all_edits h) target then (200, Tagged (listing_body keep h target look)) else (404, Nothing)
