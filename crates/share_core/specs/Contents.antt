-- When a status, a form and a plan of the program are the response that a share makes. The form decides the head, the
-- plan writes the body. A tag may be planned as a tag or as the rows of a listing.
use Rattle.std.specs.Prelude.{◌≡◌, ℕ, List, Option, Some, None}
use Rattle.dmap_tags.specs.Tree.{Tree}
use Rattle.share_history.specs.Bodies.{body_tree}
use Rattle.listing_plan.specs.declared.plan.Plan.{Plan}
use Rattle.listing_plan.specs.declared.plan.Plan.TheVariants as plan
use Rattle.listing_plan.specs.Plans.{IsWritable}
use Rattle.share_asks.specs.declared.form.BodyForm.{BodyForm}
use Rattle.share_asks.specs.declared.form.BodyForm.TheVariants as form
use Rattle.share_replies.specs.Replies.{Body, Nothing, Allowed, Line, Tagged}
use Rattle.share_core.specs.declared.answer.ReplyContent.{ReplyContent}

-- The tag that a plan writes.
abbrev pub tree_of : Plan → Option Tree
tree_of plan.Empty = None
tree_of (plan.Plain bytes) = None
tree_of (plan.Tagged tag) = Some tag
tree_of (plan.Rows rows) = Some (body_tree rows.target rows.listing)

abbrev pub IsBody : Body → BodyForm → Plan → Type 0
IsBody Nothing told written = (told ≡ form.NoBody) × (written ≡ plan.Empty)
IsBody (Allowed verb) told written = (told ≡ form.Allow verb) × (written ≡ plan.Empty)
IsBody (Line text) told written = (told ≡ form.Plain) × (written ≡ plan.Plain text)
IsBody (Tagged tag) told written = (told ≡ form.Dmap) × ((tree_of written ≡ Some tag) × IsWritable written)

-- The status is `told.0`, and form and plan are the body `told.1`.
abbrev pub IsContent : ℕ × Body → ReplyContent → Type 0
IsContent told content = (content.status ≡ told.0) × IsBody told.1 content.form content.plan
