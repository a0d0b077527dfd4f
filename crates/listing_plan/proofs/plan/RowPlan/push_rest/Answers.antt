use Rattle.std.proofs.Common.{◌∙◌, ap, sym}
use Rattle.dmap_tags.specs.Spelling.{spellings}
use Rattle.dmap_tags.specs.Tree.{trees_of}
use Rattle.share_history.specs.Bodies.{gone_tags}
use Rattle.listing_plan.specs.Held.{rest_of, is_delta_of, gone_of, listed_rows}
use Rattle.listing_plan.proofs.Bodies.{rest_is}
use Rattle.listing_plan.proofs.Moves.{pushes_then, pushes_cut}
use Rattle.listing_plan.proofs.plan.RowPlan.push_rest.Goals as goal

pub returns-in_err-push-clause-pushes : goal.returns-in_err-push-clause-pushes
returns-in_err-push-clause-pushes g c =
    let a = c.self.inside in
    let whole = ap rest_of (sym c.self.view_is) ∙ rest_is a.target a.revision a.scope (listed_rows a.target a.rows) a.shown in
    let gone = spellings (trees_of (gone_tags a.target (is_delta_of a.scope) (gone_of a.scope))) in
    rw whole (pushes_cut _ gone _ _ _ _ _ _ _ _ _ c.from_residual.ensures.0 c.in_err-push.ensures.pushes)

pub returns-clause-pushes : goal.returns-clause-pushes
returns-clause-pushes g c =
    let a = c.self.inside in
    let whole = ap rest_of (sym c.self.view_is) ∙ rest_is a.target a.revision a.scope (listed_rows a.target a.rows) a.shown in
    rw whole (pushes_then _ _ _ _ _ _ _ _ _ _ _ _ c.in_ok-push.ensures.pushes c.push_gone.ensures.pushes)
