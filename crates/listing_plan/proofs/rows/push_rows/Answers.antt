use Rattle.std.proofs.Common.{◌∙◌}
use Rattle.std.proofs.lemmas.List.{at_drop_all}
use Rattle.dmap_tags.specs.Spelling.{spellings}
use Rattle.dmap_tags.specs.Tree.{trees_of}
use Rattle.listing_plan.specs.Held.{row_tree, row_trees}
use Rattle.listing_plan.proofs.Bodies.{trees_at}
use Rattle.listing_plan.proofs.Moves.{less_left, cut_left, none_left}
use Rattle.listing_plan.proofs.rows.push_rows.Goals as goal

pub returns-in_err-push_row : goal.returns-in_err-push_row
returns-in_err-push_row g c =
    let at = trees_at (row_tree c.args.properties.now) c.args.rows.now c.loop-row.row-index c.row-item.result c.loop-row-test.true in
    record {
      pushes = cut_left _ _ _ _ _ _ _ _ _ _ _ _ _ _ _ c.from_residual.ensures.0 (rw (at, ← c.row-item.is) at c.loop-row.invariant.left) c.in_err-push_row.ensures.pushes;
      beside = c.in_err-push_row.ensures.beside ∙ c.loop-row.invariant.beside;
    }

pub loop-row-preserved : goal.loop-row-preserved
loop-row-preserved g c =
    let at = trees_at (row_tree c.args.properties.now) c.args.rows.now c.loop-row.row-index c.row-item.result c.loop-row-test.true in
    record {
      left = less_left _ _ _ _ _ _ _ _ _ _ _ _ (rw (at, ← c.row-item.is) at c.loop-row.invariant.left) c.in_ok-push_row.ensures.pushes;
      beside = c.in_ok-push_row.ensures.beside ∙ c.loop-row.invariant.beside;
    }

pub returns : goal.returns
returns g c =
    let none = at_drop_all (λ rows. spellings (trees_of (row_trees c.args.properties.now rows))) c.args.rows.now c.loop-row.row-index c.loop-row-test.false in
    record { pushes = none_left _ _ _ _ _ _ _ (rw none at c.loop-row.invariant.left); beside = c.loop-row.invariant.beside }
