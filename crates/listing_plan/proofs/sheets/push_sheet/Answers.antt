use Rattle.std.proofs.Common.{◌∙◌, ◌≤◌, ap, length, refl, arith, rules}
use Rattle.std.proofs.lemmas.List.{at_drop_all}
use Rattle.listing_plan.specs.Held.{sheet_bytes}
use Rattle.listing_plan.proofs.Moves.{all_left, cut_left, less_left, none_left}
use Rattle.listing_plan.proofs.sheets.push_sheet.Goals as goal

pub loop-index-init : goal.loop-index-init
loop-index-init g c = record { left = all_left _ _ _ _; beside = refl }

pub row_at-row-requires : goal.row_at-row-requires
row_at-row-requires g c = record {
  index = omega (arith, c.loop-index-test.true, ap length c.rows-rows.ensures.rows);
  once = c.requires.once;
  runs = rw (c.properties.ensures.properties, ← c.as_slice.ensures) at c.of-runs.ensures;
  others = c.properties.ensures.others;
}

pub push-requires : goal.push-requires
push-requires g c = (search rules, (c.requires.wide, c.row_at-row.ensures.row))

pub returns-in_err-push : goal.returns-in_err-push
returns-in_err-push g c =
    let next = c.row_at-row.ensures.next c.args.target in
    record {
      pushes = cut_left _ _ _ _ _ _ _ _ _ _ _ _ _ _ _ c.from_residual.ensures.0 (rw next at c.loop-index.invariant.left) c.in_err-push.ensures.pushes;
      beside = c.in_err-push.ensures.beside ∙ c.loop-index.invariant.beside;
    }

pub loop-index-preserved : goal.loop-index-preserved
loop-index-preserved g c =
    let next = c.row_at-row.ensures.next c.args.target in
    record {
      left = less_left _ _ _ _ _ _ _ _ _ _ _ _ (rw next at c.loop-index.invariant.left) c.in_ok-push.ensures.pushes;
      beside = c.in_ok-push.ensures.beside ∙ c.loop-index.invariant.beside;
    }

pub returns : goal.returns
returns g c =
    let past : length c.args.sheet.now.rows ≤ c.loop-index.index = omega (arith, c.loop-index-test.false, ap length c.rows-rows.ensures.rows) in
    let none = at_drop_all (λ rows. sheet_bytes c.args.target c.args.asked.now rows) c.args.sheet.now.rows c.loop-index.index past in
    record { pushes = none_left _ _ _ _ _ _ _ (rw none at c.loop-index.invariant.left); beside = c.loop-index.invariant.beside }
