use Rattle.std.proofs.Common.{◌++◌, ◌∷◌, [], ◌+◌, ℕ, Bool, List, cond, not, map, filter, drop, option_copied, ap, ◌∙◌, rules, Bor}
use Rattle.item_model.specs.declared.item.Row.{Row}
use Rattle.share_history.specs.Histories.{all_edits}
use Rattle.share_history.specs.Rows.{rows}
use Rattle.share_history.specs.Differences.{has_tag}
use Rattle.share_history.specs.Listings.{shown, shown_rows}
use Rattle.reference_share.specs.RowSeen.{row_of}
use Rattle.reference_share.proofs.LoopFacts.{filtered_by_next}
use Rattle.reference_share.proofs.listings.new_rows.Goals as goal

pub loop-row-preserved : goal.loop-row-preserved
loop-row-preserved c =
    let p : ℕ × Row → Bool =
    λ row. not (has_tag (shown_rows c.args.target c.args.meta.now (rows (all_edits c.args.earlier.now) c.args.target (option_copied c.args.query))) (shown c.args.target c.args.meta.now row)) in
    let xs : List (ℕ × Bor Row) = c.args.current.now in
    let i = c.loop-row.row-index in
    record {
      rows = ap (λ l. l ++ filter p (map row_of (drop (i + 1) xs)))
          (c.in_ok-push_row_if.ensures.rows ∙ ap (λ b. map row_of c.loop-row.found.items ++ cond b (row_of c.row-item.result ∷ []) []) c.is_new.ensures)
          ∙ filtered_by_next row_of p (map row_of c.loop-row.found.items) xs i c.row-item.result (search rules) (search rules) ∙ c.loop-row.invariant.rows;
      few = search rules;
    }
