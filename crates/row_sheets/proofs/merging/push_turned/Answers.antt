use Rattle.std.proofs.Common.{◌≡◌, ◌+◌, ◌++◌, length, take, drop, ap, subst, ◌∙◌, arith}
use Rattle.share_history.specs.Keyed.{IsAscending}
use Rattle.row_sheets.specs.Changes.{own_rows}
use Rattle.row_sheets.specs.Turns.{AreUnder, AreAbove}
use Rattle.row_sheets.proofs.StepFacts.{row_step}
use Rattle.row_sheets.proofs.merging.push_turned.Goals as goal

pub returns-clause-turned : goal.returns-clause-turned
returns-clause-turned c = λ wanted rest t.
    let changes = c.args.changes.now in
    let below = c.split_at.result.0.now in
    let from = c.split_at.result.1.now in
    let own = c.split_at-2.result.0.now in
    let k = c.count_below.result in
    let m = c.count_below-2.result in
    let id : c.from-id.result ≡ c.args.row.now.id = c.from-id.ensures ∙ ap (λ row. row.id) c.row.ensures in
    row_step wanted c.args.merged.now.items c.push_own.new.merged.items changes below from own k m (length below + length own) c.args.row.now rest c.split_at.ensures.front c.split_at.ensures.back c.split_at-2.ensures.front
    (c.in_ok-push_own.ensures ∙ ap (λ rows. rows ++ own_rows c.args.row.now own) c.in_ok-push_new.ensures) (omega (arith, c.split_at.ensures.front_len, c.split_at-2.ensures.front_len))
    (subst (λ n. AreUnder n (take k changes)) id c.count_below.ensures.under) (subst (λ n. IsAscending changes → AreAbove n (drop k changes)) id c.count_below.ensures.above)
    (subst (λ n. AreUnder (n + 1) (take m from)) id c.count_below-2.ensures.under) (subst (λ n. IsAscending from → AreAbove (n + 1) (drop m from)) id c.count_below-2.ensures.above) t
