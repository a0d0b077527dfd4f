-- One change more.
use Rattle.std.proofs.Common.{◌≡◌, ◌++◌, ◌∷◌, rules, sym, ap, ◌∙◌}
use Rattle.relayed_rows.specs.Differences.{new_rows}
use Rattle.relayed_rows.specs.Changes.{rows_in}
use Rattle.relayed_rows.proofs.PutFacts.{news_more}
use Rattle.relayed_rows.proofs.edits.new_rows.Goals as goal

pub loop-id-preserved : goal.loop-id-preserved
loop-id-preserved c =
    let held = c.args.held.now.entries in
    let left : c.loop-id.id-iterator ≡ (c.in-Some.id.now, c.in-Some.change.now) ∷ c.next.new.self = search rules in
    ap (λ rows. rows ++ new_rows held (rows_in c.next.new.self)) c.in_ok-push_new.ensures
    ∙ news_more held c.loop-id.rows.items (c.in-Some.id.now, c.in-Some.change.now) c.next.new.self
    ∙ ap (λ cs. c.loop-id.rows.items ++ new_rows held (rows_in cs)) (sym left)
    ∙ c.loop-id.invariant
