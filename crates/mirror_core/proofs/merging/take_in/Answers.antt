-- Merging the rows that stay with the changes gives the rows after the listing.
use Rattle.std.proofs.Common.{◌++◌, [], map, cond, ap, ◌∙◌}
use Rattle.mirror_core.specs.Reading.{row_of, key_of}
use Rattle.mirror_core.specs.Changes.{merged}
use Rattle.mirror_core.proofs.MergeFacts.{rows_taken}
use Rattle.mirror_core.proofs.merging.take_in.Goals as goal

pub returns-clause-rows : goal.returns-clause-rows
returns-clause-rows c = λ s.
    let kept = c.kept.ensures ∙ ap (λ v. cond c.args.told.is_delta v.items []) c.replace-before.ensures.value in
    c.merge.ensures ∙ (λ i. c.in-Ok-with_capacity.ensures.items i ++ merged (kept i) (c.in-Ok.ensures i))
    ∙ rows_taken c.args.told.is_delta c.args.held.now.items (map (key_of c.args.target) c.args.told.gone.now) (map (row_of c.args.target) c.args.told.rows.now) s
