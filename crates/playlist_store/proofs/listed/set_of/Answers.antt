use Rattle.std.proofs.Common.{[], get_or, nat_cmp, sym, ap, ◌∙◌}
use Rattle.std.specs.BTreeSet.{insert_key}
use Rattle.std.proofs.lemmas.List.Sums.{fold_more}
use Rattle.playlist_store.proofs.listed.set_of.Goals as goal

pub loop-id-preserved : goal.loop-id-preserved
loop-id-preserved c =
    let place = c.loop-id.id-index in
    c.in_ok-insert.ensures.keys ∙ ap (λ keys. insert_key nat_cmp keys (get_or c.args.ids.now place 0)) c.loop-id.invariant
    ∙ sym (fold_more (insert_key nat_cmp) [] c.args.ids.now place 0 c.loop-id-test.true)
