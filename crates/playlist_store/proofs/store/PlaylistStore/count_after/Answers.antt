use Rattle.std.proofs.Common.{length, fold, sym, ap, ◌∙◌}
use Rattle.share_history.specs.Keyed.{ascending}
use Rattle.playlist_store.specs.Reads.{with_list}
use Rattle.playlist_store.proofs.ReadFacts.{count_after_told, count_same}
use Rattle.playlist_store.proofs.store.PlaylistStore.count_after.Goals as goal

pub returns-then-not-has_list : goal.returns-then-not-has_list
returns-then-not-has_list c = count_same c.args.more.now c.count.result (sym c.has_list.ensures ∙ c.if-not-has_list.true) c.count.ensures

pub returns : goal.returns
returns c =
    count_after_told c.self.view_is c.args.more.now c.len.result c.in_ok-ids.ids.items c.in_ok-ids.ensures.ids c.in_ok-ids.ensures.ascending
    (c.len.ensures.len ∙ ap length (c.in_ok-take_in.ensures ∙ ap (λ ids. fold with_list ids c.args.more.now) (c.in_ok-set.ensures ∙ ap ascending c.as_slice.ensures.value)))
