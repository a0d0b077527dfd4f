use Rattle.std.proofs.Common.{sym, ap, ◌∙◌}
use Rattle.playlist_store.specs.Lists.{head_in}
use Rattle.playlist_store.proofs.ReadFacts.{ruled_told, plain_told, none_told}
use Rattle.playlist_store.proofs.store.PlaylistStore.changed_since.Goals as goal

pub returns-then-is_some : goal.returns-then-is_some
returns-then-is_some c =
    ruled_told (λ keys. keys.items) c.changed_since.result c.self.view_is c.args.items.now c.args.list c.args.base c.in-Some.kept.now c.in-Some-head.head
    c.requires.other (sym c.in-Some.ensures) c.in-Some-head.is (sym c.is_some.ensures ∙ c.if-is_some.true) c.changed_since.ensures

pub returns-else-is_some : goal.returns-else-is_some
returns-else-is_some c =
    plain_told (λ keys. keys.items) c.touched.result c.self.view_is c.args.items.now c.args.list c.args.base c.saturating_sub-passed.result c.in-Some.kept.now c.in-Some-head.head
    c.requires.other c.requires.from (sym c.in-Some.ensures) c.in-Some-head.is (sym c.is_some.ensures ∙ c.if-is_some.false) c.saturating_sub-passed.ensures
    c.touched.ensures.ascending c.touched.ensures.keys

pub returns-in-None-head : goal.returns-in-None-head
returns-in-None-head c =
    none_told c.self.view_is c.args.items.now c.args.list c.args.base c.new.result.items c.requires.other (ap head_in (sym c.in-Some.ensures) ∙ c.in-None-head.is) c.new.ensures.items

pub returns-in-None : goal.returns-in-None
returns-in-None c =
    none_told c.self.view_is c.args.items.now c.args.list c.args.base c.new-in-None.result.items c.requires.other (ap head_in (sym c.in-None.ensures)) c.new-in-None.ensures.items
