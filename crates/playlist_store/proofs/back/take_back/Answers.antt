use Rattle.std.proofs.Common.{ap, ◌∙◌, arith}
use Rattle.playlist_store.proofs.BackFacts.{members_back, all_back}
use Rattle.playlist_store.proofs.back.take_back.Goals as goal

pub returns-then-is_empty : goal.returns-then-is_empty
returns-then-is_empty c = λ some.
    members_back c.args.revision c.args.named.now c.args.lists.now.entries c.pop_all.new.lists.entries c.back_members.new.lists.entries c.as_slice.result.now c.as_slice-2.result.now
    (c.as_slice.ensures.value ∙ ap (λ v. v.lists) c.named.view_is) (c.as_slice-2.ensures.value ∙ ap (λ v. v.members) c.named.view_is) (c.pop_all.ensures some) (c.back_members.ensures some)
    c.named.inside.items.items c.named.inside.items.len c.is_empty.result (ap (λ v. v.items) c.named.view_is) (omega (arith, c.named.inside.items.ok.0)) c.is_empty.ensures c.if-is_empty.true

pub returns : goal.returns
returns c = λ some.
    all_back c.args.revision c.args.named.now c.args.lists.now.entries c.pop_all.new.lists.entries c.back_members.new.lists.entries c.as_slice.result.now c.as_slice-2.result.now
    (c.as_slice.ensures.value ∙ ap (λ v. v.lists) c.named.view_is) (c.as_slice-2.ensures.value ∙ ap (λ v. v.members) c.named.view_is) (c.pop_all.ensures some) (c.back_members.ensures some)
    c.back_items.new.lists.entries c.as_slice-3.result.now (c.as_slice-3.ensures.value ∙ ap (λ v. v.items) c.named.view_is) (c.back_items.ensures some)
