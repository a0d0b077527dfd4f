use Rattle.std.proofs.Common.{ap, ◌∙◌}
use Rattle.playlist_store.specs.Lists.{top, member_in}
use Rattle.playlist_store.proofs.ReadFacts.{member_told}
use Rattle.playlist_store.proofs.store.PlaylistStore.member_at.Goals as goal

pub returns : goal.returns
returns c = λ bs h kept.
    c.member.ensures ∙ ap (λ s. member_in (top s.lists c.args.list) c.args.key c.args.base) c.self.view_is ∙ member_told h c.args.list c.args.key c.args.base c.requires kept
