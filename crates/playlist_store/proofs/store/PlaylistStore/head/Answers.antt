use Rattle.std.proofs.Common.{ap, ◌∙◌}
use Rattle.playlist_store.specs.Lists.{top, head_in}
use Rattle.playlist_store.proofs.store.PlaylistStore.head.Goals as goal

pub returns : goal.returns
returns c = λ bs h. c.head.ensures ∙ ap (λ s. head_in (top s.lists c.args.list)) c.self.view_is ∙ h.now.heads c.args.list
