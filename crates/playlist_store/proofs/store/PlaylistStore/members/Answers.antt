use Rattle.std.proofs.Common.{map, not, sym, ap, ◌∙◌}
use Rattle.playlist_store.specs.Words.{pair_of}
use Rattle.playlist_store.proofs.ReadFacts.{members_told}
use Rattle.playlist_store.proofs.store.PlaylistStore.members.Goals as goal

pub returns-in_ok-members-in-Some : goal.returns-in_ok-members-in-Some
returns-in_ok-members-in-Some c =
    members_told c.self.view_is c.args.items.now c.args.list c.in-Some.kept.now (map pair_of c.in_ok-members-in-Some.field-0.items) c.requires (sym c.in-Some.ensures)
    (c.is_none.ensures ∙ ap not c.if-is_none.false) c.in_ok-members-in-Some.ensures
