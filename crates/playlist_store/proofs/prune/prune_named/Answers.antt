use Rattle.playlist_store.proofs.PruneFacts.{prunes_all_then, everywhere_prunes}
use Rattle.playlist_store.proofs.prune.prune_named.Goals as goal

pub returns-then-is_empty : goal.returns-then-is_empty
returns-then-is_empty c = λ before le.
    prunes_all_then c.args.floor before c.args.lists.now.entries c.drop_all.new.lists.entries c.prune_members.new.lists.entries (c.drop_all.ensures before le)
    (everywhere_prunes c.args.floor before c.drop_all.new.lists.entries c.prune_members.new.lists.entries c.prune_members.ensures)

pub returns : goal.returns
returns c = λ before le.
    prunes_all_then c.args.floor before c.args.lists.now.entries c.prune_members.new.lists.entries c.prune_items.new.lists.entries
    (prunes_all_then c.args.floor before c.args.lists.now.entries c.drop_all.new.lists.entries c.prune_members.new.lists.entries (c.drop_all.ensures before le)
    (everywhere_prunes c.args.floor before c.drop_all.new.lists.entries c.prune_members.new.lists.entries c.prune_members.ensures))
    (everywhere_prunes c.args.floor before c.prune_members.new.lists.entries c.prune_items.new.lists.entries c.prune_items.ensures)
