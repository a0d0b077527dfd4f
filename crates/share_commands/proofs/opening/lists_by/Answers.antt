use Rattle.std.proofs.Common.{[], List, sym, subst, rules}
use Rattle.item_model.specs.declared.changes.Edit.{Edit}
use Rattle.item_store.specs.Stands as items_stand
use Rattle.playlist_store.specs.Stands as lists_stand
use Rattle.share_commands.proofs.LibraryFacts.{one_batch}
use Rattle.share_commands.proofs.opening.lists_by.Goals as goal

pub returns-clause-stands : goal.returns-clause-stands
returns-clause-stands g c =
    let one = one_batch c.args.edits.now (search rules) in
    subst (λ (bs : List (List Edit)). lists_stand.StandsFor bs c.apply.new.self) (sym one)
    (c.in_ok-apply.ensures.stands [] c.open-store.ensures.stands (subst (λ (bs : List (List Edit)). items_stand.StandsFor bs c.args.items.now) one c.requires.items))
