use Rattle.playlist_store.proofs.NoteFacts.{stays_noted}
use Rattle.playlist_store.proofs.edits.note.Goals as goal

pub returns-in-Ok-clause-stay : goal.returns-in-Ok-clause-stay
returns-in-Ok-clause-stay c = λ other k is. stays_noted (other, k) (c.in-Some.item, c.args.key) c.args.near.now.keys c.insert.new.self.keys c.in-Ok.ensures.keys is
