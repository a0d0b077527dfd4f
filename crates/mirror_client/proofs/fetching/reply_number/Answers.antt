use Rattle.std.proofs.Common.{refl, sym, ◌∙◌}
use Rattle.mirror_client.proofs.TellingFacts.{no_number}
use Rattle.mirror_client.proofs.fetching.reply_number.Goals as goal

-- no other tag is in the body, and this one has no such number
pub returns-in-Ok : goal.returns-in-Ok
returns-in-Ok c = (
  (c.in-Ok.ensures.0, refl),
  no_number c.args.code c.args.table.now c.args.body.now c.in-Ok.tag c.in-Ok.ensures.1 (sym c.number_in.ensures ∙ c.in-None.is),
)
