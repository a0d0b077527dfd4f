-- The tag is a listing at the held revision, or is refused there.
use Rattle.std.proofs.Common.{ap, ◌∙◌}
use Rattle.mirror_core.specs.Reading.{listing_of}
use Rattle.mirror_core.specs.ToldSeen.{told_of}
use Rattle.item_model.specs.declared.request.Target.TheVariants.{Items}
use Rattle.relayed_rows.specs.Relays.{Relaying}
use Rattle.share_lock.specs.Passes.{known}
use Rattle.relay_share.specs.Steps.{IsUntaken, Takes}
use Rattle.relay_share.proofs.EndFacts.{listed, unlisted_tag, unread_one}
use Rattle.mirror_client.proofs.ResultFacts.{err_then, ok_then}
use Rattle.relay_share.proofs.rounds.take_tag.Goals as goal

pub returns-in-Ok-clause-taken : goal.returns-in-Ok-clause-taken
returns-in-Ok-clause-taken g c =
    ok_then c.take_listing.result c.take_listing.ensures.taken
    (λ h held s is.
    listed held c.args.tag.now (listing_of Items (told_of c.in-Ok.told)) c.base.result
    (λ l. Takes held l (known c.args.pass.now) (known c.take_listing.new.pass) c.args.done.now.items c.take_listing.new.done.items c.take_listing.new.relay)
    (c.base.ensures ∙ ap (λ (r : Relaying). r.revision) is) c.in-Ok.ensures.told.0 c.in-Ok.ensures.told.1 (h held s is c.in-Ok.ensures.told.0.read.rows))

pub returns-in-Ok-clause-untaken : goal.returns-in-Ok-clause-untaken
returns-in-Ok-clause-untaken g c =
    err_then c.take_listing.result c.take_listing.ensures.untaken
    (λ end h held s is.
    unread_one held c.args.tag.now (known c.args.pass.now) (known c.take_listing.new.pass) end
    (listed held c.args.tag.now (listing_of Items (told_of c.in-Ok.told)) c.base.result
    (λ l. IsUntaken held l (known c.args.pass.now) (known c.take_listing.new.pass) end)
    (c.base.ensures ∙ ap (λ (r : Relaying). r.revision) is) c.in-Ok.ensures.told.0 c.in-Ok.ensures.told.1 (h held s is c.in-Ok.ensures.told.0.read.rows)))

pub returns-in-Err-clause-untaken : goal.returns-in-Err-clause-untaken
returns-in-Err-clause-untaken g c = λ held s is.
    unlisted_tag held c.args.tag.now c.base.result c.in-Err.error (known c.args.pass.now) c.refused_by.result (c.base.ensures ∙ ap (λ (r : Relaying). r.revision) is)
    c.refused_by.ensures c.in-Err.ensures.no_listing c.in-Err.ensures.backwards c.in-Err.ensures.no_memory
