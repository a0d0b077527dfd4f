use Rattle.std.proofs.Common.{◌≡◌, Err, ap, ◌∙◌, arith}
use Rattle.mirror_core.proofs.AfterFacts.{after_listing}
use Rattle.mirror_core.proofs.LawFacts.{listings_are_one, listings_are_not_stuck}
use Rattle.rehearsal.proofs.answering.take.Goals as goal

pub unreachable-requires : goal.unreachable-requires
unreachable-requires c =
    let m = c.args.mirror.now in
    listings_are_not_stuck m.target m.held.revision c.requires.0 c.args.body.now c.in-Err-NotListing.field-0-0 c.requires.1
    (c.in-Err-NotListing.ensures.no_listing c.in-Err-NotListing.field-0-0 (ap Err c.in-Err-NotListing.field-0-is))

pub unreachable-requires-in-Err-Backwards : goal.unreachable-requires-in-Err-Backwards
unreachable-requires-in-Err-Backwards c =
    let m = c.args.mirror.now in
    let held = c.in-Err-Backwards.field-0-0 in
    let told = c.in-Err-Backwards.field-0-1 in
    let back = c.in-Err-Backwards.ensures.backwards held told (ap Err c.in-Err-Backwards.field-0-is) in
    let same : back.0.revision ≡ c.requires.0.revision = ap (λ l. l.revision) (listings_are_one m.target m.held.revision back.0 c.requires.0 c.args.body.now back.1 c.requires.1) in
    omega (arith, same, back.2, back.3, back.4, c.requires.2)

pub returns-in-Ok-clause-delta : goal.returns-in-Ok-clause-delta
returns-in-Ok-clause-delta c = λ l is.
    let m = c.args.mirror.now in
    let done = c.in-Ok.ensures.applied in
    ap (λ a. a.delta) done.4 ∙ ap (λ x. x.is_delta) (listings_are_one m.target m.held.revision done.0 l c.args.body.now done.1 is)

pub returns-in-Ok-clause-held : goal.returns-in-Ok-clause-held
returns-in-Ok-clause-held c = λ l is.
    let m = c.args.mirror.now in
    let done = c.in-Ok.ensures.applied in
    done.3 ∙ ap (λ x. record { target = m.target; query = m.query; meta = m.meta; held = x }) (after_listing m.target m.held l c.args.body.now is)
