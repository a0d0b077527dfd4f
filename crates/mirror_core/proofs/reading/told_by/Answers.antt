-- What was read is the listing, or says why there is none.
use Rattle.std.proofs.Common.{◌≡◌, ap, ◌∙◌, arith, Err}
use Rattle.mirror_core.specs.Reading.{listing_of}
use Rattle.mirror_core.specs.ToldSeen.{told_of}
use Rattle.mirror_core.proofs.ReadFacts.{read_listing, read_stuck}
use Rattle.mirror_core.proofs.reading.told_by.Goals as goal

pub returns-in-Err-clause-no_listing : goal.returns-in-Err-clause-no_listing
returns-in-Err-clause-no_listing c = λ index e.
    let same : c.in-Err.index ≡ index = cc in
    read_stuck c.args.target c.args.base c.args.body.now index (c.in-Err.ensures ∙ ap Err same)

pub returns-then-told-base-clause-backwards : goal.returns-then-told-base-clause-backwards
returns-then-told-base-clause-backwards c = λ held told e.
    let base : c.args.base ≡ held = cc in
    let revision : c.in-Ok.told.revision ≡ told = cc in (
      listing_of c.args.target (told_of c.in-Ok.told),
      read_listing c.args.target c.args.base c.args.body.now (told_of c.in-Ok.told) c.in-Ok.ensures,
      (cc),
      (cc),
      omega (arith, base, revision),
    )

pub returns-clause-told : goal.returns-clause-told
returns-clause-told c = (read_listing c.args.target c.args.base c.args.body.now (told_of c.in-Ok.told) c.in-Ok.ensures, omega arith)
