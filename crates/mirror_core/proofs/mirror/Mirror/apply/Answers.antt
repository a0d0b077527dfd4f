-- The mirror is seen as what it has, before and after the listing.
use Rattle.std.proofs.Common.{◌≡◌, ◌≤◌, map, length, rules, sym, ap, ◌∙◌, arith, Err}
use Rattle.std.proofs.lemmas.List.{length-map}
use Rattle.mirror_core.specs.declared.mirror.MirrorError.TheVariants.{NotListing, Backwards}
use Rattle.mirror_core.specs.Reading.{row_of, key_of, listing_of}
use Rattle.mirror_core.specs.ToldSeen.{told_of}
use Rattle.mirror_core.proofs.ApplyFacts.{no_listing_seen, listing_seen, ascending-taken, mirror_told}
use Rattle.mirror_core.proofs.mirror.Mirror.apply.Goals as goal

pub returns-in-Err-clause-no_listing : goal.returns-in-Err-clause-no_listing
returns-in-Err-clause-no_listing c = λ index e.
    let why : c.in-Err.error ≡ NotListing index = cc in
    no_listing_seen _ c.args.self.now c.args.body.now index c.self.view_is (c.in-Err.ensures.no_listing index (ap Err why))

pub returns-in-Err-clause-backwards : goal.returns-in-Err-clause-backwards
returns-in-Err-clause-backwards c = λ held told e.
    let why : c.in-Err.error ≡ Backwards held told = cc in
    let back = c.in-Err.ensures.backwards held told (ap Err why) in (
      back.0,
      listing_seen _ c.args.self.now c.args.body.now back.0 c.self.view_is back.1,
      back.2 ∙ ap (λ m. m.held.revision) c.self.view_is,
      back.3,
      back.4,
    )

pub invariant_of-self-2 : goal.invariant_of-self-2
invariant_of-self-2 c =
    ascending-taken c.in-Ok.told.is_delta c.self.inside.rows.items (map (key_of c.self.inside.target) c.in-Ok.told.gone.now) (map (row_of c.self.inside.target) c.in-Ok.told.rows.now)
    c.take_in.new.held.items c.self.invariant c.in-Ok-take_in.ensures.rows

pub returns-clause-applied : goal.returns-clause-applied
returns-clause-applied c =
    let is = c.in-Ok.ensures.told in
    let later : c.self.inside.revision ≤ c.in-Ok.told.revision = is.1 in
    let base : c.self.inside.revision ≡ c.args.self.now.held.revision = ap (λ m. m.held.revision) c.self.view_is in
    let rows : c.len.result ≡ length c.take_in.new.held.items = search rules in (
      listing_of c.self.inside.target (told_of c.in-Ok.told),
      listing_seen _ c.args.self.now c.args.body.now (listing_of c.self.inside.target (told_of c.in-Ok.told)) c.self.view_is is.0,
      omega (arith, base, later),
      mirror_told _ c.args.self.now c.args.body.now (told_of c.in-Ok.told) c.take_in.new.held.items c.self.view_is is.0 c.self.invariant c.in-Ok-take_in.ensures.rows,
      λ i. record {
        revision = c.in-Ok.told.revision;
        delta = c.in-Ok.told.is_delta;
        put = sym (length-map c.in-Ok.told.rows.now (row_of c.self.inside.target)) i;
        dropped = sym (length-map c.in-Ok.told.gone.now (key_of c.self.inside.target)) i;
        rows = rows i;
      },
    )
