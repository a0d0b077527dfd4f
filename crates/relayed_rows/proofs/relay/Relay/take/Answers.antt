-- The changes that are made are those of the listing, and the batch is the difference.
use Rattle.std.proofs.Common.{◌≡◌, length, Err, sym, ap, subst, ◌∙◌}
use Rattle.item_model.specs.Valid.{AreValid}
use Rattle.mirror_core.specs.ToldSeen.{told_of}
use Rattle.relayed_rows.specs.declared.untaken.Untaken.TheVariants.{Row}
use Rattle.relayed_rows.specs.Libraries.{IsLibrary}
use Rattle.relayed_rows.specs.Differences.{difference, gone_ids, new_rows}
use Rattle.relayed_rows.specs.Changes.{made, AreSound}
use Rattle.relayed_rows.proofs.DifferenceFacts.{differences_are_valid}
use Rattle.relayed_rows.proofs.ChangeFacts.{changes_sound}
use Rattle.relayed_rows.proofs.RelayFacts.{library_made, gone_made, new_made, difference_of_made, taken_as_mirrored, unread_listed}
use Rattle.relayed_rows.proofs.relay.Relay.take.Goals as goal

pub returns-in-Err-clause-unread : goal.returns-in-Err-clause-unread
returns-in-Err-clause-unread c = λ index e.
    let why : c.in-Err.error ≡ Row index = cc in
    unread_listed (told_of c.args.told) ∙ c.in-Err.ensures.unread index (ap Err why)

pub make-requires : goal.make-requires
make-requires c = changes_sound c.self.inside.rows.entries (told_of c.args.told) c.in-Ok.changes.entries c.self.invariant c.in-Ok.ensures.made

pub invariant_of-self-2 : goal.invariant_of-self-2
invariant_of-self-2 c =
    let sound : AreSound c.self.inside.rows.entries c.in-Ok.changes.entries =
    changes_sound c.self.inside.rows.entries (told_of c.args.told) c.in-Ok.changes.entries c.self.invariant c.in-Ok.ensures.made in
    subst IsLibrary (sym c.in-Ok-make.ensures.made) (library_made c.self.inside.rows.entries c.in-Ok.changes.entries sound)

pub returns-clause-library : goal.returns-clause-library
returns-clause-library c =
    let sound : AreSound c.self.inside.rows.entries c.in-Ok.changes.entries =
    changes_sound c.self.inside.rows.entries (told_of c.args.told) c.in-Ok.changes.entries c.self.invariant c.in-Ok.ensures.made in
    subst IsLibrary (sym c.in-Ok-make.ensures.made) (library_made c.self.inside.rows.entries c.in-Ok.changes.entries sound)

pub returns-clause-taken : goal.returns-clause-taken
returns-clause-taken c = λ held s is rows.
    let library =
    taken_as_mirrored c.self.inside.rows.entries c.make.new.held.entries c.in-Ok.changes.entries held (told_of c.args.told)
    (ap (λ r. r.library) (c.self.view_is ∙ is)) c.self.invariant c.in-Ok.ensures.made c.in-Ok-make.ensures.made s c.in-Ok.ensures.read rows in
    λ i. record { revision = c.args.told.revision; library = library i }

pub returns-clause-changed : goal.returns-clause-changed
returns-clause-changed c =
    let sound : AreSound c.self.inside.rows.entries c.in-Ok.changes.entries =
    changes_sound c.self.inside.rows.entries (told_of c.args.told) c.in-Ok.changes.entries c.self.invariant c.in-Ok.ensures.made in
    let before = ap (λ r. r.library) c.self.view_is in
    c.in-Ok-make.ensures.batch ∙ difference_of_made c.self.inside.rows.entries c.in-Ok.changes.entries sound
    ∙ (λ i. difference (before i) (sym c.in-Ok-make.ensures.made i))

pub returns-clause-counted : goal.returns-clause-counted
returns-clause-counted c =
    let sound : AreSound c.self.inside.rows.entries c.in-Ok.changes.entries =
    changes_sound c.self.inside.rows.entries (told_of c.args.told) c.in-Ok.changes.entries c.self.invariant c.in-Ok.ensures.made in
    let before = ap (λ r. r.library) c.self.view_is in (
      c.in-Ok-make.ensures.counted.0 ∙ ap length (gone_made c.self.inside.rows.entries c.in-Ok.changes.entries sound)
          ∙ (λ i. length (gone_ids (before i) (sym c.in-Ok-make.ensures.made i))),
      c.in-Ok-make.ensures.counted.1 ∙ ap length (new_made c.self.inside.rows.entries c.in-Ok.changes.entries sound)
          ∙ (λ i. length (new_rows (before i) (sym c.in-Ok-make.ensures.made i))),
    )

pub returns-clause-valid : goal.returns-clause-valid
returns-clause-valid c =
    let held = c.self.inside.rows.entries in
    let cs = c.in-Ok.changes.entries in
    let sound : AreSound held cs = changes_sound held (told_of c.args.told) cs c.self.invariant c.in-Ok.ensures.made in
    subst AreValid (sym (c.in-Ok-make.ensures.batch ∙ difference_of_made held cs sound))
    (differences_are_valid held (made held cs) c.self.invariant (library_made held cs sound))

pub returns-clause-read : goal.returns-clause-read
returns-clause-read c = unread_listed (told_of c.args.told) ∙ c.in-Ok.ensures.read
