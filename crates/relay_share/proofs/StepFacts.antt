-- The entries of a relay's handle are the steps between libraries.
use Rattle.std.proofs.Common.{◌≡◌, ℕ, List, [], ◌∷◌, ◌++◌, refl, sym, ap, ap₂, ◌∙◌}
use Rattle.item_model.specs.declared.changes.Edit.{Edit}
use Rattle.item_model.specs.declared.changes.Entry.{Entry}
use Rattle.item_model.specs.declared.changes.Entry.TheVariants as entry
use Rattle.mirror_client.specs.Stages.{listings_in}
use Rattle.share_history.specs.Listings.{Listing}
use Rattle.share_history.specs.Mirror.{Held, mirror_after}
use Rattle.share_lock.specs.Histories.{entries_of}
use Rattle.share_replies.specs.Laws.{maker}
use Rattle.share_replies.specs.Settings.{Settings}
use Rattle.share_server.specs.declared.report.Served.{Served}
use Rattle.share_server.specs.Served.{AreServed, added_entries, added_part, at_point}
use Rattle.relayed_rows.specs.Relays.{libraries_after, nothing_held, steps_between, with_batch}
use Rattle.relay_share.specs.Laws.{RelaysMakeSteps, edits_by}
use Rattle.relay_share.specs.Rounds.{AreRelayed, batch_of, before, behind, edits_asked}
use Rattle.relay_share.specs.declared.report.Relayed.{Relayed}
use Rattle.relay_share.proofs.EditFacts.{edit_entry, entry_of}

one_step : (by : ℕ) (batch : List Edit) (later : List (List Edit)) → entry_of by batch ++ edits_by by later ≡ edits_by by (with_batch batch later)
one_step by [] later = refl
one_step by (e ∷ es) later = refl

steps_made : (settings : Settings) (by : ℕ) (h : List Entry) (held : Held) (ls : List Listing) (served : List Served) (done : List Relayed)
    → AreServed settings by h (edits_asked held ls) served → AreRelayed h held ls served done
    → added_entries h served ≡ edits_by by (steps_between (before held) (libraries_after held ls))
steps_made settings by h held [] [] [] served_too are = refl
steps_made settings by h held [] [] (d ∷ done) served_too are = absurd are
steps_made settings by h held [] (s ∷ served) done served_too are = absurd are
steps_made settings by h held (l ∷ ls) [] done served_too are = absurd are
steps_made settings by h held (l ∷ ls) (s ∷ served) [] served_too are = absurd are
steps_made settings by h held (l ∷ ls) (s ∷ served) (d ∷ done) served_too are =
    ap₂ (λ (xs ys : List Entry). xs ++ ys) (edit_entry settings by h (batch_of held l) s served_too.0 are.0.made)
    (steps_made settings by h (mirror_after held l) ls served done served_too.1 are.1)
    ∙ one_step by (batch_of held l) (steps_between (behind held l) (libraries_after (mirror_after held l) ls))

pub relays_make_steps : RelaysMakeSteps
relays_make_steps host rounds p stage q k k' done r =
    r.serves.own
    ∙ ap (λ (es : List Entry). entries_of maker k.number k.seen ++ es)
    (steps_made k.settings k.number k'.seen nothing_held (listings_in stage) r.served done r.serves.are_served r.relayed)
