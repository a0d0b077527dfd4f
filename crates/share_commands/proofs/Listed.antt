-- How `list` ends with a share that was opened.
use Rattle.std.proofs.Common.{ℕ, List, [], Option, Some, inl, inr, refl}
use Rattle.item_model.specs.declared.changes.Edit.{Edit}
use Rattle.item_model.specs.declared.changes.Entry.{Entry}
use Rattle.item_model.specs.declared.request.Look.{Look}
use Rattle.item_model.specs.declared.request.Target.{Target}
use Rattle.command_core.specs.declared.outcome.Outcome.{Outcome}
use Rattle.command_core.specs.Endings.{IsAnswered}
use Rattle.command_core.specs.Seen.{Run, share_with}
use Rattle.command_core.proofs.Appending.{none_written}
use Rattle.command_core.proofs.Ended.{by_memory, by_output}
use Rattle.share_commands.specs.Looks.{AsksLook}
use Rattle.share_commands.specs.ListShare.{IsOpened, WritesListing, list_meaning, listing_bytes}
use Rattle.share_commands.proofs.Senses.{list_sense}

pub listed_ends : (query meta : Option (List ℕ)) (target : Target) (told : Run) (outcome : Outcome) (look : Look) (edits : List Edit) (history : List Entry) → AsksLook query meta look
    → IsOpened edits target told.before.input told.after.input (share_with history)
    → WritesListing history (listing_bytes edits target look) told.output_before told.output_after outcome → IsAnswered (list_meaning query meta target) told outcome
listed_ends query meta target told outcome look edits history asked opened (inl done) =
    by_output (list_meaning query meta target) (list_sense query meta target) told outcome (Some history) (listing_bytes edits target look)
    (record { look = look; edits = edits; asked = asked; opened = opened; written = refl }) done
listed_ends query meta target told outcome look edits history asked opened (inr want) =
    by_memory (list_meaning query meta target) (list_sense query meta target).sensible told told.output_before outcome [] (Some history) tt tt (inr (edits, opened)) refl
    (none_written told.output_before) want
