-- What a rehearsal leaves of a share.
use Rattle.std.proofs.Common.{◌≡◌, ◌<◌, ◌≤◌, ◌*◌, ℕ, List, Option, Some, None, length, take, refl, sym, ap, ◌∙◌, arith}
use Rattle.std.proofs.Math.Seq.{take-length}
use Rattle.item_model.specs.declared.changes.Edit.{Edit}
use Rattle.item_model.specs.declared.changes.Entry.{Entry}
use Rattle.share_history.specs.Numbers.{most_edits}
use Rattle.rehearsal.specs.Edits.{rehearsed}
use Rattle.rehearsal.specs.Histories.{HasFirst, history_of}
use Rattle.command_core.specs.Endings.{share_of}
use Rattle.command_core.specs.Seen.{ShareSeen}
use Rattle.command_core.specs.declared.outcome.Outcome.{Outcome}
use Rattle.share_commands.specs.RehearseShare.{OpensWithin}

abbrev shared : Option (List Entry) → ShareSeen
shared history = record { history = history }

pub not_opened : (number batches size : ℕ) (outcome : Outcome) → most_edits < batches * size → outcome.history ≡ None → OpensWithin number batches size (share_of outcome)
not_opened number batches size outcome many none = record { few = λ few. absurd (omega (arith, many, few)); many = λ _. ap shared none }

pub opened : (number batches size : ℕ) (outcome : Outcome) (history : List Entry) → batches * size ≤ most_edits → outcome.history ≡ Some history
    → HasFirst (rehearsed number batches size) history → OpensWithin number batches size (share_of outcome)
opened number batches size outcome history few is has = record {
  few = λ _. record { within = few; history = history; opened = ap shared is; has = has };
  many = λ many. absurd (omega (arith, many, few));
}

-- all batches are the first ones
pub has_all : (bs : List (List Edit)) (history : List Entry) → history ≡ history_of bs → HasFirst bs history
has_all bs history is = record { count = length bs; few = omega arith; is = is ∙ ap history_of (sym (take-length bs)) }
