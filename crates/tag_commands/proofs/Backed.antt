-- Why a text that does not show tags is refused.
use Rattle.std.proofs.Common.{Vec, Global, ◌≡◌, ◌+◌, ◌<◌, ◌≤◌, ℕ, List, length, Bool, true, false, Err, IfSome, inl, inr, refl, ap, ◌∙◌, arith}
use Rattle.std.specs.Io.KnownBytes.{Consumes, IsAtEnd}
use Rattle.std.specs.Str.{IsUtf8, is_utf8}
use Rattle.std.specs.Str.Lossy.{utf8_valid_len}
use Rattle.std.proofs.lemmas.Str.{IsUtf8-from_is_utf8}
use Rattle.dmap_tags.specs.Spelling.{are_spellable}
use Rattle.dmap_tags.specs.Tree.{Tree, trees_of}
use Rattle.code_table.specs.Standard.{standard_rows}
use Rattle.dmap_show.proofs.TextLengths.{spellable_by_text}
use Rattle.dmap_show.specs.Readable.{Shows}
use Rattle.dmap_show.specs.TextLines.{Explains}
use Rattle.dmap_show.specs.declared.reading.ShowError.{ShowError}
use Rattle.dmap_show.specs.declared.reading.ShowError.TheVariants as show
use Rattle.outside_net.specs.Reading.{ConsumesUpTo, CountsReadFaults}
use Rattle.outside_net.specs.declared.reading.ReadError.{ReadError}
use Rattle.outside_net.specs.declared.reading.ReadError.TheVariants as reads
use Rattle.command_core.specs.declared.fault.Fault.{Fault}
use Rattle.command_core.specs.declared.fault.Fault.TheVariants as fault
use Rattle.command_core.specs.Seen.{InputSeen}
use Rattle.command_core.proofs.Reading.{all_read_on, past_limit, failed_within, of_input}
use Rattle.command_core.specs.Faults.{read_fault}
use Rattle.tag_commands.specs.declared.show_back.TextFault.{TextFault}
use Rattle.tag_commands.specs.declared.show_back.TextFault.TheVariants.{Line, TooLong}
use Rattle.tag_commands.specs.ShowBack.{shown_text_limit, IsWithin, StopsOn, IsTextRefused, line_at, IsTextFault, StopsReading, show_fault}

pub not_utf8 : (bytes : List ℕ) → ¬ (IsUtf8 bytes) → is_utf8 bytes ≡ false
not_utf8 bytes bad = at (is_utf8 bytes) refl
  where
    at : (b : Bool) → is_utf8 bytes ≡ b → is_utf8 bytes ≡ false
    at true is = absurd (bad (IsUtf8-from_is_utf8 bytes is))
    at false is = is

pub bad_byte : (bytes : List ℕ) (line place : ℕ) → ¬ (IsUtf8 bytes) → line ≡ line_at place bytes → place ≡ utf8_valid_len bytes → StopsOn line bytes
bad_byte bytes line place bad told is = inl (not_utf8 bytes bad, told ∙ ap (λ n. line_at n bytes) is)

pub bad_line : (bytes : List ℕ) (e : ShowError) → is_utf8 bytes ≡ true → Explains standard_rows bytes e → IsTextFault bytes (show_fault e)
bad_line bytes (show.Line line) good why = inr (good, why)
bad_line bytes show.Memory good why = tt

-- the tags of a text within the limit have encodings
pub back_spellable : (bytes : List ℕ) (tags : List Tree) → length bytes ≤ shown_text_limit → Shows standard_rows bytes tags → are_spellable (trees_of tags) ≡ true
back_spellable bytes tags within shows = spellable_by_text 0 (trees_of tags) (omega (arith, ap length shows.lines))

-- an input that is not read whole
pub unread_cause : (before after : InputSeen) (e : ReadError) → (e ≡ reads.Failed → ConsumesUpTo shown_text_limit before.left after.left)
    → ConsumesUpTo (shown_text_limit + 32768) before.left after.left → (e ≡ reads.TooLong → IfSome before.left (λ input. shown_text_limit < length input))
    → CountsReadFaults {T = Vec ℕ Global} before.faults after.faults (Err e) → StopsReading before after (read_fault TooLong e)
unread_cause before after reads.Failed failed some long count = failed_within IsWithin before after shown_text_limit (λ bytes within. within) (failed refl) count
unread_cause before after reads.TooLong failed some long count =
    record { words = tt; said = long refl; faultless = count; read_on = past_limit IsWithin before after shown_text_limit (λ bytes within. within) some }
unread_cause before after reads.Memory failed some long count = tt

-- lines count from 1
from_one : (bytes : List ℕ) (line : ℕ) → StopsOn line bytes → 1 ≤ line
from_one bytes line (inl bad) = let is = bad.1 in omega arith
from_one bytes line (inr bad) = let is = bad.1.1.0 in omega arith

-- the error of the text is one of the input
pub text_cause : (before after : InputSeen) (bytes : List ℕ) (f : Fault TextFault) → Consumes before.left after.left bytes → IsAtEnd after.left → IsWithin bytes
    → after.faults ≡ before.faults → IsTextFault bytes f → StopsReading before after f
text_cause before after bytes (fault.Own (Line line)) read end within faultless h = record {
  words = from_one bytes line h;
  said = of_input (IsTextRefused line) before.left after.left bytes read end (record { within = within; stops = h });
  faultless = faultless;
  read_on = all_read_on IsWithin before after bytes read within;
}
text_cause before after bytes (fault.Own TooLong) read end within faultless h = absurd h
text_cause before after bytes fault.Read read end within faultless h = absurd h
text_cause before after bytes fault.Memory read end within faultless h = tt
