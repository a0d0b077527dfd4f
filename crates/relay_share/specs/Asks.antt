-- What a relay requests of its own share, and what a turn reports of the answer.
use Rattle.std.specs.Prelude.{ℕ, List, Bool, true, false, Result, Ok, Err}
use Rattle.std.specs.declared.alloc.AllocError.{AllocError}
use Rattle.item_model.specs.declared.changes.Edit.{Edit as OneEdit}
use Rattle.share_asks.specs.declared.ask.Ask.{Ask}
use Rattle.share_asks.specs.declared.ask.Role.TheVariants as role
use Rattle.share_asks.specs.declared.ask.Want.{Want}
use Rattle.share_asks.specs.declared.ask.Want.TheVariants.{Edit, Stop}
use Rattle.share_core.specs.declared.answer.Answer.{Answer}
use Rattle.share_core.specs.declared.answer.Answer.TheVariants as answer
use Rattle.share_server.specs.Answering.{given_up, served_of}
use Rattle.relay_share.specs.declared.turns.Told.{Told}

abbrev pub asks : Want → Ask
asks want = record { role = role.Edit; close = false; want = want }

abbrev pub edit_ask : List OneEdit → Ask
edit_ask batch = asks (Edit (Ok batch))

abbrev pub stop_ask : Ask
stop_ask = asks Stop

-- A change is never pending.
abbrev pub is_change : Want → Bool
is_change (Edit (Ok batch)) = true
is_change Stop = true
is_change want = false

abbrev pub told_of : Result Answer AllocError → ℕ → ℕ → Told
told_of (Ok (answer.Reply r)) revision end = record { served = served_of r; revision = revision }
told_of (Ok (answer.Wait now point)) revision end = record { served = given_up end; revision = revision }
told_of (Err error) revision end = record { served = given_up end; revision = revision }
