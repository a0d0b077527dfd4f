-- An edit that was added to the history and could not be kept. A stop follows it, and no answer shows it.
use Rattle.std.specs.Prelude.{◌≡◌, ℕ, List, [], ◌∷◌, ◌++◌, length, Bool, true, false, MatchBool, Option, Some, None, Result, Ok, Err}
use Rattle.item_model.specs.declared.changes.Edit.{Edit}
use Rattle.item_model.specs.declared.changes.Entry.{Entry}
use Rattle.item_model.specs.declared.changes.Entry.TheVariants as entry
use Rattle.share_asks.specs.declared.ask.Ask.{Ask}
use Rattle.share_asks.specs.declared.ask.Role.{Role}
use Rattle.share_asks.specs.declared.ask.Want.TheVariants as want
use Rattle.share_lock.specs.Histories.{entries_of}
use Rattle.share_replies.specs.Laws.{maker}
use Rattle.http_front.specs.Readings.{Joins}
use Rattle.share_server.specs.declared.report.Served.{Served}
use Rattle.share_server.specs.declared.report.LinkEnd.{LinkEnd}
use Rattle.share_server.specs.declared.report.LinkEnd.TheVariants.{FileFault}
use Rattle.share_server.specs.Served.{AreServed, added_entries}
use Rattle.share_server.specs.Passes.{Pass, Fresh, Rises}

-- The handle served `asks`, as in `Serves`, and also made the entries `lost`, which no reported request added.
pub record ServesBut (k k' : Pass) (asks : List Ask) (served : List Served) (lost : List Entry) : Type 0 where
  pub fresh : Fresh k k' served
  pub stays : k' ≡ record k { seen = k'.seen; looks = k'.looks }
  pub are_served : AreServed k.settings k.number k'.seen asks served
  pub own : entries_of maker k.number k'.seen ≡ entries_of maker k.number k.seen ++ (added_entries k'.seen served ++ lost)

-- An edit of handle `number`, followed by its stop.
abbrev pub edit_and_stop : ℕ → List Edit → List Entry
edit_and_stop number batch = entry.Edits number batch ∷ entry.Stop number ∷ []

-- The edit comes after the history length of each request, and the stop follows it at once.
pub record Unacknowledged (k k' : Pass) (served : List Served) (batch : List Edit) (lost : List Entry) : Type 0 where
  pub lost_is : lost ≡ edit_and_stop k.number batch
  pub earlier : List Entry
  pub later : List Entry
  pub stand : k'.seen ≡ earlier ++ (lost ++ later)
  pub unseen : Rises (length k.seen) served (length earlier)

-- The lost edit is that of the next request in the bytes.
pub record LosesEdit (role : Role) (bytes : List ℕ) (asks : List Ask) (k k' : Pass) (served : List Served) (lost : List Entry) : Type 0 where
  pub ask : Ask
  pub behind : List ℕ
  pub next : Joins role bytes (asks ++ ask ∷ []) behind
  pub batch : List Edit
  pub asks_it : ask.want ≡ want.Edit (Ok batch)
  pub made : Unacknowledged k k' served batch lost

abbrev pub is_loss : LinkEnd → Bool
is_loss FileFault = true
is_loss other = false

-- Of a connection that may stay open.
abbrev pub is_loss_if : Option LinkEnd → Bool
is_loss_if None = false
is_loss_if (Some end) = is_loss end

abbrev pub is_loss_in : Result ℕ LinkEnd → Bool
is_loss_in (Ok n) = false
is_loss_in (Err end) = is_loss end

-- An edit was lost exactly if the end says so.
abbrev pub Loses : Role → (bytes : List ℕ) → List Ask → (k k' : Pass) → List Served → (lost : List Entry) → LinkEnd → Type 0
Loses role bytes asks k k' served lost end = MatchBool (is_loss end) (LosesEdit role bytes asks k k' served lost) (lost ≡ [])
