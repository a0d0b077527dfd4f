-- Theorems about the machine, for all settings, histories and scripts.
use Rattle.std.specs.Prelude.{◌≡◌, ◌≤◌, ℕ, List, [], ◌++◌, take, codes, true, Some, None}
use Rattle.std.specs.List.{slice_get}
use Rattle.item_model.specs.declared.changes.Entry.{Entry}
use Rattle.share_replies.specs.Settings.{Settings}
use Rattle.share_replay.specs.Connections.{Connection, closes, gets, end_at_close}
use Rattle.share_replay.specs.Ends.{end_line, reply_lines}
use Rattle.share_replay.specs.Machine.{script_bytes, script_history, script_run}
use Rattle.share_replay.specs.Played.{broken_at, most_answers}
use Rattle.share_replay.specs.Turns.{due_on}
use Rattle.share_replay.specs.declared.delivery.Delivery.{Delivery}
use Rattle.share_replay.specs.declared.ends.End.TheVariants.{Cut, Refused, Held}

-- A script without lines writes nothing, and leaves the history.
abbrev pub NothingIsPlayed : Type 0
NothingIsPlayed = (s : Settings) (h : List Entry) → (script_bytes s h [] ≡ []) × (script_history s h [] ≡ h)

-- A script only appends to the history.
abbrev pub HistoriesGoOn : Type 0
HistoriesGoOn = (s : Settings) (h : List Entry) (lines : List Delivery) → (more : List Entry) × (script_history s h lines ≡ h ++ more)

-- A connection that has ended gets no answer and no more bytes.
abbrev pub EndedConnectionsRest : Type 0
EndedConnectionsRest =
    (s : Settings) (h : List Entry) (c : Connection) (bytes : List ℕ) → c.is_ended ≡ true
    → (due_on s h c ≡ None) × (gets bytes c ≡ c) × (closes c ≡ c) × (end_at_close c ≡ None)

-- Some lines of the output, byte by byte.
abbrev pub LinesByTheByte : Type 0
LinesByTheByte =
    (end_line 2 (Some (Cut 17)) ≡ codes "# 2 cut 17\n") × (end_line 64 (Some (Refused 413)) ≡ codes "# 64 refused 413\n")
    × (end_line 1 (Some Held) ≡ codes "# 1 held\n") × (end_line 1 None ≡ []) × (reply_lines 3 (codes "abc") ≡ codes "> 3 3\nabc\n")

-- The output of an interrupted replay is a prefix of the script's output.
abbrev pub OutputsGoOn : Type 0
OutputsGoOn =
    (s : Settings) (h : List Entry) (lines : List Delivery) (line answered : ℕ) → answered ≤ most_answers (script_run s h (take line lines)) (slice_get lines line)
    → (more : List ℕ) × (script_bytes s h lines ≡ (broken_at s h lines line answered).output ++ more)
