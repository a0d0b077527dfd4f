-- The machine of a replay: one share, many connections, and one answer at a time. A line reaches one connection. Then
-- the machine answers until it can answer no more: first the requests of that connection, then those of the
-- connection with the lowest number. A pending update is a next request without an answer yet, so the machine tries
-- it again after each answer.
use Rattle.std.specs.Prelude.{ℕ, zero, suc, ◌+◌, ◌-◌, List, [], ◌∷◌, ◌++◌, is_some, Option, Some, None, option_map, replicate, if◌then◌else◌}
use Rattle.std.specs.List.{slice_get, slice_set, sum_by, fold}
use Rattle.std.specs.Option.{option_and_then}
use Rattle.item_model.specs.declared.changes.Entry.{Entry}
use Rattle.share_replies.specs.Answers.{Shared}
use Rattle.share_replies.specs.Settings.{Settings}
use Rattle.share_replay.specs.Connections.{Connection, new_connection, gets, closes, end_at_close, last_end}
use Rattle.share_replay.specs.Ends.{end_line}
use Rattle.share_replay.specs.Turns.{Due, Turn, due_on, turn_for, left_on}
use Rattle.share_replay.specs.declared.delivery.Delivery.{Delivery}
use Rattle.share_replay.specs.declared.delivery.Delivery.TheVariants.{Open, Text, Close}
use Rattle.share_replay.specs.declared.ends.End.{End}

-- The most connections.
abbrev pub most_connections : ℕ
most_connections = 64

-- ---- The whole machine.

pub record Desk : Type 0 where
  pub history : List Entry
  -- the connection of each number from 1, if it was opened
  pub connections : List (Option Connection)
  pub output : List ℕ

abbrev pub place_of : ℕ → ℕ
place_of number = number - 1

abbrev pub connection_at : List (Option Connection) → ℕ → Option Connection
connection_at cs place = option_and_then (λ c. c) (slice_get cs place)

abbrev pub due_at : Settings → List Entry → Option Connection → Option Due
due_at s h connection = option_and_then (due_on s h) connection

-- The index of the first connection that can be answered, if the first of these has the index `place`.
abbrev pub first_due : Settings → List Entry → ℕ → List (Option Connection) → Option ℕ
first_due s h place [] = None
first_due s h place (c ∷ cs) = if is_some (due_at s h c) then Some place else first_due s h (place + 1) cs

-- The index of the connection that is answered next: the one that the line reached if it can be answered, otherwise
-- the first that can.
abbrev pub turn_place : Settings → List Entry → ℕ → List (Option Connection) → Option ℕ
turn_place s h place cs = if is_some (due_at s h (connection_at cs place)) then Some place else first_due s h 0 cs

abbrev pub taken_at : ℕ → Turn → Desk → Desk
taken_at place turn d = record {
  history = turn.history;
  connections = slice_set d.connections place (Some turn.connection);
  output = d.output ++ turn.written;
}

abbrev pub with_turn : ℕ → Desk → Connection → Option Due → Desk
with_turn place d c None = d
with_turn place d c (Some due) = taken_at place (turn_for (place + 1) d.history c due) d

abbrev pub turn_of : Settings → Desk → ℕ → Option Connection → Desk
turn_of s d place None = d
turn_of s d place (Some c) = with_turn place d c (due_on s d.history c)

-- One answer, if there is one.
abbrev pub after_answer_at : Settings → Option ℕ → Desk → Desk
after_answer_at s None d = d
after_answer_at s (Some place) d = turn_of s d place (connection_at d.connections place)

abbrev pub after_answer : Settings → ℕ → Desk → Desk
after_answer s place d = after_answer_at s (turn_place s d.history place d.connections) d

-- The first `n` answers after a delivery to the connection at `place`.
abbrev pub answers : Settings → ℕ → ℕ → Desk → Desk
answers s place zero d = d
answers s place (suc n) d = after_answer s place (answers s place n d)

abbrev pub left_at : Option Connection → ℕ
left_at None = 0
left_at (Some c) = left_on c

abbrev pub most_left : List (Option Connection) → ℕ
most_left cs = sum_by left_at cs

-- As many answers as the connections have left.
abbrev pub after_all_answers : Settings → ℕ → Desk → Desk
after_all_answers s place d = answers s place (most_left d.connections) d

-- ---- Lines.

abbrev pub number_of : Delivery → ℕ
number_of (Open number role) = number
number_of (Text number bytes) = number
number_of (Close number) = number

abbrev pub line_place : Delivery → ℕ
line_place delivery = place_of (number_of delivery)

-- The connection after a line of its number, and what is written at once.
abbrev pub slot_after : Delivery → Option Connection → Option Connection
slot_after (Open number role) c = Some (new_connection role)
slot_after (Text number bytes) c = option_map (gets bytes) c
slot_after (Close number) c = option_map closes c

abbrev pub told_at_once : Delivery → Option Connection → Option End
told_at_once (Open number role) c = None
told_at_once (Text number bytes) c = None
told_at_once (Close number) c = option_and_then end_at_close c

-- The connections after a line, and the output's line if the delivery ends its connection at once.
abbrev pub connections_after : Delivery → List (Option Connection) → List (Option Connection)
connections_after delivery cs = slice_set cs (line_place delivery) (slot_after delivery (connection_at cs (line_place delivery)))

abbrev pub end_at_once : Delivery → Option Connection → List ℕ
end_at_once delivery c = end_line (number_of delivery) (told_at_once delivery c)

abbrev pub after_delivery : Delivery → Desk → Desk
after_delivery delivery d = let c = connection_at d.connections (line_place delivery) in record {
  history = d.history;
  connections = slice_set d.connections (line_place delivery) (slot_after delivery c);
  output = d.output ++ end_line (number_of delivery) (told_at_once delivery c);
}

abbrev pub after_line : Settings → Desk → Delivery → Desk
after_line s d delivery = after_all_answers s (line_place delivery) (after_delivery delivery d)

-- ---- Scripts.

abbrev pub nobody : List (Option Connection)
nobody = replicate most_connections None

abbrev pub begin : List Entry → Desk
begin h = record { history = h; connections = nobody; output = [] }

abbrev pub script_run : Settings → List Entry → List Delivery → Desk
script_run s h lines = fold (after_line s) (begin h) lines

-- At the end of a script, a line for each connection that has not ended, in order of number.
abbrev pub last_lines : ℕ → List (Option Connection) → List ℕ
last_lines number [] = []
last_lines number (c ∷ cs) = end_line number (option_and_then last_end c) ++ last_lines (number + 1) cs

abbrev pub output_of : Desk → List ℕ
output_of d = d.output ++ last_lines 1 d.connections

-- The output of a replay, and the history that it leaves.
abbrev pub script_bytes : Settings → List Entry → List Delivery → List ℕ
script_bytes s h lines = output_of (script_run s h lines)

abbrev pub script_history : Settings → List Entry → List Delivery → List Entry
script_history s h lines = (script_run s h lines).history

-- The same of a replay to a share.
abbrev pub replay_bytes : Shared → List Delivery → List ℕ
replay_bytes share lines = script_bytes share.settings share.history lines

abbrev pub replay_history : Shared → List Delivery → List Entry
replay_history share lines = script_history share.settings share.history lines
