-- A replay at two moments: what a call changed, and what it had changed when it failed.
use Rattle.std.specs.Prelude.{◌≡◌, ◌⊎◌, ◌<◌, ◌≤◌, ℕ, List, true, is_some, Option, Some}
use Rattle.outside_net.specs.Bounds.{Sinks}
use Rattle.item_model.specs.declared.changes.Entry.{Entry}
use Rattle.share_replies.specs.Answers.{Shared}
use Rattle.share_replies.specs.Settings.{Settings}
use Rattle.share_replay.specs.Connections.{Connection}
use Rattle.share_replay.specs.Machine.{Desk, after_answer_at, after_delivery, answers, connection_at, due_at, first_due, line_place, most_left}
use Rattle.share_replay.specs.Played.{BreaksOff, HasAnswered, IsAt, IsBrokenOff, IsPart, SlotAnswered, SlotBreaksOff}
use Rattle.share_replay.specs.declared.delivery.Delivery.{Delivery}

-- The share's history, the state of a connection or of all, and the bytes that the output took.
pub record Moment (C : Type 0) : Type 0 where
  pub history : List Entry
  pub state : C
  pub taken : Option (List ℕ)

abbrev pub moment_of : {W C : Type 0} → Sinks W → Shared → C → W → Moment C
moment_of g share state sink = record { history = share.history; state = state; taken = g.taken sink }

-- ---- One connection, and the connection at an index.

-- The next answer was given.
abbrev pub AnswersOn : Settings → ℕ → Moment Connection → Moment Connection → Type 0
AnswersOn s number old new = HasAnswered s number old.history old.state new.history new.state old.taken new.taken

abbrev pub AnswersSlot : Settings → ℕ → Moment (Option Connection) → Moment (Option Connection) → Type 0
AnswersSlot s number old new = SlotAnswered s number old.history old.state new.history new.state old.taken new.taken

-- No answer was given, or the next one was and a prefix of it written.
abbrev pub BreaksOn : Settings → ℕ → Moment Connection → Moment Connection → Type 0
BreaksOn s number old new = BreaksOff s number old.history old.state new.history old.taken new.taken

abbrev pub BreaksSlot : Settings → ℕ → Moment (Option Connection) → Moment (Option Connection) → Type 0
BreaksSlot s number old new = SlotBreaksOff s number old.history old.state new.history old.taken new.taken

-- ---- The machine, for each state that it may have reached and each output that it may have begun with.

abbrev pub MachineMoment : Type 0
MachineMoment = Moment (List (Option Connection))

-- It moved on to the state `next` of the one that it had reached.
abbrev pub MovesMachine : (next : Desk → Desk) → MachineMoment → MachineMoment → Type 0
MovesMachine next old new =
    (d : Desk) (start : Option (List ℕ)) → IsAt d old.history old.state start old.taken
    → IsAt (next d) new.history new.state start new.taken

-- It stopped within the answers to a line, or within the answers after a delivery to the connection at `place`.
abbrev pub BreaksLine : Settings → Delivery → MachineMoment → MachineMoment → Type 0
BreaksLine s line old new =
    (d : Desk) (start : Option (List ℕ)) → IsAt d old.history old.state start old.taken
    → (k : ℕ) × (k ≤ most_left (after_delivery line d).connections)
    × IsPart (answers s (line_place line) k (after_delivery line d)) new.history start new.taken

abbrev pub BreaksAnswers : Settings → ℕ → MachineMoment → MachineMoment → Type 0
BreaksAnswers s place old new =
    (d : Desk) (start : Option (List ℕ)) → IsAt d old.history old.state start old.taken
    → (k : ℕ) × (k ≤ most_left old.state) × IsPart (answers s place k d) new.history start new.taken

-- It stopped before or within one answer, on the first connection that has one, or on the connection at `place`.
abbrev pub BreaksFirst : Settings → MachineMoment → MachineMoment → Type 0
BreaksFirst s old new =
    (d : Desk) (start : Option (List ℕ)) → IsAt d old.history old.state start old.taken
    → IsPart d new.history start new.taken
    ⊎ ((0 < most_left old.state)
    × IsPart (after_answer_at s (first_due s old.history 0 old.state) d) new.history start new.taken)

abbrev pub BreaksAt : Settings → ℕ → MachineMoment → MachineMoment → Type 0
BreaksAt s place old new =
    (d : Desk) (start : Option (List ℕ)) → IsAt d old.history old.state start old.taken
    → IsPart d new.history start new.taken
    ⊎ ((is_some (due_at s old.history (connection_at old.state place)) ≡ true) × (0 < most_left old.state)
    × IsPart (after_answer_at s (Some place) d) new.history start new.taken)

-- ---- A whole script.

-- The share has the history of the machine after some of its answers, and a prefix of their output was written.
abbrev pub BreaksScript : {W : Type 0} → Sinks W → List Delivery → Shared → Shared → W → W → Type 0
BreaksScript g lines share share' old new =
    IsBrokenOff share.settings share.history lines share'.history (g.taken old) (g.taken new)
