-- A connection of a replay: the bytes that came over it, and how many of its requests were answered. Its requests are
-- the reading of all these bytes, however many lines brought them.
use Rattle.std.specs.Prelude.{ℕ, List, [], ◌++◌, length, Bool, true, false, ◌==◌, ◌&&◌, ◌||◌, not, is_some, unwrap_or, Option, Some, None, if◌then◌else◌}
use Rattle.std.specs.List.{slice_get}
use Rattle.http_heads.specs.declared.refusal.HeadError.{HeadError}
use Rattle.http_front.specs.Readings.{Reading}
use Rattle.http_front.proofs.Decided.{reading_of}
use Rattle.share_asks.specs.declared.ask.Ask.{Ask}
use Rattle.share_asks.specs.declared.ask.Role.{Role}
use Rattle.share_replay.specs.declared.ends.End.{End}
use Rattle.share_replay.specs.declared.ends.End.TheVariants.{Closed, Cut, Held}

pub record Connection : Type 0 where
  pub role : Role
  -- all bytes that were delivered
  pub bytes : List ℕ
  -- how many of its requests were answered
  pub served : ℕ
  -- whether its input has ended
  pub is_closed : Bool
  -- whether the connection has ended: no more requests are answered
  pub is_ended : Bool

abbrev pub new_connection : Role → Connection
new_connection role = record { role = role; bytes = []; served = 0; is_closed = false; is_ended = false }

abbrev pub reading_on : Connection → Reading
reading_on c = reading_of c.role c.bytes

-- The first request that was not answered.
abbrev pub next_ask : Connection → Option Ask
next_ask c = slice_get (reading_on c).asks c.served

-- The next request, and the error of the bytes after all requests; `None` if the connection has ended.
abbrev pub asked_on : Connection → Option Ask
asked_on c = if c.is_ended then None else next_ask c

abbrev pub fault_on : Connection → Option HeadError
fault_on c = if c.is_ended then None else (reading_on c).fault

-- No bytes of the connection need an answer.
abbrev pub is_idle : Connection → Bool
is_idle c = not (is_some (next_ask c)) && not (is_some (reading_on c).fault)

-- Bytes come over the connection; they are ignored if it was closed or has ended.
abbrev pub gets : List ℕ → Connection → Connection
gets more c = if c.is_closed || c.is_ended then c else record c { bytes = c.bytes ++ more }

-- How an idle connection ends at the end of its input: between two requests, or inside one.
abbrev pub end_of_bytes : Connection → End
end_of_bytes c = if length (reading_on c).rest == 0 then Closed else Cut (length c.bytes)

abbrev pub end_if_idle : Connection → Option End
end_if_idle c = if is_idle c then Some (end_of_bytes c) else None

-- How a closed connection ends, if it is idle.
abbrev pub end_of_input : Connection → Option End
end_of_input c = if c.is_closed then end_if_idle c else None

abbrev pub ended_by : Option End → Connection → Connection
ended_by end c = record c { is_ended = is_some end }

-- Its input ends. The connection ends at once if it is idle, and the output says so.
abbrev pub shut : Connection → Connection
shut c = record c { is_closed = true }

abbrev pub closes : Connection → Connection
closes c = if c.is_closed || c.is_ended then c else ended_by (end_of_input (shut c)) (shut c)

abbrev pub end_at_close : Connection → Option End
end_at_close c = if c.is_closed || c.is_ended then None else end_of_input (shut c)

-- How a connection ends at the end of a script, unless it has ended already. Its update may still be pending.
abbrev pub last_end : Connection → Option End
last_end c = if c.is_ended then None else Some (unwrap_or (end_if_idle c) Held)
