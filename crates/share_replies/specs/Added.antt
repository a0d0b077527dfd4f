-- What an answer adds to the history: nothing if the request is refused, otherwise the one entry of a login, a
-- logout, a batch with edits, or a stop.
use Rattle.std.specs.Prelude.{ℕ, List, ◌∷◌, ◌++◌, Option, Some, None, is_some, Ok, if◌then◌else◌}
use Rattle.std.specs.Option.{option_to_list}
use Rattle.item_model.specs.declared.changes.Entry.{Entry}
use Rattle.item_model.specs.declared.changes.Entry.TheVariants as entry
use Rattle.share_history.specs.Sessions.{next_session}
use Rattle.share_asks.specs.declared.ask.Want.{Want}
use Rattle.share_asks.specs.declared.ask.Want.TheVariants.{Login, Logout, Edit, Stop}
use Rattle.share_replies.specs.Replies.{refusal}

-- the entry of a success, made by handle number `by`
abbrev pub made_by : ℕ → List Entry → Want → Option Entry
made_by by h Login = Some (entry.Login by (next_session h))
made_by by h (Logout session) = Some (entry.Logout by session)
made_by by h (Edit (Ok (e ∷ es))) = Some (entry.Edits by (e ∷ es))
made_by by h Stop = Some (entry.Stop by)
made_by by h want = None

abbrev pub adds : List Entry → ℕ → Want → Option Entry
adds h by want = if is_some (refusal h want) then None else made_by by h want

-- the history after the answer
abbrev pub after : List Entry → ℕ → Want → List Entry
after h by want = h ++ option_to_list (adds h by want)
