-- What a share replies, as a function of its settings, its history and the request: the first refusal that applies,
-- in the order of `refusal`, otherwise the row of `success`. An update of the present revision is pending.
use Rattle.std.specs.Prelude.{ℕ, List, [], ◌∷◌, ◌++◌, Bool, false, ◌&&◌, ◌==◌, not, Option, Some, None, Ok, Err, if◌then◌else◌}
use Rattle.std.specs.Option.{option_or, option_map_or}
use Rattle.dmap_tags.specs.Tree.{Tree}
use Rattle.code_table.specs.Standard.{standard_rows}
use Rattle.code_table.specs.Reply.{table_reply}
use Rattle.item_model.specs.declared.changes.Entry.{Entry}
use Rattle.share_history.specs.Histories.{batches, all_edits, revision}
use Rattle.share_history.specs.LastSaid.{only_if}
use Rattle.share_history.specs.Rows.{is_there}
use Rattle.share_history.specs.Limits.{is_below_entry_limit, takes_batch}
use Rattle.share_history.specs.Sessions.{is_live, is_stopped, next_session}
use Rattle.share_history.specs.Bodies.{listing_body}
use Rattle.share_history.specs.Databases.{databases_body, containers_body}
use Rattle.share_history.specs.BrowseListings.{browse_body}
use Rattle.fault_lines.specs.Queries.{query_line}
use Rattle.fault_lines.specs.Records.{records_line}
use Rattle.fault_lines.specs.Parameters.{parameter_line}
use Rattle.share_asks.specs.declared.ask.AskError.{AskError}
use Rattle.share_asks.specs.declared.ask.AskError.TheVariants.{Path, Method, Parameter, Query}
use Rattle.share_asks.specs.declared.ask.Verb.{Verb}
use Rattle.share_asks.specs.declared.ask.Want.{Want}
use Rattle.share_asks.specs.declared.ask.Want.TheVariants.{ServerInfo, Codes, Login, Logout, Update, Databases, Rows, Lists, Values, Edit, Stop, Bad}
use Rattle.share_replies.specs.Settings.{Settings}
use Rattle.share_replies.specs.SmallBodies.{server_info_body, login_body, revision_body}

pub data Body : Type 0 where
  Nothing : Body
  -- no body; the head states the allowed method
  Allowed : (allow : Verb) → Body
  Line : (text : List ℕ) → Body
  Tagged : (tag : Tree) → Body

pub record Reply : Type 0 where
  pub status : ℕ
  pub body : Body
  -- the session that is answered, or 0
  pub session : ℕ

pub data Answer : Type 0 where
  Replies : (reply : Reply) → Answer
  Holds : Answer

-- the session that a request needs, if it needs one
abbrev pub needed : Want → Option ℕ
needed ServerInfo = None
needed Codes = None
needed Login = None
needed (Logout session) = Some session
needed (Update session number) = Some session
needed (Databases session) = Some session
needed (Rows session target look) = Some session
needed (Lists session) = Some session
needed (Values session browse query) = Some session
needed (Edit body) = None
needed Stop = None
needed (Bad fault) = None

abbrev pub fault_reply : AskError → ℕ × Body
fault_reply Path = (404, Nothing)
fault_reply (Method allow) = (405, Allowed allow)
fault_reply (Parameter name) = (400, Line (parameter_line name))
fault_reply (Query error) = (400, Line (query_line error))

-- the error of the request itself
abbrev pub request_fault : Want → Option (ℕ × Body)
request_fault (Bad fault) = Some (fault_reply fault)
request_fault want = None

abbrev pub lacks_session : List Entry → Want → Bool
lacks_session h want = option_map_or (λ session. not (is_live h session)) (needed want) false

abbrev pub lacks_container : List Entry → Want → Bool
lacks_container h (Rows session target look) = not (is_there (all_edits h) target)
lacks_container h want = false

abbrev pub records_fault : Want → Option (ℕ × Body)
records_fault (Edit (Err error)) = Some (400, Line (records_line error))
records_fault want = None

abbrev pub meets_limit : List Entry → Want → Bool
meets_limit h Login = not (is_below_entry_limit h)
meets_limit h (Edit (Ok (e ∷ es))) = not (takes_batch h (e ∷ es))
meets_limit h want = false

abbrev pub first_of : {A : Type 0} → List (Option A) → Option A
first_of [] = None
first_of (found ∷ rest) = option_or found (first_of rest)

abbrev pub refusal : List Entry → Want → Option (ℕ × Body)
refusal h want =
    first_of
    (only_if (is_stopped h) (503, Nothing) ∷ request_fault want ∷ only_if (lacks_session h want) (403, Nothing)
    ∷ only_if (lacks_container h want) (404, Nothing) ∷ records_fault want ∷ only_if (meets_limit h want) (507, Nothing) ∷ [])

abbrev pub success : Settings → List Entry → Want → ℕ × Body
success s h ServerInfo = (200, Tagged (server_info_body s.name))
success s h Codes = (200, Tagged (table_reply standard_rows))
success s h Login = (200, Tagged (login_body (next_session h)))
success s h (Logout session) = (204, Nothing)
success s h (Update session number) = (200, Tagged (revision_body (revision (batches h))))
success s h (Databases session) = (200, Tagged (databases_body s.name h))
success s h (Rows session target look) = (200, Tagged (listing_body s.keep h target look))
success s h (Lists session) = (200, Tagged (containers_body s.name h))
success s h (Values session browse query) = (200, Tagged (browse_body h browse query))
success s h (Edit (Ok [])) = (204, Nothing)
success s h (Edit (Ok (e ∷ es))) = (200, Tagged (revision_body (revision (batches h ++ (e ∷ es) ∷ []))))
-- never reached, like `Bad`: both are refused
success s h (Edit (Err error)) = (400, Line (records_line error))
success s h (Bad fault) = fault_reply fault
success s h Stop = (204, Nothing)

abbrev pub is_held : List Entry → Want → Bool
is_held h (Update session number) = number == revision (batches h)
is_held h want = false

-- the session of a reply, granted or refused: the one that the request needs, if it is live and the share is not
-- stopped; for a login within the limit, the new one
abbrev pub session_of : List Entry → Want → ℕ
session_of h Login = if not (is_stopped h) && is_below_entry_limit h then next_session h else 0
session_of h want = option_map_or (λ session. if not (is_stopped h) && is_live h session then session else 0) (needed want) 0

abbrev pub reply_with : List Entry → Want → ℕ × Body → Answer
reply_with h want told = Replies (record { status = told.0; body = told.1; session = session_of h want })

abbrev pub answer_to : Settings → List Entry → Want → Answer
answer_to s h want = option_map_or (reply_with h want) (refusal h want) (if is_held h want then Holds else reply_with h want (success s h want))
