-- Laws that follow from the definition of a reply, proved for all settings, histories and requests.
use Rattle.std.specs.Prelude.{◌≡◌, ℕ, List, [], ◌∷◌, ◌++◌, length, codes, ◌==◌, Bool, true, false, Some, None}
use Rattle.dmap_tags.specs.Spelling.{spelling}
use Rattle.item_model.specs.declared.changes.Entry.{Entry}
use Rattle.item_model.specs.declared.changes.Entry.TheVariants as entry
use Rattle.share_history.specs.Sessions.{is_live, is_stop, is_stopped}
use Rattle.share_asks.specs.declared.ask.Want.{Want}
use Rattle.share_asks.specs.declared.ask.Want.TheVariants.{ServerInfo, Codes, Login, Logout, Update, Databases, Rows, Lists, Values, Edit, Stop, Bad}
use Rattle.share_replies.specs.Settings.{Settings}
use Rattle.share_replies.specs.SmallBodies.{server_info_body, login_body, revision_body}
use Rattle.share_replies.specs.Replies.{Reply, Replies, Holds, Nothing, needed, answer_to}
use Rattle.share_replies.specs.Added.{adds}

-- no reply has the status for an allocation failure
abbrev pub NoReplyIsAFailure : Type 0
NoReplyIsAFailure = (s : Settings) (h : List Entry) (want : Want) (reply : Reply) → answer_to s h want ≡ Replies reply → (reply.status == 500) ≡ false

-- a stopped share refuses every request, adds nothing, and replies to no session
abbrev pub StoppedSharesRefuse : Type 0
StoppedSharesRefuse =
    (s : Settings) (h : List Entry) (by : ℕ) (want : Want) → is_stopped h ≡ true
    → (answer_to s h want ≡ Replies (record { status = 503; body = Nothing; session = 0 })) × (adds h by want ≡ None)

-- a request that needs a session is refused, for no session, if the session is not live
abbrev pub OthersAreForbidden : Type 0
OthersAreForbidden =
    (s : Settings) (h : List Entry) (want : Want) (session : ℕ) → is_stopped h ≡ false → needed want ≡ Some session → is_live h session ≡ false
    → answer_to s h want ≡ Replies (record { status = 403; body = Nothing; session = 0 })

-- the number of the handle that made an entry
abbrev pub maker : Entry → ℕ
maker (entry.Edits by batch) = by
maker (entry.Login by id) = by
maker (entry.Logout by id) = by
maker (entry.Stop by) = by

-- the entry of an answer is of the handle that asked
abbrev pub EntriesAreTheAskers : Type 0
EntriesAreTheAskers = (h : List Entry) (by : ℕ) (want : Want) (e : Entry) → adds h by want ≡ Some e → maker e ≡ by

abbrev pub is_edit : Entry → Bool
is_edit (entry.Edits by batch) = true
is_edit (entry.Login by id) = false
is_edit (entry.Logout by id) = false
is_edit (entry.Stop by) = false

-- the operations that change a share: an edit and the stop
abbrev pub is_change : Want → Bool
is_change ServerInfo = false
is_change Codes = false
is_change Login = false
is_change (Logout session) = false
is_change (Update session number) = false
is_change (Databases session) = false
is_change (Rows session target look) = false
is_change (Lists session) = false
is_change (Values session browse query) = false
is_change (Edit body) = true
is_change Stop = true
is_change (Bad fault) = false

-- no other operation edits or stops a share
abbrev pub ReadersChangeNothing : Type 0
ReadersChangeNothing =
    (h : List Entry) (by : ℕ) (want : Want) (e : Entry) → is_change want ≡ false → adds h by want ≡ Some e → (is_edit e ≡ false) × (is_stop e ≡ false)

-- a pending update adds nothing
abbrev pub HeldWantsAddNothing : Type 0
HeldWantsAddNothing = (s : Settings) (h : List Entry) (by : ℕ) (want : Want) → answer_to s h want ≡ Holds → adds h by want ≡ None

-- the body of the first login, byte by byte, that of the revision after the first edit, and the length of the server
-- information of a share with a name of one byte
abbrev pub SmallBodiesByTheByte : Type 0
SmallBodiesByTheByte =
    (spelling (login_body 1)
    ≡ codes "mlog" ++ 0 ∷ 0 ∷ 0 ∷ 24 ∷ codes "mstt" ++ 0 ∷ 0 ∷ 0 ∷ 4 ∷ 0 ∷ 0 ∷ 0 ∷ 200 ∷ codes "mlid" ++ 0 ∷ 0 ∷ 0 ∷ 4 ∷ 0 ∷ 0 ∷ 0 ∷ 1 ∷ [])
    × (spelling (revision_body 3)
    ≡ codes "mupd" ++ 0 ∷ 0 ∷ 0 ∷ 24 ∷ codes "mstt" ++ 0 ∷ 0 ∷ 0 ∷ 4 ∷ 0 ∷ 0 ∷ 0 ∷ 200 ∷ codes "musr" ++ 0 ∷ 0 ∷ 0 ∷ 4 ∷ 0 ∷ 0 ∷ 0 ∷ 3 ∷ [])
    × (length (spelling (server_info_body (codes "S"))) ≡ 131)
