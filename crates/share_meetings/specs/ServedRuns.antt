-- What a share sends to a client that follows it: its replies, one after the other, at lengths of its history that
-- never decrease.
use Rattle.std.specs.Prelude.{◌≡◌, ⊤, ℕ, List, [], ◌∷◌, ◌++◌, Bool, Option}
use Rattle.item_model.specs.declared.changes.Entry.{Entry}
use Rattle.item_model.specs.declared.query.Query.{Query}
use Rattle.item_model.specs.declared.request.Meta.{Meta}
use Rattle.item_model.specs.declared.request.Target.{Target}
use Rattle.share_asks.specs.declared.ask.Want.{Want}
use Rattle.share_asks.specs.declared.ask.Want.TheVariants.{Codes, Login, Logout, Update, Rows}
use Rattle.share_history.specs.Histories.{batches, revision}
use Rattle.share_history.specs.Mirror.{mirror_look}
use Rattle.share_history.specs.Sessions.{next_session}
use Rattle.share_replies.specs.Settings.{Settings}
use Rattle.share_replies.specs.Replies.{Reply, Replies, answer_to}
use Rattle.reply_bytes.specs.ReplyBytes.{reply_bytes}

-- The status of the success that a client expects.
abbrev pub due_status : Want → ℕ
due_status (Logout session) = 204
due_status want = 200

-- The bytes are the share's reply at a length of its history, with the expected status, and then a rest. The reply
-- may say that the connection ends after it.
pub record Serves (s : Settings) (want : Want) (h : List Entry) (bytes rest : List ℕ) : Type 0 where
  pub reply : Reply
  pub last : Bool
  pub answers : answer_to s h want ≡ Replies reply
  pub succeeds : reply.status ≡ due_status want
  pub spelled : bytes ≡ reply_bytes reply last ++ rest

-- A round: the history that the listing was answered at, and that of the answer after it.
abbrev pub Round : Type 0
Round = List Entry × List Entry

-- After the last round the client requests the logout, after each other one the next revision.
abbrev pub asked_behind : ℕ → ℕ → List Round → Want
asked_behind session base [] = Logout session
asked_behind session base (r ∷ rs) = Update session base

-- Rounds of the target's listing. The base of each is the revision of the one before.
abbrev pub ServesRounds : Settings → ℕ → Target → Option Query → Meta → ℕ → List Round → List ℕ → Type 0
ServesRounds s session target query meta base [] bytes = bytes ≡ []
ServesRounds s session target query meta base (r ∷ rs) bytes =
    (mid rest : List ℕ) × Serves s (Rows session target (mirror_look query meta base)) r.0 bytes mid
    × Serves s (asked_behind session (revision (batches r.0)) rs) r.1 mid rest
    × ServesRounds s session target query meta (revision (batches r.0)) rs rest

abbrev pub points_of : List Round → List (List Entry)
points_of [] = []
points_of (r ∷ rs) = r.0 ∷ r.1 ∷ points_of rs

-- Each history is a prefix of the next one, and the last of `h`.
abbrev pub first_of : List (List Entry) → List Entry → List Entry
first_of [] h = h
first_of (p ∷ ps) h = p

abbrev pub Rise : List (List Entry) → List Entry → Type 0
Rise [] h = ⊤
Rise (p ∷ ps) h = ((later : List Entry) × (first_of ps h ≡ p ++ later)) × Rise ps h

-- The bytes are all that a share sends to a client that learns its table, logs in, follows a listing for one round or
-- more, and logs out.
pub record ServesRun (s : Settings) (target : Target) (query : Option Query) (meta : Meta) (h : List Entry) (bytes : List ℕ) : Type 0 where
  pub table : List Entry
  pub login : List Entry
  pub first : Round
  pub others : List Round
  pub behind_table : List ℕ
  pub behind_login : List ℕ
  pub told : Serves s Codes table bytes behind_table
  pub entered : Serves s Login login behind_table behind_login
  pub rounds : ServesRounds s (next_session login) target query meta 0 (first ∷ others) behind_login
  pub rise : Rise (table ∷ login ∷ points_of (first ∷ others)) h
