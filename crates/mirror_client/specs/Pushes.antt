-- An edit or a stop that is pushed to a share: its request, which carries the given bytes unchanged, and the outcome
-- by the answer.
use Rattle.std.specs.Prelude.{◌≡◌, ◌≢◌, ⊤, ℕ, List, [], codes, Option, Some, None}
use Rattle.dmap_tags.specs.Codes.{code}
use Rattle.code_table.specs.Standard.{standard_rows}
use Rattle.share_asks.specs.declared.ask.Verb.TheVariants.{Post}
use Rattle.http_client.specs.Replies.{Reply}
use Rattle.http_client.specs.Requests.{message_text}
use Rattle.mirror_client.specs.declared.pushing.Pushed.{Pushed}
use Rattle.mirror_client.specs.declared.pushing.Pushed.TheVariants as pushed
use Rattle.mirror_client.specs.declared.refusal.FollowError.{FollowError}
use Rattle.mirror_client.specs.declared.refusal.FollowError.TheVariants.{Refused, BadReply, Ended, Listing, Codes, LinkFault, Memory}
use Rattle.mirror_client.specs.Tellings.{HasNoNumber, IsBadBody, TellsNumber}

-- An edit has a body, a stop has none.
abbrev pub push_path : Option (List ℕ) → List ℕ
push_path (Some body) = codes "/edit"
push_path None = codes "/stop"

abbrev pub push_body : Option (List ℕ) → List ℕ
push_body (Some body) = body
push_body None = []

unfoldable pub push_text : Option (List ℕ) → List ℕ → List ℕ
push_text body host = message_text Post (push_path body) host (push_body body)

-- The status and the text of the answer.
abbrev pub IsAsTold : Reply → ℕ → List ℕ → Type 0
IsAsTold answer status text = (status ≡ answer.0) × (text ≡ answer.1)

-- The outcome of an edit, and of a stop, by the answer. The number is the revision that the edit made.
abbrev pub IsEdited : Reply → Pushed → Type 0
IsEdited answer (pushed.Revision n) = TellsNumber (code "musr") standard_rows answer n
IsEdited answer pushed.Unchanged = answer.0 ≡ 204
IsEdited answer pushed.Stopped = ⊥
IsEdited answer (pushed.Refused status text) = IsAsTold answer status text × (status ≢ 200) × (status ≢ 204)

abbrev pub IsStopped : Reply → Pushed → Type 0
IsStopped answer (pushed.Revision n) = ⊥
IsStopped answer pushed.Unchanged = ⊥
IsStopped answer pushed.Stopped = answer.0 ≡ 204
IsStopped answer (pushed.Refused status text) = IsAsTold answer status text × (status ≢ 204)

abbrev pub IsPushed : Option (List ℕ) → Reply → Pushed → Type 0
IsPushed (Some body) answer p = IsEdited answer p
IsPushed None answer p = IsStopped answer p

-- Only a success without a revision is unexpected.
abbrev pub UnexpectedEdit : ℕ → Reply → FollowError → Type 0
UnexpectedEdit used answer (Refused status) = ⊥
UnexpectedEdit used answer (BadReply at) = IsBadBody used answer at × HasNoNumber (code "musr") standard_rows answer.1
UnexpectedEdit used answer (Ended at) = ⊥
UnexpectedEdit used answer (Listing error) = ⊥
UnexpectedEdit used answer (Codes error) = ⊥
UnexpectedEdit used answer LinkFault = ⊥
UnexpectedEdit used answer Memory = ⊤

abbrev pub UnexpectedPush : Option (List ℕ) → ℕ → Reply → FollowError → Type 0
UnexpectedPush (Some body) used answer e = UnexpectedEdit used answer e
UnexpectedPush None used answer e = ⊥
