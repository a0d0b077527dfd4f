-- What a framed head determines: the length of the body after it, or why it is refused.
use Rattle.std.specs.Prelude.{◌≡◌, ◌<◌, ◌≤◌, ◌⊎◌, ℕ, List, [], length, Option, Some, None, Result, Ok, Err}
use Rattle.httparse.specs.Grammar.{RequestHead, ReadsRequest, ResponseHead, ReadsResponse, status_code}
use Rattle.http_heads.specs.declared.kind.Kind.{Kind}
use Rattle.http_heads.specs.declared.kind.Kind.TheVariants.{Request, Reply}
use Rattle.http_heads.specs.declared.refusal.HeadError.{HeadError}
use Rattle.http_heads.specs.declared.refusal.HeadError.TheVariants.{Head, Length, BodyTooLarge, HeadTooLarge, Memory}
use Rattle.http_heads.specs.Fields.{fields_of, body_length, reply_length}
use Rattle.http_heads.specs.Limits.{field_limit, line_limit}

-- the bytes are exactly this request's head
abbrev pub IsHead : List ℕ → RequestHead → Type 0
IsHead bytes h = ReadsRequest bytes h [] × (length h.fields ≤ field_limit)

abbrev pub HasNoHead : List ℕ → Type 0
HasNoHead bytes = (h : RequestHead) → IsHead bytes h → ⊥

-- the same for a reply's head
abbrev pub IsReplyHead : List ℕ → ResponseHead → Type 0
IsReplyHead bytes h = ReadsResponse bytes h [] × (length h.fields ≤ field_limit)

abbrev pub HasNoReplyHead : List ℕ → Type 0
HasNoReplyHead bytes = (h : ResponseHead) → IsReplyHead bytes h → ⊥

abbrev pub reply_tells : ResponseHead → Option ℕ
reply_tells h = reply_length (status_code h) (fields_of h.fields)

-- the bytes are not a head of a reply, or one whose body has no valid length
abbrev pub RefusesReply : List ℕ → Type 0
RefusesReply front = HasNoReplyHead front ⊎ ((h : ResponseHead) × IsReplyHead front h × (reply_tells h ≡ None))

-- the bytes are a head whose body has this length, or this error
abbrev pub Answers : List ℕ → Result ℕ HeadError → Type 0
Answers front answer = (h : RequestHead) × IsHead front h × (body_length (fields_of h.fields) ≡ answer)

-- why a framed head within the limit on lines is refused
abbrev pub RefusesRead : List ℕ → HeadError → Type 0
RefusesRead front Head = HasNoHead front
RefusesRead front Length = Answers front (Err Length)
RefusesRead front BodyTooLarge = Answers front (Err BodyTooLarge)
RefusesRead front HeadTooLarge = ⊥
RefusesRead front Memory = ⊥

-- the body's length after a framed head with `lines` full lines, or the error
abbrev pub Tells : Kind → List ℕ → ℕ → Result ℕ HeadError → Type 0
Tells Request front lines (Ok n) = (lines ≤ line_limit) × Answers front (Ok n)
Tells Request front lines (Err e) = ((line_limit < lines) × (e ≡ HeadTooLarge)) ⊎ ((lines ≤ line_limit) × RefusesRead front e)
Tells Reply front lines (Ok n) = (h : ResponseHead) × IsReplyHead front h × (reply_tells h ≡ Some n)
Tells Reply front lines (Err e) = (e ≡ Head) × RefusesReply front
