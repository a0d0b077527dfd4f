-- Laws of all replies.
use Rattle.std.specs.Prelude.{◌≡◌, ℕ, List, [], ◌++◌, length, codes, Bool, true, false}
use Rattle.item_model.specs.declared.changes.Entry.{Entry}
use Rattle.http_heads.specs.declared.refusal.HeadError.{HeadError}
use Rattle.share_asks.specs.declared.ask.Verb.TheVariants.{Post}
use Rattle.share_asks.specs.declared.ask.Want.{Want}
use Rattle.share_replies.specs.Settings.{Settings}
use Rattle.share_replies.specs.Replies.{Reply, Replies, Allowed, Line, answer_to}
use Rattle.http_front.specs.ReplyHeads.{HasReason}
use Rattle.reply_bytes.specs.ReplyBytes.{body_bytes, reply_bytes, failure_bytes, status_of}

-- each status of a share's reply has a reason phrase
abbrev pub RepliesHaveReasons : Type 0
RepliesHaveReasons = (s : Settings) (h : List Entry) (want : Want) (reply : Reply) → answer_to s h want ≡ Replies reply → HasReason reply.status

-- and so has that of each refusal
abbrev pub RefusalsHaveReasons : Type 0
RefusalsHaveReasons = (error : HeadError) → HasReason (status_of error)

-- a head of status 204 states no length: no reply of that status has a body
abbrev pub EmptyRepliesAreEmpty : Type 0
EmptyRepliesAreEmpty =
    (s : Settings) (h : List Entry) (want : Want) (reply : Reply) → answer_to s h want ≡ Replies reply → reply.status ≡ 204
    → body_bytes reply.body ≡ []

-- some replies byte by byte
abbrev pub RepliesByTheByte : Type 0
RepliesByTheByte =
    (reply_bytes (record { status = 405; body = Allowed Post; session = 0 }) false
    ≡ codes "HTTP/1.1 405 Method Not Allowed\r\nContent-Length: 0\r\nAllow: POST\r\n\r\n")
    × (reply_bytes (record { status = 400; body = Line (codes "query: at 3\n"); session = 7 }) true
    ≡ codes "HTTP/1.1 400 Bad Request\r\nContent-Type: text/plain\r\nContent-Length: 12\r\nConnection: close\r\n\r\nquery: at 3\n")
    × (failure_bytes true ≡ codes "HTTP/1.1 500 Internal Server Error\r\nContent-Length: 0\r\nConnection: close\r\n\r\n")
