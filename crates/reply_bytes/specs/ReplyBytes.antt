-- A reply as the bytes of a connection: its head, whose fields depend on the body, and the body (RFC 9112, section
-- 6). The last reply of a connection announces in its head that it closes.
use Rattle.std.specs.Prelude.{ℕ, List, [], ◌++◌, length, Bool, true}
use Rattle.dmap_tags.specs.Spelling.{spelling}
use Rattle.http_heads.specs.declared.refusal.HeadError.{HeadError}
use Rattle.http_heads.specs.declared.refusal.HeadError.TheVariants.{Head, Length, BodyTooLarge, HeadTooLarge, Memory}
use Rattle.share_asks.specs.declared.form.BodyForm.{BodyForm}
use Rattle.share_asks.specs.declared.form.BodyForm.TheVariants.{NoBody, Dmap, Plain, Allow}
use Rattle.share_replies.specs.Replies.{Body, Nothing, Allowed, Line, Tagged, Reply}
use Rattle.http_front.specs.ReplyHeads.{reply_head_text}

abbrev pub form_of : Body → BodyForm
form_of Nothing = NoBody
form_of (Allowed verb) = Allow verb
form_of (Line text) = Plain
form_of (Tagged tag) = Dmap

abbrev pub body_bytes : Body → List ℕ
body_bytes Nothing = []
body_bytes (Allowed verb) = []
body_bytes (Line text) = text
body_bytes (Tagged tag) = spelling tag

-- a head that states the form and length of a body, and the body
abbrev pub with_head : ℕ → BodyForm → List ℕ → Bool → List ℕ
with_head status form body last = reply_head_text status form (length body) last ++ body

abbrev pub reply_bytes : Reply → Bool → List ℕ
reply_bytes reply last = with_head reply.status (form_of reply.body) (body_bytes reply.body) last

-- the reply to a request whose answer could not be allocated
abbrev pub failure_bytes : Bool → List ℕ
failure_bytes last = with_head 500 NoBody [] last

-- the status for bytes that are not a request
abbrev pub status_of : HeadError → ℕ
status_of Head = 400
status_of Length = 400
status_of BodyTooLarge = 413
status_of HeadTooLarge = 431
status_of Memory = 500

-- the connection closes after a refusal
abbrev pub refusal_bytes : HeadError → List ℕ
refusal_bytes error = with_head (status_of error) NoBody [] true
