-- The head of a reply (RFC 9112): the status line, the fields that apply, in their order, and an empty line.
use Rattle.std.specs.Prelude.{◌≡◌, ℕ, List, [], ◌++◌, codes, decimal, Bool, true, false, ◌==◌, is_some, Option, Some, None, unwrap_or, if◌then◌else◌}
use Rattle.share_asks.specs.declared.form.BodyForm.{BodyForm}
use Rattle.share_asks.specs.declared.form.BodyForm.TheVariants.{NoBody, Dmap, Plain, Allow}
use Rattle.http_front.specs.Routes.{verb_text}

abbrev pub reason_of : ℕ → Option (List ℕ)
reason_of status =
    if status == 200 then Some (codes "OK")
    else if status == 204 then Some (codes "No Content")
    else if status == 400 then Some (codes "Bad Request")
    else if status == 403 then Some (codes "Forbidden")
    else if status == 404 then Some (codes "Not Found")
    else if status == 405 then Some (codes "Method Not Allowed")
    else if status == 413 then Some (codes "Content Too Large")
    else if status == 431 then Some (codes "Request Header Fields Too Large")
    else if status == 500 then Some (codes "Internal Server Error")
    else if status == 503 then Some (codes "Service Unavailable")
    else if status == 507 then Some (codes "Insufficient Storage")
    else None

abbrev pub HasReason : ℕ → Type 0
HasReason status = is_some (reason_of status) ≡ true

abbrev pub ended : List ℕ → List ℕ
ended line = line ++ codes "\r\n"

abbrev pub field : List ℕ → List ℕ → List ℕ
field name value = ended (name ++ codes ": " ++ value)

abbrev pub status_line : ℕ → List ℕ
status_line status = ended (codes "HTTP/1.1 " ++ decimal status ++ codes " " ++ unwrap_or (reason_of status) [])

abbrev pub type_field : BodyForm → List ℕ
type_field NoBody = []
type_field Dmap = field (codes "Content-Type") (codes "application/x-dmap-tagged")
type_field Plain = field (codes "Content-Type") (codes "text/plain")
type_field (Allow verb) = []

-- a reply without content states no length
abbrev pub length_field : ℕ → ℕ → List ℕ
length_field status len = if status == 204 then [] else field (codes "Content-Length") (decimal len)

abbrev pub allow_field : BodyForm → List ℕ
allow_field NoBody = []
allow_field Dmap = []
allow_field Plain = []
allow_field (Allow verb) = field (codes "Allow") (verb_text verb)

-- the last reply announces that the connection closes
abbrev pub last_field : Bool → List ℕ
last_field true = field (codes "Connection") (codes "close")
last_field false = []

unfoldable pub reply_head_text : ℕ → BodyForm → ℕ → Bool → List ℕ
reply_head_text status form len last =
    ended (status_line status ++ type_field form ++ length_field status len ++ allow_field form ++ last_field last)
