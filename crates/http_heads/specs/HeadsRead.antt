-- A head as the program reads it: where its parts are, and its contents.
use Rattle.std.specs.Prelude.{◌≡◌, ℕ, List, Ok, Some}
use Rattle.httparse.specs.Grammar.{RequestHead, ResponseHead, status_code}
use Rattle.httparse.specs.Spans.{IsRequestAt, IsRequestWithin, IsResponseAt, IsResponseWithin}
use Rattle.httparse.specs.declared.spans.HeaderSpan.{HeaderSpan}
use Rattle.httparse.specs.declared.spans.RequestSpans.{RequestSpans}
use Rattle.httparse.specs.declared.spans.ResponseSpans.{ResponseSpans}
use Rattle.http_heads.specs.Fields.{asks_to_close, body_length, fields_of}
use Rattle.http_heads.specs.Heads.{IsHead, IsReplyHead, reply_tells}
use Rattle.http_heads.specs.declared.heads.Head.{Head}
use Rattle.http_heads.specs.declared.replies.ReplyHead.{ReplyHead}

-- the spans are those of the head in the bytes
pub record Reads (bytes : List ℕ) (room : List HeaderSpan) (spans : RequestSpans) : Type 0 where
  pub within : IsRequestWithin bytes room spans
  pub head : RequestHead
  pub is : IsHead bytes head
  pub at : IsRequestAt bytes room spans head

pub record ReadsReply (bytes : List ℕ) (room : List HeaderSpan) (spans : ResponseSpans) : Type 0 where
  pub within : IsResponseWithin bytes room spans
  pub head : ResponseHead
  pub is : IsReplyHead bytes head
  pub at : IsResponseAt bytes room spans head

-- the fields of `head` are those of the head `h`
pub record TellsHead (bytes : List ℕ) (h : RequestHead) (head : Head) : Type 0 where
  pub is : IsHead bytes h
  pub method : head.method.now ≡ h.method
  pub target : head.target.now ≡ h.target
  pub close : head.close ≡ asks_to_close h.minor (fields_of h.fields)
  pub len : body_length (fields_of h.fields) ≡ Ok head.len

pub record TellsReplyHead (bytes : List ℕ) (h : ResponseHead) (head : ReplyHead) : Type 0 where
  pub is : IsReplyHead bytes h
  pub status : head.status ≡ status_code h
  pub len : reply_tells h ≡ Some head.len
