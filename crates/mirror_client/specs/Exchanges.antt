-- Exchanges of a client with its peer: the client writes a request and reads the response.
use Rattle.std.specs.Prelude.{◌≡◌, ⊤, ℕ, ◌+◌, List, [], ◌∷◌, ◌++◌, length}
use Rattle.std.specs.Io.KnownBytes.{Appends, Consumes}
use Rattle.http_heads.specs.Messages.{Message, print_message}
use Rattle.http_client.specs.Replies.{IsReply, Reply}
use Rattle.mirror_client.specs.Points.{Point}

-- A request, the message that answered it, and the message's status and body.
pub record Exchange : Type 0 where
  pub request : List ℕ
  pub message : Message
  pub answer : Reply

abbrev pub requests : List Exchange → List ℕ
requests [] = []
requests (x ∷ xs) = x.request ++ requests xs

abbrev pub messages : List Exchange → List ℕ
messages [] = []
messages (x ∷ xs) = print_message x.message ++ messages xs

abbrev pub AreAnswered : List Exchange → Type 0
AreAnswered [] = ⊤
AreAnswered (x ∷ xs) = IsReply x.message x.answer × AreAnswered xs

-- These exchanges, one after another, lead from `p` to `q`.
pub record Transcript (p q : Point) (xs : List Exchange) : Type 0 where
  pub written : Appends p.taken q.taken (requests xs)
  pub answered : AreAnswered xs
  pub read : Consumes p.owed q.owed (messages xs)
  pub counted : q.used ≡ p.used + length (messages xs)

-- One exchange, with this request and this answer.
pub record Exchanged (request : List ℕ) (p q : Point) (answer : Reply) : Type 0 where
  pub message : Message
  pub went : Transcript p q (record { request = request; message = message; answer = answer } ∷ [])

-- One response was read.
pub record Replied (p q : Point) (answer : Reply) : Type 0 where
  pub message : Message
  pub is : IsReply message answer
  pub taken : q.taken ≡ p.taken
  pub read : Consumes p.owed q.owed (print_message message)
  pub counted : q.used ≡ p.used + length (print_message message)
