-- Messages, and the start of bytes that more may follow: a complete message, bytes with which no message begins, or
-- neither.
use Rattle.std.specs.Prelude.{◌≡◌, ◌≤◌, ◌⊎◌, ℕ, List, ◌++◌, length, All, Ok, Err}
use Rattle.std.specs.List.{flat_map}
use Rattle.httparse.specs.Grammar.{RequestHead}
use Rattle.http_heads.specs.declared.kind.Kind.{Kind}
use Rattle.http_heads.specs.declared.kind.Kind.TheVariants.{Request}
use Rattle.http_heads.specs.declared.refusal.HeadError.{HeadError}
use Rattle.http_heads.specs.declared.refusal.HeadError.TheVariants.{HeadTooLarge}
use Rattle.http_heads.specs.Frames.{IsFramed, HasNoFrame}
use Rattle.http_heads.specs.Heads.{IsHead, Tells}
use Rattle.http_heads.specs.Limits.{head_limit}

pub record Message : Type 0 where
  pub head : List ℕ
  pub body : List ℕ

abbrev pub print_message : Message → List ℕ
print_message m = m.head ++ m.body

-- the head is framed, within the limit, and states a body of this length
pub record HasHead (kind : Kind) (head : List ℕ) (told : ℕ) : Type 0 where
  pub lines : ℕ
  pub framed : IsFramed head lines
  pub short : length head ≤ head_limit
  pub tells : Tells kind head lines (Ok told)

abbrev pub IsMessage : Kind → Message → Type 0
IsMessage kind m = HasHead kind m.head (length m.body)

-- the message is a request with this head
abbrev pub IsRequest : Message → RequestHead → Type 0
IsRequest m h = IsMessage Request m × IsHead m.head h

-- the bytes do not begin with a complete message
abbrev pub HasNoMessage : Kind → List ℕ → Type 0
HasNoMessage kind bytes = (m : Message) (more : List ℕ) → IsMessage kind m → bytes ≡ print_message m ++ more → ⊥

-- the bytes are a framed head that is refused, or as many as a head may have without its end
abbrev pub IsRefused : Kind → List ℕ → HeadError → Type 0
IsRefused kind bytes e =
    ((lines : ℕ) × IsFramed bytes lines × (length bytes ≤ head_limit) × Tells kind bytes lines (Err e))
    ⊎ ((e ≡ HeadTooLarge) × (length bytes ≡ head_limit) × HasNoFrame bytes)

-- some prefix of the bytes is refused
pub record Refuses (kind : Kind) (bytes : List ℕ) (e : HeadError) : Type 0 where
  pub front : List ℕ
  pub more : List ℕ
  pub split : bytes ≡ front ++ more
  pub refused : IsRefused kind front e

-- the bytes are these messages, and then bytes that do not begin with a complete one
pub record SplitsAs (kind : Kind) (bytes : List ℕ) (messages : List Message) (rest : List ℕ) : Type 0 where
  pub whole : All (IsMessage kind) messages
  pub split : bytes ≡ flat_map print_message messages ++ rest
  pub last : HasNoMessage kind rest
