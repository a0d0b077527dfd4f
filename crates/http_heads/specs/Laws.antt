-- Laws that follow from the definitions, proved for all bytes and both kinds of messages.
use Rattle.std.specs.Prelude.{◌≡◌, ◌⊎◌, ℕ, List, ◌++◌}
use Rattle.http_heads.specs.declared.kind.Kind.{Kind}
use Rattle.http_heads.specs.declared.refusal.HeadError.{HeadError}
use Rattle.http_heads.specs.Frames.{IsFramed}
use Rattle.http_heads.specs.Messages.{Message, SplitsAs, HasNoMessage, IsRefused, Refuses}

-- no framed head is a prefix of another
abbrev pub FramesArePrefixFree : Type 0
FramesArePrefixFree =
    (a b p q : List ℕ) (m n : ℕ) → IsFramed a m → IsFramed b n → a ++ p ≡ b ++ q → (a ≡ b) × (p ≡ q) × (m ≡ n)

-- bytes split into messages in one way
abbrev pub SplitsAreOne : Type 0
SplitsAreOne =
    (kind : Kind) (bytes : List ℕ) (ms ns : List Message) (rest tail : List ℕ) → SplitsAs kind bytes ms rest
    → SplitsAs kind bytes ns tail → (ms ≡ ns) × (rest ≡ tail)

-- the refused prefix of bytes is one, and so is the refusal
abbrev pub RefusedFrontsAreOne : Type 0
RefusedFrontsAreOne =
    (kind : Kind) (a b p q : List ℕ) (d e : HeadError) → IsRefused kind a d → IsRefused kind b e → a ++ p ≡ b ++ q
    → (a ≡ b) × (p ≡ q) × (d ≡ e)

-- a refusal stays, whatever bytes follow
abbrev pub RefusalsStay : Type 0
RefusalsStay = (kind : Kind) (bytes more : List ℕ) (e : HeadError) → Refuses kind bytes e → Refuses kind (bytes ++ more) e

-- refused bytes do not begin with a message
abbrev pub RefusedIsNoMessage : Type 0
RefusedIsNoMessage = (kind : Kind) (bytes : List ℕ) (e : HeadError) → Refuses kind bytes e → HasNoMessage kind bytes

-- all bytes split into messages and a rest, which is refused or not
abbrev pub AllBytesSplit : Type 0
AllBytesSplit =
    (kind : Kind) (bytes : List ℕ) → (ms : List Message) × (rest : List ℕ) × SplitsAs kind bytes ms rest
    × (((e : HeadError) × Refuses kind rest e) ⊎ ((e : HeadError) → Refuses kind rest e → ⊥))
