-- Why an exchange failed, or got an unexpected answer.
use Rattle.std.specs.Prelude.{◌≡◌, ◌⊎◌, ⊤, ℕ, ◌+◌, List, [], ◌∷◌, ◌++◌, length, Option, IfSome, Result, MatchResult}
use Rattle.outside_net.specs.Bounds.{Links}
use Rattle.outside_net.specs.Counts.{Rose}
use Rattle.outside_net.specs.Told.{AppendsPrefix}
use Rattle.http_heads.specs.declared.kind.Kind.TheVariants as kind
use Rattle.http_heads.specs.declared.refusal.HeadError.{HeadError}
use Rattle.http_heads.specs.Messages.{HasNoMessage, IsRefused, Refuses}
use Rattle.http_client.specs.Replies.{Reply}
use Rattle.mirror_client.specs.declared.refusal.FollowError.{FollowError}
use Rattle.mirror_client.specs.declared.refusal.FollowError.TheVariants.{Refused, BadReply, Ended, Listing, Codes, LinkFault, Memory}
use Rattle.mirror_client.specs.Exchanges.{Exchange, Transcript}
use Rattle.mirror_client.specs.Points.{Point}

-- The bytes begin with a malformed response. The offset counts all bytes up to the one that shows it.
pub record BeginsBad (bytes : List ℕ) (used at : ℕ) : Type 0 where
  pub front : List ℕ
  pub more : List ℕ
  pub cause : HeadError
  pub split : bytes ≡ front ++ more
  pub refused : IsRefused kind.Reply front cause
  pub counted : at ≡ used + length front

-- The bytes end before a response is complete.
pub record EndsEarly (bytes : List ℕ) (used at : ℕ) : Type 0 where
  pub partial : HasNoMessage kind.Reply bytes
  pub goes : (e : HeadError) → Refuses kind.Reply bytes e → ⊥
  pub counted : at ≡ used + length bytes

-- Why no response was read, by the bytes that the peer owed.
abbrev pub NoReply : Point → FollowError → Type 0
NoReply p (Refused status) = ⊥
NoReply p (BadReply at) = IfSome p.owed (λ bytes. BeginsBad bytes p.used at)
NoReply p (Ended at) = IfSome p.owed (λ bytes. EndsEarly bytes p.used at)
NoReply p (Listing error) = ⊥
NoReply p (Codes error) = ⊥
NoReply p LinkFault = ⊤
NoReply p Memory = ⊤

-- The request was written, perhaps in part, and no response was read.
pub record StopsShort (request : List ℕ) (p : Point) (taken : Option (List ℕ)) (e : FollowError) : Type 0 where
  pub written : AppendsPrefix p.taken taken request
  pub cause : NoReply p e

-- The request got an unexpected answer. `Unexpected` relates the number of bytes read, the answer and the error.
pub record AnswersUnexpected (request : List ℕ) (Unexpected : ℕ → Reply → FollowError → Type 0) (p : Point) (taken : Option (List ℕ)) (e : FollowError) : Type 0 where
  pub exchange : Exchange
  pub there : Point
  pub asked : exchange.request ≡ request
  pub went : Transcript p there (exchange ∷ [])
  pub written : there.taken ≡ taken
  pub unexpected : Unexpected there.used exchange.answer e

abbrev pub Stops : List ℕ → (ℕ → Reply → FollowError → Type 0) → Point → Option (List ℕ) → FollowError → Type 0
Stops request Unexpected p taken e = StopsShort request p taken e ⊎ AnswersUnexpected request Unexpected p taken e

-- The connection's error counter increased if the error is `LinkFault`, and is unchanged otherwise.
abbrev pub CountsFault : ℕ → ℕ → FollowError → Type 0
CountsFault before now LinkFault = Rose before now
CountsFault before now (Refused status) = now ≡ before
CountsFault before now (BadReply at) = now ≡ before
CountsFault before now (Ended at) = now ≡ before
CountsFault before now (Listing error) = now ≡ before
CountsFault before now (Codes error) = now ≡ before
CountsFault before now Memory = now ≡ before

-- The error counter of a connection after a call: a success leaves it unchanged.
abbrev pub CountsErrors : {K A : Type 0} → Links K → K → K → Result A FollowError → Type 0
CountsErrors g old new result =
    MatchResult result (λ _. g.faults new ≡ g.faults old) (λ e. CountsFault (g.faults old) (g.faults new) e)
