-- The first reply that bytes begin with is one reply, and a client that is sent the expected one does not stop there.
use Rattle.std.proofs.Common.{◌≡◌, ◌⊎◌, ◌++◌, ◌∷◌, ℕ, List, [], Option, Some, None, IfSome, refl, sym, ap, ◌∙◌, subst, inl, inr, append_assoc, append-nil}
use Rattle.std.specs.Io.KnownBytes.{Consumes}
use Rattle.http_heads.specs.declared.kind.Kind.TheVariants as kind
use Rattle.http_heads.specs.Messages.{Message, print_message}
use Rattle.http_heads.proofs.Messages.{message_once, refused_none}
use Rattle.http_client.specs.Replies.{IsReply, Reply}
use Rattle.http_client.proofs.ReplyLaws.{one_reply}
use Rattle.mirror_client.specs.declared.refusal.FollowError.{FollowError}
use Rattle.mirror_client.specs.declared.refusal.FollowError.TheVariants.{Refused, BadReply, Ended, Listing as not_taken, Codes, LinkFault, Memory}
use Rattle.mirror_client.specs.Exchanges.{Exchange, messages}
use Rattle.mirror_client.specs.Points.{Point}
use Rattle.mirror_client.specs.Stopping.{BeginsBad, EndsEarly, NoReply, Stops}

-- ---- what was read is the first part of what was there

pub owed_split : (owed left : Option (List ℕ)) (bytes read : List ℕ) → owed ≡ Some bytes → Consumes owed left read → (more : List ℕ) × (bytes ≡ read ++ more)
owed_split owed None bytes read same c = absurd (subst (λ (o : Option (List ℕ)). Consumes o None read) same c)
owed_split owed (Some more) bytes read same c = (more, subst (λ (o : Option (List ℕ)). Consumes o (Some more) read) same c)

pub left_owed : (owed left : Option (List ℕ)) (bytes read : List ℕ) (same : owed ≡ Some bytes) (c : Consumes owed left read) → left ≡ Some (owed_split owed left bytes read same c).0
unfolding owed_split
left_owed owed None bytes read same c = absurd (subst (λ (o : Option (List ℕ)). Consumes o None read) same c)
left_owed owed (Some more) bytes read same c = refl

pub split_on : (x : Exchange) (xs : List Exchange) (bytes more : List ℕ) → bytes ≡ messages (x ∷ xs) ++ more → bytes ≡ print_message x.message ++ (messages xs ++ more)
split_on x xs bytes more same = same ∙ append_assoc (print_message x.message) (messages xs) more

-- ---- one reply

-- the bytes begin with a message that is this answer
pub record Begins (bytes rest : List ℕ) (answer : Reply) : Type 0 where
  pub message : Message
  pub is : IsReply message answer
  pub split : bytes ≡ print_message message ++ rest

-- whatever message the bytes begin with, it is that one
pub answer_is : (m : Message) (answer told : Reply) (bytes more rest : List ℕ) → IsReply m answer → bytes ≡ print_message m ++ more → Begins bytes rest told
    → (answer ≡ told) × (more ≡ rest)
answer_is m answer told bytes more rest is split b =
    let same = message_once kind.Reply m b.message more rest is.0 b.is.0 (sym split ∙ b.split) in
    (one_reply b.message answer told (subst (λ (n : Message). IsReply n answer) same.0 is) b.is, same.1)

-- ---- nothing stops a client there

-- the connection failed, or an allocation
abbrev pub IsOutside : FollowError → Type 0
IsOutside e = (e ≡ LinkFault) ⊎ (e ≡ Memory)

-- bytes that begin with a message are a reply
begins_whole : (p : Point) (bytes rest : List ℕ) (told : Reply) (e : FollowError) → p.owed ≡ Some bytes → Begins bytes rest told → NoReply p e → IsOutside e
begins_whole p bytes rest told (Refused status) owed b none = absurd none
begins_whole p bytes rest told (BadReply at) owed b none =
    let bad = subst (λ (o : Option (List ℕ)). IfSome o (λ bs. BeginsBad bs p.used at)) owed none in
    absurd (refused_none kind.Reply bytes bad.cause (record { front = bad.front; more = bad.more; split = bad.split; refused = bad.refused }) b.message rest b.is.0 b.split)
begins_whole p bytes rest told (Ended at) owed b none =
    let early = subst (λ (o : Option (List ℕ)). IfSome o (λ bs. EndsEarly bs p.used at)) owed none in
    absurd (early.partial b.message rest b.is.0 b.split)
begins_whole p bytes rest told (not_taken error) owed b none = absurd none
begins_whole p bytes rest told (Codes error) owed b none = absurd none
begins_whole p bytes rest told LinkFault owed b none = inl refl
begins_whole p bytes rest told Memory owed b none = inr refl

-- the answer is the expected one
pub stops_outside : (request : List ℕ) (Unexpected : ℕ → Reply → FollowError → Type 0) (p : Point) (taken : Option (List ℕ)) (e : FollowError) (bytes rest : List ℕ) (told : Reply)
    → p.owed ≡ Some bytes → Begins bytes rest told → ((used : ℕ) → Unexpected used told e → IsOutside e) → Stops request Unexpected p taken e → IsOutside e
stops_outside request Unexpected p taken e bytes rest told owed b never (inl s) = begins_whole p bytes rest told e owed b s.cause
stops_outside request Unexpected p taken e bytes rest told owed b never (inr a) =
    let split = owed_split p.owed a.there.owed bytes (messages (a.exchange ∷ [])) owed a.went.read in
    let is = answer_is a.exchange.message a.exchange.answer told bytes split.0 rest a.went.answered.0
    (split.1 ∙ ap (λ (front : List ℕ). front ++ split.0) (append-nil (print_message a.exchange.message))) b in
    never a.there.used (subst (λ (x : Reply). Unexpected a.there.used x e) is.0 a.unexpected)
