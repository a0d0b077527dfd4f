-- What replies bytes are: one list of them, and the first ones stay, whatever follows.
use Rattle.std.proofs.Common.{◌≡◌, ℕ, List, [], ◌∷◌, ◌++◌, All, refl, sym, ap, ap₂, ◌∙◌, subst, append_assoc}
use Rattle.std.proofs.lemmas.List.Elements.{All-nil, All-cons}
use Rattle.std.specs.List.{flat_map, AllZip}
use Rattle.httparse.specs.Grammar.{status_code}
use Rattle.http_heads.specs.declared.gathering.Phase.TheVariants.{Frame}
use Rattle.http_heads.specs.declared.kind.Kind.TheVariants as kind
use Rattle.http_heads.specs.declared.refusal.HeadError.{HeadError}
use Rattle.http_heads.specs.Gathering.{Gathered}
use Rattle.http_heads.specs.Messages.{HasNoMessage, IsMessage, Message, Refuses, print_message}
use Rattle.http_heads.specs.Scanning.{start}
use Rattle.http_heads.proofs.Messages.{goes_further, idle_stands, one_reply_head, open_goes, open_none, splits_once}
use Rattle.http_client.specs.Replies.{AreReplies, IsReply, Joins, Reply}

-- a message is one reply
pub one_reply : (m : Message) (a b : Reply) → IsReply m a → IsReply m b → a ≡ b
one_reply m a b (x, (h, is, p), s) (y, (k, too, q), t) =
    let statuses : a.0 ≡ b.0 = p ∙ ap status_code (one_reply_head m.head h k is too) ∙ sym q in
    let bodies : a.1 ≡ b.1 = s ∙ sym t in
    λ i. (statuses i, bodies i)

messages_of : (ms : List Message) (replies : List Reply) → AllZip IsReply ms replies → All (IsMessage kind.Reply) ms
messages_of [] replies h = All-nil (IsMessage kind.Reply)
messages_of (m ∷ ms) [] h = absurd h
messages_of (m ∷ ms) (a ∷ replies) h = All-cons (IsMessage kind.Reply) m ms h.0.0 (messages_of ms replies h.1)

same_replies : (ms : List Message) (xs ys : List Reply) → AllZip IsReply ms xs → AllZip IsReply ms ys → xs ≡ ys
same_replies [] [] [] h k = refl
same_replies [] [] (y ∷ ys) h k = absurd k
same_replies [] (x ∷ xs) ys h k = absurd h
same_replies (m ∷ ms) [] ys h k = absurd h
same_replies (m ∷ ms) (x ∷ xs) [] h k = absurd k
same_replies (m ∷ ms) (x ∷ xs) (y ∷ ys) h k =
    ap₂ (λ (a : Reply) (b : List Reply). a ∷ b) (one_reply m x y h.0 k.0) (same_replies ms xs ys h.1 k.1)

pub zip_both : (ms ns : List Message) (xs ys : List Reply) → AllZip IsReply ms xs → AllZip IsReply ns ys → AllZip IsReply (ms ++ ns) (xs ++ ys)
zip_both [] ns [] ys h k = k
zip_both [] ns (x ∷ xs) ys h k = absurd h
zip_both (m ∷ ms) ns [] ys h k = absurd h
zip_both (m ∷ ms) ns (x ∷ xs) ys h k = (h.0, zip_both ms ns xs ys h.1 k)

first_replies : (ms ns : List Message) (xs all : List Reply) → AllZip IsReply ms xs → AllZip IsReply (ms ++ ns) all
    → (others : List Reply) × (all ≡ xs ++ others) × AllZip IsReply ns others
first_replies [] ns [] all h k = (all, refl, k)
first_replies [] ns (x ∷ xs) all h k = absurd h
first_replies (m ∷ ms) ns [] all h k = absurd h
first_replies (m ∷ ms) ns (x ∷ xs) [] h k = absurd k
first_replies (m ∷ ms) ns (x ∷ xs) (y ∷ all) h k =
    let rest = first_replies ms ns xs all h.1 k.1 in
    (rest.0, ap₂ (λ (a : Reply) (b : List Reply). a ∷ b) (one_reply m y x k.0 h.0) rest.1, rest.2)

pub flat_both : (ms ns : List Message) → flat_map print_message (ms ++ ns) ≡ flat_map print_message ms ++ flat_map print_message ns
flat_both [] ns = refl
flat_both (m ∷ ms) ns =
    ap (λ bytes. print_message m ++ bytes) (flat_both ms ns) ∙ sym (append_assoc (print_message m) (flat_map print_message ms) (flat_map print_message ns))

idle : Gathered
idle = record { kind = kind.Reply; message = record { head = []; body = [] }; phase = Frame start }

pub none_in_nothing : HasNoMessage kind.Reply []
unfolding idle
none_in_nothing = open_none kind.Reply (record { head = []; body = [] }) (Frame start) (idle_stands idle (refl, refl)) refl

pub nothing_goes : (e : HeadError) → Refuses kind.Reply [] e → ⊥
unfolding idle
nothing_goes e = open_goes kind.Reply (record { head = []; body = [] }) (Frame start) e (idle_stands idle (refl, refl)) refl

pub nothing_read : AreReplies [] [] []
nothing_read = record { joins = record { messages = []; are = tt; joined = refl }; last = none_in_nothing; goes = nothing_goes }

-- replies one after another are these replies
pub replies_joined : (bytes : List ℕ) (replies : List Reply) → Joins bytes replies [] → AreReplies bytes replies []
replies_joined bytes replies j = record { joins = j; last = none_in_nothing; goes = nothing_goes }

pub joins_stay : (bytes more : List ℕ) (replies : List Reply) (rest : List ℕ) → Joins bytes replies rest → Joins (bytes ++ more) replies (rest ++ more)
joins_stay bytes more replies rest j = record {
  messages = j.messages;
  are = j.are;
  joined = ap (λ b. b ++ more) j.joined ∙ append_assoc (flat_map print_message j.messages) rest more;
}

-- bytes are one list of replies and one rest
pub replies_once : (bytes : List ℕ) (xs ys : List Reply) (rest tail : List ℕ) → Joins bytes xs rest → HasNoMessage kind.Reply rest → Joins bytes ys tail
    → HasNoMessage kind.Reply tail → (xs ≡ ys) × (rest ≡ tail)
replies_once bytes xs ys rest tail x none y last =
    let same = splits_once kind.Reply bytes x.messages y.messages rest tail
    (record { whole = messages_of x.messages xs x.are; split = x.joined; last = none })
    (record { whole = messages_of y.messages ys y.are; split = y.joined; last = last }) in
    (same_replies x.messages xs ys x.are (subst (λ (ms : List Message). AllZip IsReply ms ys) (sym same.0) y.are), same.1)

-- the replies of a prefix are the first replies of all bytes
pub first_replies_stay : (front more : List ℕ) (xs all : List Reply) (rest tail : List ℕ) → Joins front xs rest → Joins (front ++ more) all tail
    → HasNoMessage kind.Reply tail → (others : List Reply) × (all ≡ xs ++ others)
first_replies_stay front more xs all rest tail j k none =
    let further = goes_further kind.Reply j.messages k.messages (rest ++ more) tail (messages_of j.messages xs j.are) (messages_of k.messages all k.are)
    (sym (append_assoc (flat_map print_message j.messages) rest more) ∙ ap (λ b. b ++ more) (sym j.joined) ∙ k.joined) none in
    let split = first_replies j.messages further.0 xs all j.are (subst (λ (ms : List Message). AllZip IsReply ms all) further.1 k.are) in
    (split.0, split.1)
