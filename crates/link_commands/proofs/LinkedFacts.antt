-- What a network keeps of one connection, and how its error counter follows that of the connection.
use Rattle.std.proofs.Common.{◌≡◌, ℕ, Bool, List, [], ◌∷◌, ◌++◌, length, Option, Some, IfSome, sym, subst, ◌∙◌, ap, inl, inr, arith, append-nil}
use Rattle.std.specs.Io.KnownBytes.{Appends, prepend_known}
use Rattle.std.proofs.lemmas.List.{take_all}
use Rattle.outside_net.specs.Counts.{Rose, RisesWith}
use Rattle.outside_net.specs.Places.{returned}
use Rattle.outside_net.specs.Told.{AppendsPrefix, BeginsEmpty, Grows, GrowsByTold}
use Rattle.command_core.specs.Seen.{NetSeen, OutputSeen, net_seen}
use Rattle.command_core.proofs.Appending.{cut_more}
use Rattle.mirror_client.specs.declared.refusal.FollowError.{FollowError}
use Rattle.mirror_client.specs.declared.refusal.FollowError.TheVariants.{LinkFault}
use Rattle.mirror_client.specs.Exchanges.{Exchanged}
use Rattle.mirror_client.specs.Points.{Point}
use Rattle.http_client.specs.Replies.{Reply}
use Rattle.mirror_client.specs.Stopping.{CountsFault, Stops}
use Rattle.link_commands.specs.Linked.{HasLinked, LinkSeen, start_of}
use Rattle.link_commands.specs.Meanings.{IsCutBehind}

-- the calls of the network, and the connection between them
pub linked : (host : List ℕ) (asked asked' asked'' : Option (List (List ℕ × ℕ))) (written written' written'' : Option (List (List ℕ × Bool)))
    (listeners listeners' listeners'' : Option (List (List (List ℕ)))) (next next'' : Option (List ℕ)) (faults faults' faults'' : ℕ) (link : LinkSeen)
    → Grows asked asked' ((host, 0) ∷ []) → asked'' ≡ asked' → BeginsEmpty written link.begun → IfSome next (λ input. link.left ≡ Some input)
    → written' ≡ written → GrowsByTold written' written'' (returned link.taken link.faults) → listeners' ≡ listeners → listeners'' ≡ listeners' → faults' ≡ faults
    → RisesWith faults' faults'' link.faults
    → HasLinked host (net_seen asked written listeners next faults) (net_seen asked'' written'' listeners'' next'' faults'') link
linked host asked asked' asked'' written written' written'' listeners listeners' listeners'' next next'' faults faults' faults'' link asks same empty input keeps grows stay stays steady rises = record {
  asked = subst (λ (a : Option (List (List ℕ × ℕ))). Grows asked a ((host, 0) ∷ [])) (sym same) asks;
  begun = empty;
  input = input;
  written = subst (λ (w : Option (List (List ℕ × Bool))). GrowsByTold w written'' (returned link.taken link.faults)) keeps grows;
  listeners = stays ∙ stay;
  count = subst (λ (n : ℕ). RisesWith n faults'' link.faults) steady rises;
}

-- an output that failed counted an error
pub behind_rose : (before after : OutputSeen) (front last : List ℕ) → IsCutBehind before after front last → Rose before.faults after.faults
behind_rose before after front last c = (cut_more before c.at_cut after front last c.written c.cut).rose

-- an error of the connection is one of the network
pub link_rose : (host : List ℕ) (before after : NetSeen) (link : LinkSeen) → HasLinked host before after link → CountsFault 0 link.faults LinkFault
    → Rose before.faults after.faults
link_rose host before after link linked rose = let r = rose.1 in linked.count.faulty (omega (arith, r))

-- all of it is a prefix
pub whole_front : (before now : Option (List ℕ)) (bytes : List ℕ) → Appends before now bytes → AppendsPrefix before now bytes
whole_front before now bytes h = (length bytes, omega arith, subst (Appends before now) (sym (take_all (length bytes) bytes (omega arith))) h)

-- an answered request was written whole
pub written_whole : (request : List ℕ) (p q : Point) (answer : Reply) (taken : Option (List ℕ)) → Exchanged request p q answer → q.taken ≡ taken → AppendsPrefix p.taken taken request
written_whole request p q answer taken x same =
    subst (λ (t : Option (List ℕ)). AppendsPrefix p.taken t request) same
    (whole_front p.taken q.taken request (subst (Appends p.taken q.taken) (append-nil request) x.went.written))

-- what stopped was written in part
pub written_part : (request : List ℕ) (Unexpected : ℕ → Reply → FollowError → Type 0) (p : Point) (taken : Option (List ℕ)) (e : FollowError) → Stops request Unexpected p taken e
    → AppendsPrefix p.taken taken request
written_part request Unexpected p taken e (inl s) = s.written
written_part request Unexpected p taken e (inr a) =
    subst (λ (t : Option (List ℕ)). AppendsPrefix p.taken t request) a.written
    (whole_front p.taken a.there.taken request
    (subst (Appends p.taken a.there.taken) (append-nil request)
    (subst (λ (r : List ℕ). Appends p.taken a.there.taken (r ++ [])) a.asked a.went.written)))

-- the connection has the bytes that were to come
pub left_is : (next left : Option (List ℕ)) (bytes : List ℕ) → next ≡ Some bytes → IfSome next (λ input. left ≡ Some input) → left ≡ Some bytes
left_is next left bytes same h = subst (λ (n : Option (List ℕ)). IfSome n (λ input. left ≡ Some input)) same h

pub owed_is : (link : LinkSeen) (bytes : List ℕ) → link.left ≡ Some bytes → (start_of link).owed ≡ Some bytes
owed_is link bytes same = ap (λ (l : Option (List ℕ)). prepend_known [] l) same
