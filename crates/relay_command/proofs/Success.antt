-- What success says of the workers.
use Rattle.std.proofs.Common.{◌≡◌, ◌==◌, ℕ, List, [], Bool, true, false, cond, nat_le, Option, None, Some, refl, sym, ap, ◌∙◌, inl, inr, arith}
use Rattle.std.proofs.lemmas.Bool.{le-leb}
use Rattle.command_core.specs.declared.fault.Fault.{Fault}
use Rattle.command_core.specs.declared.fault.Fault.TheVariants as fault
use Rattle.command_core.specs.Faults.{fault_status}
use Rattle.command_core.specs.Seen.{OutputSeen}
use Rattle.link_commands.specs.declared.follow.FollowFault.TheVariants as follow
use Rattle.mirror_client.specs.declared.refusal.FollowError.TheVariants as peer
use Rattle.share_crew.specs.declared.verdict.Verdict.{Verdict}
use Rattle.share_crew.specs.declared.verdict.Verdict.TheVariants as crew
use Rattle.relay_command.specs.Faults.{crew_fault, rank_of, relay_status, worse_of}
use Rattle.relay_command.specs.Runs.{WritesThenError, WritesEnd}
use Rattle.relay_command.specs.declared.fault.RelayFault.{RelayFault}
use Rattle.relay_command.specs.declared.fault.RelayFault.TheVariants.{Network, Requests, Library, Row, Peer}

-- no error has status 0
no_success : (f : Fault RelayFault) → fault_status relay_status f ≡ 0 → ⊥
no_success (fault.Own Network) is = let e : 6 ≡ 0 = is in omega (arith, e)
no_success (fault.Own Requests) is = let e : 8 ≡ 0 = is in omega (arith, e)
no_success (fault.Own Library) is = let e : 8 ≡ 0 = is in omega (arith, e)
no_success (fault.Own (Row index)) is = let e : 7 ≡ 0 = is in omega (arith, e)
no_success (fault.Own (Peer (follow.Query error))) is = let e : 3 ≡ 0 = is in omega (arith, e)
no_success (fault.Own (Peer follow.Meta)) is = let e : 3 ≡ 0 = is in omega (arith, e)
no_success (fault.Own (Peer follow.Unreached)) is = let e : 6 ≡ 0 = is in omega (arith, e)
no_success (fault.Own (Peer (follow.Link (peer.Refused status)))) is = let e : 7 ≡ 0 = is in omega (arith, e)
no_success (fault.Own (Peer (follow.Link (peer.BadReply at)))) is = let e : 7 ≡ 0 = is in omega (arith, e)
no_success (fault.Own (Peer (follow.Link (peer.Ended at)))) is = let e : 7 ≡ 0 = is in omega (arith, e)
no_success (fault.Own (Peer (follow.Link (peer.Listing error)))) is = let e : 7 ≡ 0 = is in omega (arith, e)
no_success (fault.Own (Peer (follow.Link (peer.Codes error)))) is = let e : 7 ≡ 0 = is in omega (arith, e)
no_success (fault.Own (Peer (follow.Link peer.LinkFault))) is = let e : 6 ≡ 0 = is in omega (arith, e)
no_success (fault.Own (Peer (follow.Link peer.Memory))) is = let e : 9 ≡ 0 = is in omega (arith, e)
no_success fault.Read is = let e : 4 ≡ 0 = is in omega (arith, e)
no_success fault.Memory is = let e : 9 ≡ 0 = is in omega (arith, e)

behind_none : (text : List ℕ) (f : Option (Fault RelayFault)) (before after : OutputSeen) (status : ℕ) → WritesThenError text f before after status → status ≡ 0 → f ≡ None
behind_none text None before after status h zero = refl
behind_none text (Some f) before after status (inl (inl h)) zero = absurd (no_success f (sym h.0 ∙ zero))
behind_none text (Some f) before after status (inl (inr h)) zero = absurd (omega (arith, h.0, zero))
behind_none text (Some f) before after status (inr (inl h)) zero = absurd (omega (arith, h.0, zero))
behind_none text (Some f) before after status (inr (inr h)) zero = absurd (omega (arith, h.0, zero))

-- if the worse of two is `None`, the first is `None`
first_none : (one other : Option (Fault RelayFault)) → worse_of one other ≡ None → one ≡ None
first_none None other is = refl
first_none (Some f) None is =
    let first : worse_of (Some f) None ≡ Some f = ap (λ (b : Bool). cond b (Some f) None) (le-leb 0 (rank_of (Some f)) (omega arith)) in
    let none : Some f ≡ None = sym first ∙ is in
    absurd (cc)
first_none (Some f) (Some g) is = absurd (by_rank (nat_le (rank_of (Some g)) (rank_of (Some f))) is)
  where
    by_rank : (b : Bool) → cond b (Some f) (Some g) ≡ None → ⊥
    by_rank true is = cc
    by_rank false is = cc

ranked : (network memory limit : Bool) → nat_le (cond network 4 (cond memory 3 (cond limit 2 1))) 0 ≡ false
ranked true memory limit = refl
ranked false true limit = refl
ranked false false true = refl
ranked false false false = refl

-- and so is the other
pub other_none : (one other : Option (Fault RelayFault)) → worse_of one other ≡ None → other ≡ None
other_none None None is = refl
other_none None (Some f) is =
    let status : ℕ = fault_status relay_status f in
    let none : Some f ≡ None = sym (ap (λ (b : Bool). cond b None (Some f)) (ranked (status == 6) (status == 9) (status == 8))) ∙ is in
    absurd (cc)
other_none (Some f) other is = let none : Some f ≡ None = first_none (Some f) other is in absurd (cc)

pub end_none : (lines : List ℕ) (f : Option (Fault RelayFault)) (before after : OutputSeen) (status : ℕ) → WritesEnd lines f before after status → status ≡ 0 → f ≡ None
end_none lines f before after status (inl h) zero = behind_none lines f before after status h zero
end_none lines f before after status (inr h) zero = first_none f (Some fault.Memory) (behind_none [] (worse_of f (Some fault.Memory)) before after status h zero)

crew_none : (v : Verdict) → crew_fault v ≡ None → v ≡ crew.Done
crew_none crew.Done is = refl
crew_none crew.NetworkFailed is = absurd (cc)
crew_none crew.FileFailed is = absurd (cc)
crew_none crew.OutOfMemory is = absurd (cc)
crew_none crew.Exhausted is = absurd (cc)

pub crew_done : (v : Verdict) (other : Option (Fault RelayFault)) → worse_of (crew_fault v) other ≡ None → v ≡ crew.Done
crew_done v other is = crew_none v (first_none (crew_fault v) other is)
