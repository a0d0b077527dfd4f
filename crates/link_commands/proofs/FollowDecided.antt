-- What decides the status of a run of `follow`.
use Rattle.std.proofs.Common.{◌≡◌, ◌≢◌, ◌⊎◌, ℕ, List, Option, Some, None, sym, ◌∙◌, subst, inl, inr}
use Rattle.outside_net.specs.Counts.{Rose}
use Rattle.item_model.specs.declared.request.Target.{Target}
use Rattle.command_core.specs.declared.fault.Fault.{Fault}
use Rattle.command_core.specs.declared.fault.Fault.TheVariants.{Own, Read, Memory as want}
use Rattle.command_core.specs.Endings.{Done, OutputCut, Refused as refused_ending, LineCut}
use Rattle.command_core.specs.Faults.{fault_line, fault_status}
use Rattle.command_core.specs.Seen.{Run}
use Rattle.mirror_core.specs.Mirrored.{Mirrored}
use Rattle.mirror_client.specs.declared.refusal.FollowError.{FollowError}
use Rattle.mirror_client.specs.declared.refusal.FollowError.TheVariants.{LinkFault, Memory}
use Rattle.mirror_client.specs.Exchanges.{messages}
use Rattle.mirror_client.specs.Stopping.{CountsFault}
use Rattle.link_commands.proofs.FirstReply.{owed_split}
use Rattle.link_commands.specs.declared.follow.FollowFault.{FollowFault}
use Rattle.link_commands.specs.declared.follow.FollowFault.TheVariants.{Query, Meta, Unreached, Link}
use Rattle.link_commands.specs.Decided.{BeginsRun, DecidesFollow, HasNoRun, HasRun, IsOrMemory, IsTextRefused}
use Rattle.link_commands.specs.FollowShare.{IsFollowDone, StopsFollowBy, StopsFollowing, follow_line, follow_meaning, follow_status}
use Rattle.link_commands.specs.Linked.{start_of}
use Rattle.link_commands.specs.Looks.{AsksMirror}
use Rattle.link_commands.specs.Meanings.{LinkEnds}
use Rattle.link_commands.specs.Promises.{IsFaultless}
use Rattle.link_commands.proofs.EditDecided.{link_unexpected}
use Rattle.link_commands.proofs.OneMirror.{one_mirror, read_or_refused}
use Rattle.link_commands.proofs.LinkedFacts.{behind_rose, left_is, link_rose, owed_is}
use Rattle.link_commands.proofs.RunOnce.{whole_run_goes_on}

-- ---- the texts

texts_once : (query meta : Option (List ℕ)) (target : Target) (m : Mirrored) → IsTextRefused query meta → AsksMirror query meta target m → ⊥
texts_once query meta target m (inl refused) asks = read_or_refused query asks.asked refused.0 refused.1 asks.query_is refused.2
texts_once query meta target m (inr many) asks = let bad : Some asks.shown ≡ None = sym asks.meta_is ∙ many.2 in absurd (cc)

fault_refused : (host : List ℕ) (rounds : ℕ) (query meta : Option (List ℕ)) (target : Target) (told : Run) (status : ℕ) (fault : Fault FollowFault) (front : List ℕ)
    → status ≡ fault_status follow_status fault → StopsFollowBy host rounds query meta target told.before told.after fault front → IsTextRefused query meta → IsOrMemory 3 status
fault_refused host rounds query meta target told status (Own (Query error)) front e stops refused = inl e
fault_refused host rounds query meta target told status (Own Meta) front e stops refused = inl e
fault_refused host rounds query meta target told status (Own Unreached) front e stops refused = absurd (texts_once query meta target stops.0.m refused stops.0.asks)
fault_refused host rounds query meta target told status (Own (Link error)) front e stops refused = absurd (texts_once query meta target stops.1.m refused stops.1.for.asks)
fault_refused host rounds query meta target told status Read front e stops refused = absurd stops
fault_refused host rounds query meta target told status want front e stops refused = inr e

pub follow_refused : (host : List ℕ) (rounds : ℕ) (query meta : Option (List ℕ)) (target : Target) (told : Run) (status : ℕ) → LinkEnds (follow_meaning host rounds query meta target) told status
    → (Rose told.output_before.faults told.output_after.faults → ⊥) → IsTextRefused query meta → IsOrMemory 3 status
follow_refused host rounds query meta target told status (Done output, e, (done, w)) whole refused = absurd (texts_once query meta target done.m refused done.for.asks)
follow_refused host rounds query meta target told status (OutputCut output, e, c) whole refused = absurd (whole (behind_rose told.output_before told.output_after c.front c.last c.cut))
follow_refused host rounds query meta target told status (refused_ending front fault, e, (stops, w)) whole refused =
    fault_refused host rounds query meta target told status fault front e stops refused
follow_refused host rounds query meta target told status (LineCut front fault, e, (stops, w)) whole refused = absurd (whole (behind_rose told.output_before told.output_after front (fault_line follow_line fault) w))

-- ---- the bytes of the connection

-- an error of the connection that ends a run was counted on the network
pub link_goes_on : (host : List ℕ) (rounds : ℕ) (query meta : Option (List ℕ)) (target : Target) (told : Run) (e : FollowError) (front : List ℕ) → e ≢ Memory
    → (x : StopsFollowing host rounds query meta target told.before told.after e front) → IsFaultless told → (e ≡ LinkFault) ⊎ (e ≡ Memory) → ⊥
link_goes_on host rounds query meta target told e front other x faultless (inl fault) =
    faultless.net (link_rose host told.before.around.net told.after.around.net x.link x.for.linked
    (subst (λ (f : FollowError). CountsFault 0 x.link.faults f) fault x.stops.count))
link_goes_on host rounds query meta target told e front other x faultless (inr memory) = other memory

done_run : (host : List ℕ) (rounds : ℕ) (query meta : Option (List ℕ)) (target : Target) (told : Run) (output bytes : List ℕ)
    (done : IsFollowDone host rounds query meta target told.before told.after output) → told.before.around.net.next_input ≡ Some bytes → BeginsRun host done.m rounds bytes
done_run host rounds query meta target told output bytes done known =
    let f = done.followed.followed in
    let owed = owed_is done.link bytes (left_is told.before.around.net.next_input done.link.left bytes known done.for.linked.input) in
    let split = owed_split (start_of done.link).owed f.there.owed bytes (messages f.walks.exchanges) owed f.walks.went.read in
    record {
      exchanges = f.walks.exchanges;
      known = f.known;
      listings = f.listings;
      rest = split.0;
      path = f.walks.path;
      answered = f.walks.went.answered;
      split = split.1;
      one_each = f.one_each;
    }

fault_due : (host : List ℕ) (rounds : ℕ) (query meta : Option (List ℕ)) (target : Target) (told : Run) (status : ℕ) (fault : Fault FollowFault) (front bytes : List ℕ)
    → status ≡ fault_status follow_status fault → StopsFollowBy host rounds query meta target told.before told.after fault front → IsFaultless told
    → told.before.around.net.next_input ≡ Some bytes → HasRun host rounds query meta target bytes → IsOrMemory 0 status
fault_due host rounds query meta target told status (Own (Query error)) front bytes e stops faultless known r =
    absurd (texts_once query meta target r.m (inl (error, stops.0, stops.1)) r.asks)
fault_due host rounds query meta target told status (Own Meta) front bytes e stops faultless known r =
    absurd (texts_once query meta target r.m (inr (stops.0.0, stops.0.1, stops.1)) r.asks)
fault_due host rounds query meta target told status (Own Unreached) front bytes e stops faultless known r = absurd (faultless.net stops.0.unreached.rose)
fault_due host rounds query meta target told status (Own (Link error)) front bytes e stops faultless known r =
    let x = stops.1 in
    let owed = owed_is x.link bytes (left_is told.before.around.net.next_input x.link.left bytes known x.for.linked.input) in
    absurd (link_goes_on host rounds query meta target told error front stops.0 x faultless
    (whole_run_goes_on host x.m x.stops.now rounds (start_of x.link) x.link.taken error bytes owed
    (subst (λ (k : Mirrored). BeginsRun host k rounds bytes) (one_mirror query meta target r.m x.m r.asks x.for.asks) r.run) x.stops.stops))
fault_due host rounds query meta target told status Read front bytes e stops faultless known r = absurd stops
fault_due host rounds query meta target told status want front bytes e stops faultless known r = inr e

fault_unexpected : (host : List ℕ) (rounds : ℕ) (query meta : Option (List ℕ)) (target : Target) (told : Run) (status : ℕ) (fault : Fault FollowFault) (front bytes : List ℕ)
    → status ≡ fault_status follow_status fault → StopsFollowBy host rounds query meta target told.before told.after fault front → IsFaultless told
    → HasNoRun host rounds query meta target bytes → IsOrMemory 7 status
fault_unexpected host rounds query meta target told status (Own (Query error)) front bytes e stops faultless r =
    absurd (texts_once query meta target r.m (inl (error, stops.0, stops.1)) r.asks)
fault_unexpected host rounds query meta target told status (Own Meta) front bytes e stops faultless r =
    absurd (texts_once query meta target r.m (inr (stops.0.0, stops.0.1, stops.1)) r.asks)
fault_unexpected host rounds query meta target told status (Own Unreached) front bytes e stops faultless r = absurd (faultless.net stops.0.unreached.rose)
fault_unexpected host rounds query meta target told status (Own (Link error)) front bytes e stops faultless r =
    inl (e ∙ link_unexpected error stops.0 (λ fault. link_goes_on host rounds query meta target told error front stops.0 stops.1 faultless (inl fault)))
fault_unexpected host rounds query meta target told status Read front bytes e stops faultless r = absurd stops
fault_unexpected host rounds query meta target told status want front bytes e stops faultless r = inr e

pub follow_decided : (host : List ℕ) (rounds : ℕ) (query meta : Option (List ℕ)) (target : Target) (told : Run) (status : ℕ) → LinkEnds (follow_meaning host rounds query meta target) told status
    → IsFaultless told → DecidesFollow host rounds query meta target told status
follow_decided host rounds query meta target told status (Done output, e, (done, w)) faultless = record {
  due = λ bytes known r. inl e;
  unexpected = λ bytes known r.
      absurd (r.none (subst (λ (k : Mirrored). BeginsRun host k rounds bytes) (one_mirror query meta target done.m r.m done.for.asks r.asks)
      (done_run host rounds query meta target told output bytes done known)));
}
follow_decided host rounds query meta target told status (OutputCut output, e, c) faultless = absurd (faultless.output (behind_rose told.output_before told.output_after c.front c.last c.cut))
follow_decided host rounds query meta target told status (refused_ending front fault, e, (stops, w)) faultless = record {
  due = λ bytes known r. fault_due host rounds query meta target told status fault front bytes e stops faultless known r;
  unexpected = λ bytes known r. fault_unexpected host rounds query meta target told status fault front bytes e stops faultless r;
}
follow_decided host rounds query meta target told status (LineCut front fault, e, (stops, w)) faultless = absurd (faultless.output (behind_rose told.output_before told.output_after front (fault_line follow_line fault) w))
