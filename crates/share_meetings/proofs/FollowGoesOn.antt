-- A run of `follow` whose connection has the bytes of a share stops at none of them.
use Rattle.std.proofs.Common.{◌≡◌, ◌⊎◌, ℕ, List, ◌∷◌, length, Option, Some, None, sym, ap, ◌∙◌, subst, inl, inr}
use Rattle.item_model.specs.declared.changes.Entry.{Entry}
use Rattle.item_model.specs.declared.request.Target.{Target}
use Rattle.share_replies.specs.Settings.{Settings}
use Rattle.command_core.specs.declared.fault.Fault.{Fault}
use Rattle.command_core.specs.declared.fault.Fault.TheVariants.{Own, Read, Memory as want}
use Rattle.command_core.specs.Endings.{Done, OutputCut, Refused as refused_ending, LineCut}
use Rattle.command_core.specs.Faults.{fault_line, fault_status}
use Rattle.command_core.specs.Seen.{Run}
use Rattle.mirror_core.specs.Mirrored.{Mirrored}
use Rattle.mirror_client.specs.declared.refusal.FollowError.{FollowError}
use Rattle.mirror_client.specs.declared.refusal.FollowError.TheVariants.{LinkFault, Memory}
use Rattle.link_commands.specs.declared.follow.FollowFault.{FollowFault}
use Rattle.link_commands.specs.declared.follow.FollowFault.TheVariants.{Query, Meta, Unreached, Link}
use Rattle.link_commands.specs.FollowShare.{StopsFollowBy, StopsFollowing, follow_line, follow_status}
use Rattle.link_commands.specs.Linked.{start_of}
use Rattle.link_commands.specs.Promises.{IsFaultless}
use Rattle.link_commands.proofs.FollowDecided.{link_goes_on}
use Rattle.link_commands.proofs.LinkedFacts.{behind_rose, left_is, owed_is}
use Rattle.link_commands.proofs.OneMirror.{one_mirror, read_or_refused}
use Rattle.share_meetings.specs.CommandLaws.{FollowGoesOn, ServesMirror}
use Rattle.share_meetings.specs.ServedRuns.{ServesRun}
use Rattle.share_meetings.proofs.Completes.{served_runs_go_on}

outside : (host : List ℕ) (rounds : ℕ) (query meta : Option (List ℕ)) (target : Target) (told : Run) (e : FollowError) (front : List ℕ) (s : Settings) (h : List Entry)
    (x : StopsFollowing host rounds query meta target told.before told.after e front) → ServesMirror s h rounds query meta target told → (e ≡ LinkFault) ⊎ (e ≡ Memory)
outside host rounds query meta target told e front s h x serves =
    let run : (run : ServesRun s x.m.target x.m.query x.m.meta h serves.bytes) × (length (run.first ∷ run.others) ≡ rounds) =
    subst (λ (k : Mirrored). (run : ServesRun s k.target k.query k.meta h serves.bytes) × (length (run.first ∷ run.others) ≡ rounds))
    (one_mirror query meta target serves.m x.m serves.asks x.for.asks) (serves.run, serves.rounds_are) in
    served_runs_go_on host x.m rounds (start_of x.link) x.link.taken e x.stops.now s h serves.bytes x.stops.stops (ap (λ (m : Mirrored). m.held.revision) x.for.asks.is) serves.whole
    (owed_is x.link serves.bytes (left_is told.before.around.net.next_input x.link.left serves.bytes serves.next x.for.linked.input)) run.0 run.1

fault_goes_on : (host : List ℕ) (rounds : ℕ) (query meta : Option (List ℕ)) (target : Target) (told : Run) (status : ℕ) (fault : Fault FollowFault) (front : List ℕ) (s : Settings)
    (h : List Entry) → status ≡ fault_status follow_status fault → StopsFollowBy host rounds query meta target told.before told.after fault front
    → ServesMirror s h rounds query meta target told → IsFaultless told → (status ≡ 0) ⊎ (status ≡ 9)
fault_goes_on host rounds query meta target told status (Own (Query error)) front s h e stops serves faultless =
    absurd (read_or_refused query serves.asks.asked error stops.0 serves.asks.query_is stops.1)
fault_goes_on host rounds query meta target told status (Own Meta) front s h e stops serves faultless =
    let bad : Some serves.asks.shown ≡ None = sym serves.asks.meta_is ∙ stops.1 in absurd (cc)
fault_goes_on host rounds query meta target told status (Own Unreached) front s h e stops serves faultless = absurd (faultless.net stops.0.unreached.rose)
fault_goes_on host rounds query meta target told status (Own (Link error)) front s h e stops serves faultless =
    absurd (link_goes_on host rounds query meta target told error front stops.0 stops.1 faultless
    (outside host rounds query meta target told error front s h stops.1 serves))
fault_goes_on host rounds query meta target told status Read front s h e stops serves faultless = absurd stops
fault_goes_on host rounds query meta target told status want front s h e stops serves faultless = inr e

pub follow_goes_on : FollowGoesOn
follow_goes_on host rounds query meta target told status s h (Done output, e, (done, w)) serves faultless = inl e
follow_goes_on host rounds query meta target told status s h (OutputCut output, e, c) serves faultless =
    absurd (faultless.output (behind_rose told.output_before told.output_after c.front c.last c.cut))
follow_goes_on host rounds query meta target told status s h (refused_ending front fault, e, (stops, w)) serves faultless =
    fault_goes_on host rounds query meta target told status fault front s h e stops serves faultless
follow_goes_on host rounds query meta target told status s h (LineCut front fault, e, (stops, w)) serves faultless =
    absurd (faultless.output (behind_rose told.output_before told.output_after front (fault_line follow_line fault) w))
