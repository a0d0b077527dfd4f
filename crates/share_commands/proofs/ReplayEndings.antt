-- How a replay ends, by what it left of the share and the output.
use Rattle.std.proofs.Common.{◌≡◌, ℕ, List, [], Option, Some, take, inl, inr, refl, sym, subst, ap, ◌∙◌}
use Rattle.item_model.specs.declared.changes.Entry.{Entry}
use Rattle.command_core.specs.declared.fault.Fault.{Fault}
use Rattle.command_core.specs.declared.fault.Fault.TheVariants.{Own, Read, Memory}
use Rattle.command_core.specs.declared.outcome.Outcome.{Outcome}
use Rattle.command_core.specs.Endings.{IsAnswered}
use Rattle.command_core.specs.Seen.{Around, InputSeen, OutputSeen, Seen, ShareSeen, Run, no_share, share_with, run_over_streams}
use Rattle.command_core.proofs.Ended.{by_cut, by_done, by_memory}
use Rattle.share_replay.specs.Machine.{script_bytes}
use Rattle.share_replay.specs.Played.{IsBrokenOff}
use Rattle.share_replay.specs.declared.delivery.Delivery.{Delivery}
use Rattle.share_replies.specs.Settings.{Settings}
use Rattle.share_commands.specs.Moments.{EndsPlay}
use Rattle.share_commands.specs.ReadScript.{IsRead}
use Rattle.share_commands.specs.ReplayShare.{IsBegun, LeavesMoment, ReplayLeaves, ReplayWrote, replay_meaning, settings_of}
use Rattle.share_commands.specs.declared.replay.ReplayFault.{ReplayFault}
use Rattle.share_commands.proofs.ReplaySense.{replay_sense}

-- a share was opened, and the script was played to it
of_one_moment : (s : Settings) (told : Run) (outcome : Outcome) (lines : List Delivery) (h : List Entry) → IsRead lines told.before.input told.after.input → outcome.history ≡ Some h
    → EndsPlay s lines told.output_before told.output_after outcome.status h → LeavesMoment s told outcome outcome.history
of_one_moment s told outcome lines h read history ends = subst (LeavesMoment s told outcome) (sym history) (record { lines = lines; read = read; ends = ends })

abbrev shared : Option (List Entry) → ShareSeen
shared history = record { history = history }

begun : (keep : ℕ) (name : List ℕ) (before after : InputSeen) (history : Option (List Entry)) (lines : List Delivery) (h : List Entry) (t t' : Option (List ℕ))
    → IsRead lines before after → history ≡ Some h → IsBrokenOff (settings_of keep name) [] lines h t t' → IsBegun keep name lines before after (shared history)
begun keep name before after history lines h t t' read is broken = record {
  read = read;
  line = broken.line;
  answered = broken.answered;
  opened = ap shared is ∙ ap share_with broken.part.history;
}

-- a run that played the script of the input to a share ends as the specification says
pub answered_by : (keep : ℕ) (name : List ℕ) (around : Around) (before after : InputSeen) (sink sink' : OutputSeen) (outcome : Outcome) (lines : List Delivery) (h : List Entry)
    → IsRead lines before after → outcome.history ≡ Some h → EndsPlay (settings_of keep name) lines sink sink' outcome.status h
    → IsAnswered (replay_meaning keep name) (run_over_streams around before after sink sink') outcome
answered_by keep name around before after sink sink' outcome lines h read history (inl whole) =
    by_done (replay_meaning keep name) (replay_sense keep name) (run_over_streams around before after sink sink') outcome (script_bytes (settings_of keep name) [] lines)
    (of_one_moment (settings_of keep name) (run_over_streams around before after sink sink') outcome lines h read history (inl whole)) (record {
      lines = lines;
      read = read;
      opened = ap shared history ∙ ap share_with whole.left;
      written = refl;
    }) whole.done whole.written
answered_by keep name around before after sink sink' outcome lines h read history (inr (inl cut)) =
    by_cut (replay_meaning keep name) (replay_sense keep name) (run_over_streams around before after sink sink') outcome (script_bytes (settings_of keep name) [] lines)
    (of_one_moment (settings_of keep name) (run_over_streams around before after sink sink') outcome lines h read history (inr (inl cut))) (record {
      lines = lines;
      begun = begun keep name before after outcome.history lines h sink.taken sink'.taken read history cut.moment;
      written = refl;
    }) cut.failed cut.cut
answered_by keep name around before after sink sink' outcome lines h read history (inr (inr wanting)) =
    let front = wanting.front in
    by_memory (replay_meaning keep name) (replay_sense keep name) (run_over_streams around before after sink sink') wanting.mid outcome
    (take front.0 (script_bytes (settings_of keep name) [] lines)) (Some h)
    (of_one_moment (settings_of keep name) (run_over_streams around before after sink sink') outcome lines h read history (inr (inr wanting))) tt
    (inr (lines, begun keep name before after (Some h) lines h sink.taken wanting.mid.taken read refl wanting.moment))
    (inr (record { lines = lines; read = read; count = front.0; written = refl })) (record { taken = front.2; faultless = wanting.faultless })
    (record { history = history; told = wanting.line })

-- nothing was opened and nothing written
pub unopened : (keep : ℕ) (name : List ℕ) (before after : Seen) (fault : Fault ReplayFault) → ReplayLeaves keep name before after fault no_share
unopened keep name before after (Own own) = refl
unopened keep name before after Read = refl
unopened keep name before after Memory = inl refl

pub unwritten : (keep : ℕ) (name : List ℕ) (before after : Seen) (fault : Fault ReplayFault) → ReplayWrote keep name before after fault []
unwritten keep name before after (Own own) = refl
unwritten keep name before after Read = refl
unwritten keep name before after Memory = inl refl
