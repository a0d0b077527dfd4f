use Rattle.std.proofs.Common.{◌≡◌, List, [], inl, inr, refl, sym, ap, ◌∙◌, subst}
use Rattle.std.specs.Io.KnownBytes.{Appends}
use Rattle.outside_net.specs.Counts.{Rose}
use Rattle.outside_net.specs.Told.{AppendsPrefix}
use Rattle.item_model.specs.declared.changes.Entry.{Entry}
use Rattle.command_core.specs.Seen.{OutputSeen, output_seen}
use Rattle.share_replay.specs.Machine.{script_bytes, script_history}
use Rattle.share_replay.specs.Played.{IsBrokenOff}
use Rattle.share_replay.specs.Stops.{CountsFault}
use Rattle.share_replay.specs.declared.replay_error.ReplayError.{ReplayError}
use Rattle.share_commands.proofs.replay.play.Goals as goal

pub returns-in-Ok : goal.returns-in-Ok
returns-in-Ok g c =
    let s = c.args.share.settings in
    let script = c.args.script.now in
    let sink : OutputSeen = output_seen (g.W.Sink.taken c.args.output.now) (g.W.Faulted.faults c.args.output.now) in
    let sink' : OutputSeen = output_seen (g.W.Sink.taken c.replay.new.sink) (g.W.Faulted.faults c.replay.new.sink) in
    let is : c.of.result ≡ script_history s [] script =
    c.of.ensures ∙ c.into_history.ensures.history ∙ c.in-Ok.ensures.history ∙ ap (λ (h : List Entry). script_history s h script) c.requires in
    let written : Appends sink.taken sink'.taken (script_bytes s [] script) =
    subst (λ (h : List Entry). Appends sink.taken sink'.taken (script_bytes s h script)) c.requires c.in-Ok.ensures.written in
    (c.of.result, refl, inl (record { done = refl; left = is; written = record { taken = written; faultless = c.in-Ok.ensures.count } }))

pub returns-in-Err-Failed : goal.returns-in-Err-Failed
returns-in-Err-Failed g c =
    let s = c.args.share.settings in
    let script = c.args.script.now in
    let sink : OutputSeen = output_seen (g.W.Sink.taken c.args.output.now) (g.W.Faulted.faults c.args.output.now) in
    let sink' : OutputSeen = output_seen (g.W.Sink.taken c.replay.new.sink) (g.W.Faulted.faults c.replay.new.sink) in
    let left = c.of-in-Err-Failed.result in
    let is : c.replay.new.share.history ≡ left = sym (c.of-in-Err-Failed.ensures ∙ c.into_history-in-Err-Failed.ensures.history) in
    let broken : IsBrokenOff s [] script left sink.taken sink'.taken =
    subst (λ (h : List Entry). IsBrokenOff s h script left sink.taken sink'.taken) c.requires
    (subst (λ (h : List Entry). IsBrokenOff s c.args.share.history script h sink.taken sink'.taken) is c.in-Err-Failed.ensures.part) in
    let front : AppendsPrefix sink.taken sink'.taken (script_bytes s [] script) =
    subst (λ (h : List Entry). AppendsPrefix sink.taken sink'.taken (script_bytes s h script)) c.requires c.in-Err-Failed.ensures.front in
    let rose : Rose sink.faults sink'.faults = subst (λ (e : ReplayError). CountsFault sink.faults sink'.faults e) c.in-Err-Failed.field-0-is c.in-Err-Failed.ensures.count in
    (left, refl, inr (inl (record { failed = refl; moment = broken; cut = record { taken = front; rose = rose } })))

pub returns-in-Err-Memory : goal.returns-in-Err-Memory
returns-in-Err-Memory g c =
    let s = c.args.share.settings in
    let script = c.args.script.now in
    let sink : OutputSeen = output_seen (g.W.Sink.taken c.args.output.now) (g.W.Faulted.faults c.args.output.now) in
    let mid : OutputSeen = output_seen (g.W.Sink.taken c.replay.new.sink) (g.W.Faulted.faults c.replay.new.sink) in
    let left = c.of-in-Err-Memory.result in
    let is : c.replay.new.share.history ≡ left = sym (c.of-in-Err-Memory.ensures ∙ c.into_history-in-Err-Memory.ensures.history) in
    let broken : IsBrokenOff s [] script left sink.taken mid.taken =
    subst (λ (h : List Entry). IsBrokenOff s h script left sink.taken mid.taken) c.requires
    (subst (λ (h : List Entry). IsBrokenOff s c.args.share.history script h sink.taken mid.taken) is c.in-Err-Memory.ensures.part) in
    let front : AppendsPrefix sink.taken mid.taken (script_bytes s [] script) =
    subst (λ (h : List Entry). AppendsPrefix sink.taken mid.taken (script_bytes s h script)) c.requires c.in-Err-Memory.ensures.front in
    let faultless : mid.faults ≡ sink.faults = subst (λ (e : ReplayError). CountsFault sink.faults mid.faults e) c.in-Err-Memory.field-0-is c.in-Err-Memory.ensures.count in (
      left,
      c.out_of_memory.ensures.history,
      inr (inr (record { mid = mid; moment = broken; front = front; faultless = faultless; line = c.out_of_memory.ensures.told })),
    )
