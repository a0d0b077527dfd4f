use Rattle.std.proofs.Common.{rules, ◌≡◌, ◌<◌, ◌≤◌, ◌++◌, ℕ, List, length, sym, subst, ◌∙◌, arith, length-append}
use Rattle.std.specs.Io.KnownBytes.{Consumes, IsAtEnd}
use Rattle.std.proofs.KnownBytes.{Consumes-trans, Consumes-kept}
use Rattle.outside_net.specs.Counts.{Rose}
use Rattle.command_core.specs.Seen.{InputSeen}
use Rattle.command_core.specs.Causes.{piece_limit}
use Rattle.command_core.proofs.Appending.{written_more}
use Rattle.tag_commands.proofs.InStep.{consumes_none, step_shown, step_stopped}
use Rattle.tag_commands.proofs.Showing.{show_failed, show_read, on_shown, step_stops, written_text}
use Rattle.tag_commands.proofs.show.Shower.show_input.Goals as goal

pub returns-in-Err : goal.returns-in-Err
returns-in-Err g c = record {
  read = tt;
  stopped =
      let now = c.loop-n.invariant in (
        show_failed (record { left = g.I.Source.left c.args.input.now; faults = g.I.Faulted.faults c.args.input.now })
            (record { left = g.I.Source.left c.read.new.self; faults = g.I.Faulted.faults c.read.new.self }) now.fed now.written c.loop-n.self now.showing
            (Consumes-kept _ _ _ now.fed now.read c.in-Err.ensures.moved) now.within
            (subst (λ (n : ℕ). Rose n (g.I.Faulted.faults c.read.new.self)) now.faultless c.in-Err.ensures.count),
        (
          now.written,
          show_read (record { left = g.I.Source.left c.args.input.now; faults = g.I.Faulted.faults c.args.input.now })
              (record { left = g.I.Source.left c.read.new.self; faults = g.I.Faulted.faults c.read.new.self }) now.fed now.written c.loop-n.self now.showing now.idle
              now.within (Consumes-kept _ _ _ now.fed now.read c.in-Err.ensures.moved),
          now.told,
        ),
      );
  in_step =
      let now = c.loop-n.invariant in
      step_shown (record { left = g.I.Source.left c.args.input.now; faults = g.I.Faulted.faults c.args.input.now })
      (record { left = g.I.Source.left c.read.new.self; faults = g.I.Faulted.faults c.read.new.self })
      (record { taken = g.W.Sink.taken c.args.output.now; faults = g.W.Faulted.faults c.args.output.now })
      (record { taken = g.W.Sink.taken c.loop-n.output; faults = g.W.Faulted.faults c.loop-n.output }) now.fed now.written
      (written_text now.fed now.written c.loop-n.self now.showing now.idle now.within) (Consumes-kept _ _ _ now.fed now.read c.in-Err.ensures.moved) now.told.taken;
}

pub returns-then-n-eq0 : goal.returns-then-n-eq0
returns-then-n-eq0 g c =
    let now = c.loop-n.invariant in
    let none : c.in-Ok.n ≡ 0 = omega (arith, c.if-n-eq0.true) in
    let end : IsAtEnd (g.I.Source.left c.read.new.self) = search rules in
    let read = consumes_none _ _ _ now.fed _ c.in-Ok.n none now.read c.in-Ok.ensures.moved.0 in
    record {
      read = (now.fed, now.written, now.showing, now.idle, now.within, read, end, c.in-Ok.ensures.count ∙ now.faultless, now.told);
      stopped = tt;
      in_step =
          step_shown (record { left = g.I.Source.left c.args.input.now; faults = g.I.Faulted.faults c.args.input.now })
          (record { left = g.I.Source.left c.read.new.self; faults = g.I.Faulted.faults c.read.new.self })
          (record { taken = g.W.Sink.taken c.args.output.now; faults = g.W.Faulted.faults c.args.output.now })
          (record { taken = g.W.Sink.taken c.loop-n.output; faults = g.W.Faulted.faults c.loop-n.output }) now.fed now.written
          (written_text now.fed now.written c.loop-n.self now.showing now.idle now.within) read now.told.taken;
    }

pub returns-in-Err-step : goal.returns-in-Err-step
returns-in-Err-step g c = record {
  read = tt;
  stopped =
      let now = c.loop-n.invariant in
      let piece = c.split_at.result.0.now in
      let stopped = c.in-Err-step.ensures.stopped now.fed now.written now.showing in
      let before : InputSeen = record { left = g.I.Source.left c.args.input.now; faults = g.I.Faulted.faults c.args.input.now } in
      let after : InputSeen = record { left = g.I.Source.left c.read.new.self; faults = g.I.Faulted.faults c.read.new.self } in
      let read =
      subst (λ (bytes : List ℕ). Consumes (g.I.Source.left c.args.input.now) (g.I.Source.left c.read.new.self) (now.fed ++ bytes)) (sym c.split_at.ensures.front)
      (Consumes-trans _ _ _ _ _ now.read c.in-Ok.ensures.moved.0) in
      let short : length piece ≤ piece_limit = search rules in
      step_stops before after
      (record { taken = g.W.Sink.taken c.args.output.now; faults = g.W.Faulted.faults c.args.output.now })
      (record { taken = g.W.Sink.taken c.loop-n.output; faults = g.W.Faulted.faults c.loop-n.output })
      (record { taken = g.W.Sink.taken c.step.new.output; faults = g.W.Faulted.faults c.step.new.output }) (now.fed ++ piece) now.written stopped.0 c.in-Err-step.stop read
      (c.in-Ok.ensures.count ∙ now.faultless) (on_shown before after now.fed piece now.written c.loop-n.self read short now.showing now.within) now.told stopped.1;
  in_step =
      let now = c.loop-n.invariant in
      let piece = c.split_at.result.0.now in
      let stopped = c.in-Err-step.ensures.stopped now.fed now.written now.showing in
      let read =
      subst (λ (bytes : List ℕ). Consumes (g.I.Source.left c.args.input.now) (g.I.Source.left c.read.new.self) (now.fed ++ bytes)) (sym c.split_at.ensures.front)
      (Consumes-trans _ _ _ _ _ now.read c.in-Ok.ensures.moved.0) in
      let short : length piece ≤ piece_limit = search rules in
      step_stopped (record { left = g.I.Source.left c.args.input.now; faults = g.I.Faulted.faults c.args.input.now })
      (record { left = g.I.Source.left c.read.new.self; faults = g.I.Faulted.faults c.read.new.self })
      (record { taken = g.W.Sink.taken c.args.output.now; faults = g.W.Faulted.faults c.args.output.now })
      (record { taken = g.W.Sink.taken c.loop-n.output; faults = g.W.Faulted.faults c.loop-n.output })
      (record { taken = g.W.Sink.taken c.step.new.output; faults = g.W.Faulted.faults c.step.new.output }) now.fed piece now.written (now.written ++ stopped.0) stopped.0 c.in-Err-step.stop
      (written_text now.fed now.written c.loop-n.self now.showing now.idle now.within) read short (c.in-Ok.ensures.count ∙ now.faultless) now.told.taken stopped.1;
}

pub loop-n-smaller : goal.loop-n-smaller
loop-n-smaller g c =
    let now = c.loop-n.invariant in
    let went = c.in_default.ensures.went now.fed now.written now.showing in
    let some : 0 < c.in-Ok.n = search rules in
    omega (arith, went.1.bytes, went.2, now.showing.bytes, some, c.split_at.ensures.front_len, length-append now.fed c.split_at.result.0.now)

pub loop-n-preserved : goal.loop-n-preserved
loop-n-preserved g c =
    let now = c.loop-n.invariant in
    let went = c.in_default.ensures.went now.fed now.written now.showing in
    record {
      fed = now.fed ++ c.split_at.result.0.now;
      written = now.written ++ went.0;
      showing = went.1;
      idle = c.in_default.ensures.idle;
      within = went.2;
      read =
          subst (λ (bytes : List ℕ). Consumes (g.I.Source.left c.args.input.now) (g.I.Source.left c.read.new.self) (now.fed ++ bytes)) (sym c.split_at.ensures.front)
          (Consumes-trans _ _ _ _ _ now.read c.in-Ok.ensures.moved.0);
      faultless = c.in-Ok.ensures.count ∙ now.faultless;
      told =
          written_more (record { taken = g.W.Sink.taken c.args.output.now; faults = g.W.Faulted.faults c.args.output.now })
          (record { taken = g.W.Sink.taken c.loop-n.output; faults = g.W.Faulted.faults c.loop-n.output })
          (record { taken = g.W.Sink.taken c.step.new.output; faults = g.W.Faulted.faults c.step.new.output }) now.written went.0 now.told went.3;
    }
