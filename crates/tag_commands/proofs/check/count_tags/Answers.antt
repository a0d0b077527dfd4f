use Rattle.std.proofs.Common.{rules, ◌≤◌, ◌++◌, ℕ, List, length, sym, subst, ◌∙◌}
use Rattle.outside_net.specs.Counts.{Rose}
use Rattle.std.specs.Io.KnownBytes.{Consumes}
use Rattle.std.proofs.KnownBytes.{Consumes-trans, Consumes-kept}
use Rattle.command_core.specs.Seen.{InputSeen}
use Rattle.command_core.specs.Causes.{piece_limit}
use Rattle.tag_commands.proofs.Counted.{on_piece, stopped_cause, failed_cause}
use Rattle.tag_commands.proofs.check.count_tags.Goals as goal

pub returns-in-Err : goal.returns-in-Err
returns-in-Err g c = record {
  read = tt;
  end = tt;
  faultless = tt;
  cause =
      failed_cause (record { left = g.I.Source.left c.args.input.now; faults = g.I.Faulted.faults c.args.input.now })
      (record { left = g.I.Source.left c.read.new.self; faults = g.I.Faulted.faults c.read.new.self }) c.loop-n.invariant.fed c.loop-n.counter
      (Consumes-kept _ _ _ _ c.loop-n.invariant.read c.in-Err.ensures.moved) c.loop-n.invariant.counted
      c.loop-n.invariant.within (let rose : Rose (g.I.Faulted.faults c.loop-n.input) (g.I.Faulted.faults c.read.new.self) = c.in-Err.ensures.count in
      subst (λ n. Rose n (g.I.Faulted.faults c.read.new.self)) c.loop-n.invariant.faultless rose);
}

pub returns-in-Err-take : goal.returns-in-Err-take
returns-in-Err-take g c = record {
  read = tt;
  end = tt;
  faultless = tt;
  cause =
      let fed = c.loop-n.invariant.fed in
      let piece = c.split_at.result.0.now in
      let before : InputSeen = record { left = g.I.Source.left c.args.input.now; faults = g.I.Faulted.faults c.args.input.now } in
      let after : InputSeen = record { left = g.I.Source.left c.read.new.self; faults = g.I.Faulted.faults c.read.new.self } in
      let read =
      subst (λ (bytes : List ℕ). Consumes (g.I.Source.left c.args.input.now) (g.I.Source.left c.read.new.self) (fed ++ bytes)) (sym c.split_at.ensures.front)
      (Consumes-trans _ _ _ _ _ c.loop-n.invariant.read c.in-Ok.ensures.moved.0) in
      let short : length piece ≤ piece_limit = search rules in
      stopped_cause before after (fed ++ piece) c.in-Err-take.fault read (c.in-Ok.ensures.count ∙ c.loop-n.invariant.faultless)
      (on_piece before after fed piece c.loop-n.counter read short c.loop-n.invariant.counted c.loop-n.invariant.within)
      (c.in-Err-take.ensures.stopped fed c.loop-n.invariant.counted);
}

pub loop-n-preserved : goal.loop-n-preserved
loop-n-preserved g c =
    let fed = c.loop-n.invariant.fed in
    let took = c.in_default.ensures.took fed c.loop-n.invariant.counted in
    record {
      fed = fed ++ c.split_at.result.0.now;
      counted = took.0;
      within = took.1;
      read =
          subst (λ (bytes : List ℕ). Consumes (g.I.Source.left c.args.input.now) (g.I.Source.left c.read.new.self) (fed ++ bytes)) (sym c.split_at.ensures.front)
          (Consumes-trans _ _ _ _ _ c.loop-n.invariant.read c.in-Ok.ensures.moved.0);
      faultless = c.in-Ok.ensures.count ∙ c.loop-n.invariant.faultless;
    }
