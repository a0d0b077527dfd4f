use Rattle.std.proofs.Common.{rules, ◌≤◌, ◌++◌, [], ℕ, List, length, inl, Option, MatchOption, sym, subst, ◌∙◌, append-nil}
use Rattle.std.specs.Io.KnownBytes.{Consumes, IsAtEnd}
use Rattle.std.proofs.KnownBytes.{Consumes-trans, Consumes-kept}
use Rattle.outside_net.specs.Counts.{Rose}
use Rattle.code_table.specs.declared.row.CodeRow.{CodeRow}
use Rattle.dmap_stream.specs.declared.refusal.StreamError.TheVariants as stream
use Rattle.command_core.specs.declared.fault.Fault.TheVariants.{Own}
use Rattle.command_core.specs.Causes.{piece_limit}
use Rattle.tag_commands.specs.declared.learn.LearnFault.TheVariants.{Broken}
use Rattle.tag_commands.specs.LearnCodes.{IsReply, StopsReading}
use Rattle.tag_commands.specs.Learning.{IsLearning}
use Rattle.tag_commands.proofs.Learned.{begun, failed_begun, early_cause, learn_cause}
use Rattle.tag_commands.proofs.learn.Learner.read_reply.Goals as goal

pub returns-in-Err : goal.returns-in-Err
returns-in-Err g c = record {
  told = tt;
  faultless = tt;
  cause =
      failed_begun (record { left = g.I.Source.left c.args.input.now; faults = g.I.Faulted.faults c.args.input.now })
      (record { left = g.I.Source.left c.read.new.self; faults = g.I.Faulted.faults c.read.new.self }) c.loop-n.invariant.fed
      (Consumes-kept _ _ _ _ c.loop-n.invariant.read c.in-Err.ensures.moved) (begun c.loop-n.invariant.fed c.loop-n.self c.loop-n.invariant.learning)
      (let rose : Rose (g.I.Faulted.faults c.loop-n.input) (g.I.Faulted.faults c.read.new.self) = c.in-Err.ensures.count in
      subst (λ n. Rose n (g.I.Faulted.faults c.read.new.self)) c.loop-n.invariant.faultless rose);
}

pub returns-then-n-eq0 : goal.returns-then-n-eq0
returns-then-n-eq0 g c = record {
  told = tt;
  faultless = tt;
  cause =
      let fed = c.loop-n.invariant.fed in
      let end : IsAtEnd (g.I.Source.left c.read.new.self) = search rules in
      let none : Consumes (g.I.Source.left c.loop-n.input) (g.I.Source.left c.read.new.self) [] = search rules in
      subst (λ (n : ℕ). StopsReading (record { left = g.I.Source.left c.args.input.now; faults = g.I.Faulted.faults c.args.input.now })
      (record { left = g.I.Source.left c.read.new.self; faults = g.I.Faulted.faults c.read.new.self }) (Own (Broken (stream.Truncated n)))) (sym c.loop-n.invariant.learning.counted.bytes)
      (early_cause (record { left = g.I.Source.left c.args.input.now; faults = g.I.Faulted.faults c.args.input.now })
      (record { left = g.I.Source.left c.read.new.self; faults = g.I.Faulted.faults c.read.new.self }) fed
      (subst (Consumes (g.I.Source.left c.args.input.now) (g.I.Source.left c.read.new.self)) (append-nil fed) (Consumes-trans _ _ _ _ _ c.loop-n.invariant.read none))
      end (c.in-Ok.ensures.count ∙ c.loop-n.invariant.faultless) (begun fed c.loop-n.self c.loop-n.invariant.learning));
}

pub loop-n-preserved : goal.loop-n-preserved
loop-n-preserved g c =
    let fed = c.loop-n.invariant.fed in
    let piece = c.split_at.result.0.now in
    let took = c.in-Ok-None.ensures.took fed c.loop-n.invariant.learning in
    record {
      fed = fed ++ piece;
      learning =
          subst (λ (learned : Option (List CodeRow)). MatchOption learned (IsLearning (fed ++ piece) c.take.new.self) (λ rows. IsReply rows (fed ++ piece)))
          c.in-Ok-None.field-0-is took;
      read =
          subst (λ (bytes : List ℕ). Consumes (g.I.Source.left c.args.input.now) (g.I.Source.left c.read.new.self) (fed ++ bytes)) (sym c.split_at.ensures.front)
          (Consumes-trans _ _ _ _ _ c.loop-n.invariant.read c.in-Ok.ensures.moved.0);
      faultless = c.in-Ok.ensures.count ∙ c.loop-n.invariant.faultless;
    }

pub returns-in-Ok-Some : goal.returns-in-Ok-Some
returns-in-Ok-Some g c = record {
  told =
      let fed = c.loop-n.invariant.fed in
      let piece = c.split_at.result.0.now in (
        fed ++ piece,
        subst (λ (learned : Option (List CodeRow)). MatchOption learned (IsLearning (fed ++ piece) c.take.new.self) (λ rows. IsReply rows (fed ++ piece)))
            c.in-Ok-Some.field-0-is (c.in-Ok-Some.ensures.took fed c.loop-n.invariant.learning),
        subst (λ (bytes : List ℕ). Consumes (g.I.Source.left c.args.input.now) (g.I.Source.left c.read.new.self) (fed ++ bytes)) (sym c.split_at.ensures.front)
            (Consumes-trans _ _ _ _ _ c.loop-n.invariant.read c.in-Ok.ensures.moved.0),
      );
  faultless = c.in-Ok.ensures.count ∙ c.loop-n.invariant.faultless;
  cause = tt;
}

pub returns-in-Err-take : goal.returns-in-Err-take
returns-in-Err-take g c = record {
  told = tt;
  faultless = tt;
  cause =
      let fed = c.loop-n.invariant.fed in
      let piece = c.split_at.result.0.now in
      let read =
      subst (λ (bytes : List ℕ). Consumes (g.I.Source.left c.args.input.now) (g.I.Source.left c.read.new.self) (fed ++ bytes)) (sym c.split_at.ensures.front)
      (Consumes-trans _ _ _ _ _ c.loop-n.invariant.read c.in-Ok.ensures.moved.0) in
      let short : length piece ≤ piece_limit = search rules in
      learn_cause (record { left = g.I.Source.left c.args.input.now; faults = g.I.Faulted.faults c.args.input.now })
      (record { left = g.I.Source.left c.read.new.self; faults = g.I.Faulted.faults c.read.new.self }) (fed ++ piece) c.in-Err-take.fault read
      (c.in-Ok.ensures.count ∙ c.loop-n.invariant.faultless)
      (record { front = fed; last = piece; read = read; short = short; on = inl (begun fed c.loop-n.self c.loop-n.invariant.learning) })
      (c.in-Err-take.ensures.stopped fed c.loop-n.invariant.learning);
}
