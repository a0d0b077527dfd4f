use Rattle.std.proofs.Common.{◌++◌, IfOk, IfErr, length, ◌≤◌, List, ℕ, refl, subst}
use Rattle.outside_net.specs.Told.{AppendsPrefix}
use Rattle.std.specs.Io.KnownBytes.{Appends}
use Rattle.tag_commands.specs.TopTags.{tags_limit}
use Rattle.tag_commands.specs.Showing.{IsShowing, StopsShowing}
use Rattle.tag_commands.proofs.Showing.{begins_taken, cleared}
use Rattle.tag_commands.proofs.show.Shower.step.Goals as goal

pub returns-in-Err-clause-stopped : goal.returns-in-Err-clause-stopped
returns-in-Err-clause-stopped g c =
    let shower = c.take-took.new.self in
    let bytes = c.args.piece.now in
    λ fed written h. (
      shower.lines.items,
      (
        begins_taken c.take-took.result (fed ++ bytes) written shower
            (λ x is. subst (λ r. IfOk r (λ _. IsShowing (fed ++ bytes) written shower × (length (fed ++ bytes) ≤ tags_limit))) is (c.take-took.ensures.took fed written h))
            (λ fault is. subst (λ r. IfErr r (λ f. StopsShowing (fed ++ bytes) (written ++ shower.lines.items) f)) is (c.take-took.ensures.stopped fed written h)),
        record {
          taken = subst (λ (l : List ℕ). AppendsPrefix (g.W.Sink.taken c.args.output.now) (g.W.Sink.taken c.put_all.new.sink) l) c.as_slice.ensures.value c.in-Err.ensures.part;
          rose = c.in-Err.ensures.count;
        },
      ),
    )

pub returns-in-Ok-clause-went : goal.returns-in-Ok-clause-went
returns-in-Ok-clause-went g c =
    let shower = c.take-took.new.self in
    λ fed written h.
    let took = c.in-Ok.ensures.took fed written h in (
      shower.lines.items,
      cleared (fed ++ c.args.piece.now) written shower (record { counter = shower.counter; lines = c.clear.new.self }) took.0 refl c.clear.ensures.items,
      took.1,
      record {
        taken = subst (λ (l : List ℕ). Appends (g.W.Sink.taken c.args.output.now) (g.W.Sink.taken c.put_all.new.sink) l) c.as_slice.ensures.value c.in_default.ensures.all;
        faultless = c.in_default.ensures.count;
      },
    )
