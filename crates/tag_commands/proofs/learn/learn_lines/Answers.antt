use Rattle.std.proofs.Common.{rules, ◌≢◌, ◌≤◌, [], length, take, refl, subst, ◌∙◌, append-nil}
use Rattle.std.specs.Io.KnownBytes.{Consumes, IsAtEnd}
use Rattle.std.proofs.KnownBytes.{Consumes-trans, Consumes-kept}
use Rattle.outside_net.specs.Counts.{Rose}
use Rattle.command_core.specs.Causes.{piece_limit}
use Rattle.tag_commands.proofs.Learned.{failed_behind, behind_cause}
use Rattle.tag_commands.proofs.learn.learn_lines.Goals as goal

pub returns-in-Ok-eq0-clause-learned : goal.returns-in-Ok-eq0-clause-learned
returns-in-Ok-eq0-clause-learned g c =
    let told = c.in-Ok.ensures.told in
    let end : IsAtEnd (g.I.Source.left c.read.new.self) = search rules in
    let none : Consumes (g.I.Source.left c.told_table.new.input) (g.I.Source.left c.read.new.self) [] = search rules in
    record {
      bytes = told.0;
      read = subst (Consumes (g.I.Source.left c.args.input.now) (g.I.Source.left c.read.new.self)) (append-nil told.0) (Consumes-trans _ _ _ _ _ told.2 none);
      end = end;
      faultless = c.in-Ok-eq0.ensures.count ∙ c.in-Ok.ensures.faultless;
      rows = c.in-Ok.table;
      reply = told.1;
      unopened = refl;
      written = c.in_ok-lines_of-in-Ok-eq0.ensures;
    }

pub returns-clause-cause : goal.returns-clause-cause
returns-clause-cause g c =
    let told = c.in-Ok.ensures.told in
    failed_behind (record { left = g.I.Source.left c.args.input.now; faults = g.I.Faulted.faults c.args.input.now })
    (record { left = g.I.Source.left c.read.new.self; faults = g.I.Faulted.faults c.read.new.self }) told.0 c.in-Ok.table
    (Consumes-kept _ _ _ _ told.2 c.in-Err-read.ensures.moved) told.1
    (let rose : Rose (g.I.Faulted.faults c.told_table.new.input) (g.I.Faulted.faults c.read.new.self) = c.in-Err-read.ensures.count in
    subst (λ n. Rose n (g.I.Faulted.faults c.read.new.self)) c.in-Ok.ensures.faultless rose)

pub returns-in-Ok-read-clause-cause : goal.returns-in-Ok-read-clause-cause
returns-in-Ok-read-clause-cause g c =
    let told = c.in-Ok.ensures.told in
    let more = take c.in-Ok-read.field-0 c.read.new.room in
    let some : more ≢ [] = search rules in
    let short : length more ≤ piece_limit = search rules in
    behind_cause (record { left = g.I.Source.left c.args.input.now; faults = g.I.Faulted.faults c.args.input.now })
    (record { left = g.I.Source.left c.read.new.self; faults = g.I.Faulted.faults c.read.new.self }) told.0 more c.in-Ok.table
    (Consumes-trans _ _ _ _ _ told.2 c.in-Ok-read.ensures.moved.0) some short (c.in-Ok-read.ensures.count ∙ c.in-Ok.ensures.faultless) told.1
