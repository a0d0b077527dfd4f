use Rattle.std.proofs.Common.{sym, subst, ap}
use Rattle.command_core.specs.Seen.{InputSeen, input_seen, share_with}
use Rattle.share_commands.specs.ListShare.{StopsOpening}
use Rattle.share_commands.proofs.Unopened.{unread_cause, library_cause, is_share}
use Rattle.share_commands.proofs.list.open_checked.Goals as goal

pub returns-in-Err-clause-cause : goal.returns-in-Err-clause-cause
returns-in-Err-clause-cause g c =
    let before : InputSeen = input_seen (g.I.Source.left c.args.input.now) (g.I.Faulted.faults c.args.input.now) in
    let after : InputSeen = input_seen (g.I.Source.left c.read_records.new.input) (g.I.Faulted.faults c.read_records.new.input) in
    subst (StopsOpening c.args.target before after) (sym c.input_fault.ensures) (unread_cause c.args.target before after c.in-Err.fault c.in-Err.ensures.cause)

-- the share is not listed
pub returns-in-Some-clause-cause : goal.returns-in-Some-clause-cause
returns-in-Some-clause-cause g c =
    let before : InputSeen = input_seen (g.I.Source.left c.args.input.now) (g.I.Faulted.faults c.args.input.now) in
    let after : InputSeen = input_seen (g.I.Source.left c.read_records.new.input) (g.I.Faulted.faults c.read_records.new.input) in
    let batch = c.in-Ok.batch in
    library_cause c.args.target before after batch c.in-Some.own c.in-Ok.ensures.reads (c.in-Some.ensures batch c.in_ok-opened.ensures)

pub returns-in-None-clause-opened : goal.returns-in-None-clause-opened
returns-in-None-clause-opened g c =
    let batch = c.in-Ok.batch in
    let read = c.in-Ok.ensures.reads in
    let opened = c.in_ok-opened.ensures in (
      batch,
      record {
        bytes = read.bytes;
        read = read.read;
        end = read.end;
        faultless = read.faultless;
        of = is_share c.args.target read.bytes batch read.of (c.in-None.ensures batch opened);
        opened = ap share_with opened.history;
      },
      opened,
      c.in-Ok.ensures.few,
    )
