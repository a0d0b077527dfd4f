use Rattle.std.proofs.Common.{◌≡◌, List, ℕ, Ok, Err, sym, subst, ap}
use Rattle.outside_net.specs.declared.reading.ReadError.{ReadError}
use Rattle.command_core.specs.Causes.{StopsBy}
use Rattle.command_core.specs.Seen.{InputSeen, input_seen}
use Rattle.share_replay.specs.Refusals.{IsRefused}
use Rattle.share_replay.specs.Scripts.{script_of}
use Rattle.share_replay.specs.declared.script.ScriptError.{ScriptError}
use Rattle.share_commands.specs.ReplayShare.{ReplayReadsOn, replay_cause}
use Rattle.share_commands.proofs.ReplayCauses.{no_script, unread}
use Rattle.share_commands.proofs.replay.script_of.Goals as goal

pub returns-in-Err-clause-cause : goal.returns-in-Err-clause-cause
returns-in-Err-clause-cause g c =
    let before : InputSeen = input_seen (g.I.Source.left c.args.input.now) (g.I.Faulted.faults c.args.input.now) in
    let after : InputSeen = input_seen (g.I.Source.left c.read_within.new.source) (g.I.Faulted.faults c.read_within.new.source) in
    let read = c.in-Err.ensures in
    subst (StopsBy replay_cause ReplayReadsOn (Unit {0}) before after) (sym c.read_fault.ensures)
    (unread before after c.in-Err.error (λ is. read.failed (ap (λ (e : ReadError). Err e) is)) read.part
    (λ is. read.too_long (ap (λ (e : ReadError). Err e) is)) read.count)

pub returns-in-Err-Line-clause-cause : goal.returns-in-Err-Line-clause-cause
returns-in-Err-Line-clause-cause g c =
    let before : InputSeen = input_seen (g.I.Source.left c.args.input.now) (g.I.Faulted.faults c.args.input.now) in
    let after : InputSeen = input_seen (g.I.Source.left c.read_within.new.source) (g.I.Faulted.faults c.read_within.new.source) in
    let read = c.in-Ok.ensures in
    let bad = subst (λ (e : ScriptError). IsRefused c.as_slice.result.now e) c.in-Err-Line.field-0-is c.in-Err-Line.ensures.refused in
    no_script before after c.in-Ok.bytes.items c.in-Err-Line.line read.whole read.end read.within read.count
    (subst (λ (l : List ℕ). script_of l ≡ Err c.in-Err-Line.line) c.as_slice.ensures.value bad)

pub returns-in-Ok-read-clause-read : goal.returns-in-Ok-read-clause-read
returns-in-Ok-read-clause-read g c =
    let read = c.in-Ok.ensures in
    let script = c.in-Ok-read.script in
    record {
      bytes = c.in-Ok.bytes.items;
      read = read.whole;
      end = read.end;
      faultless = read.count;
      script = record { within = read.within; read = subst (λ (l : List ℕ). script_of l ≡ Ok script) c.as_slice.ensures.value c.in-Ok-read.ensures.read };
    }
