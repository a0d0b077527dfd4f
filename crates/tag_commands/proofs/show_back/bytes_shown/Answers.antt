use Rattle.std.proofs.Common.{Err, List, sym, subst, ap, ◌∙◌, length, arith}
use Rattle.outside_net.specs.declared.reading.ReadError.{ReadError}
use Rattle.dmap_tags.specs.Spelling.{are_spellable}
use Rattle.dmap_tags.specs.Tree.{Tree, trees_of}
use Rattle.command_core.specs.Seen.{InputSeen}
use Rattle.tag_commands.specs.ShowBack.{StopsReading}
use Rattle.tag_commands.proofs.Backed.{back_spellable, unread_cause}
use Rattle.tag_commands.proofs.show_back.bytes_shown.Goals as goal

pub returns-in-Err-clause-cause : goal.returns-in-Err-clause-cause
returns-in-Err-clause-cause g c =
    let before : InputSeen = record { left = g.I.Source.left c.args.input.now; faults = g.I.Faulted.faults c.args.input.now } in
    let after : InputSeen = record { left = g.I.Source.left c.read_within.new.source; faults = g.I.Faulted.faults c.read_within.new.source } in
    let read = c.in-Err.ensures in
    subst (StopsReading before after) (sym c.read_fault.ensures)
    (unread_cause before after c.in-Err.error (λ is. read.failed (ap (λ (e : ReadError). Err e) is)) read.part
    (λ is. read.too_long (ap (λ (e : ReadError). Err e) is)) read.count)

pub bytes_of-requires : goal.bytes_of-requires
bytes_of-requires g c =
    ap (λ (tags : List Tree). are_spellable (trees_of tags)) c.as_slice-2.ensures
    ∙ back_spellable c.as_slice.result.now c.in-Ok-tags_shown.tags (omega (arith, c.in-Ok.ensures.within, ap length c.as_slice.ensures.value)) c.in-Ok-tags_shown.ensures.shown
