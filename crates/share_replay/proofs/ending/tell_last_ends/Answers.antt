use Rattle.std.proofs.Common.{◌≡◌, ◌+◌, ℕ, Option, ap, ◌∙◌, subst}
use Rattle.std.specs.Io.KnownBytes.{Appends}
use Rattle.std.specs.Option.{option_and_then}
use Rattle.outside_net.specs.Told.{AppendsPrefix}
use Rattle.share_replay.specs.Connections.{last_end}
use Rattle.share_replay.specs.Ends.{end_line}
use Rattle.share_replay.specs.declared.ends.End.{End}
use Rattle.share_replay.proofs.EndFacts.{cut_told, one_told}
use Rattle.share_replay.proofs.ending.tell_last_ends.Goals as goal

pub returns-in-Err-clause-part : goal.returns-in-Err-clause-part
returns-in-Err-clause-part g c =
    let slot = c.slot-item.result in
    let t = g.W.Sink.taken c.loop-slot.sink in
    let t' = g.W.Sink.taken c.tell_end.new.sink in
    let end : c.last_end_of.result ≡ option_and_then last_end slot = c.last_end_of.ensures ∙ ap (option_and_then last_end) c.as_ref.ensures.value in
    let line : AppendsPrefix t t' (end_line (c.loop-slot.slot-index + 1) (option_and_then last_end slot)) =
    subst (λ (n : ℕ). AppendsPrefix t t' (end_line (n + 1) (option_and_then last_end slot))) c.loop-slot.invariant.number
    (subst (λ (e : Option End). AppendsPrefix t t' (end_line (c.loop-slot.number + 1) e)) end c.in-Err.ensures.part) in
    cut_told c.args.connections.now c.loop-slot.slot-index slot (g.W.Sink.taken c.args.sink.now) t t' c.loop-slot.invariant.told c.loop-slot-test.true c.slot-item.is line

pub loop-slot-preserved : goal.loop-slot-preserved
loop-slot-preserved g c =
    let slot = c.slot-item.result in
    let t = g.W.Sink.taken c.loop-slot.sink in
    let t' = g.W.Sink.taken c.tell_end.new.sink in
    let end : c.last_end_of.result ≡ option_and_then last_end slot = c.last_end_of.ensures ∙ ap (option_and_then last_end) c.as_ref.ensures.value in
    let line : Appends t t' (end_line (c.loop-slot.slot-index + 1) (option_and_then last_end slot)) =
    subst (λ (n : ℕ). Appends t t' (end_line (n + 1) (option_and_then last_end slot))) c.loop-slot.invariant.number
    (subst (λ (e : Option End). Appends t t' (end_line (c.loop-slot.number + 1) e)) end c.in-Ok.ensures.told) in
    record {
      told = one_told c.args.connections.now c.loop-slot.slot-index slot (g.W.Sink.taken c.args.sink.now) t t' c.loop-slot.invariant.told c.loop-slot-test.true c.slot-item.is line;
      number = ap (λ (n : ℕ). n + 1) c.loop-slot.invariant.number;
      faultless = c.in-Ok.ensures.count ∙ c.loop-slot.invariant.faultless;
    }
