use Rattle.std.proofs.Common.{rules, ap, ◌∙◌}
use mathlib.Core.Option.{none}
use Rattle.atomic_table.specs.Table.{step}
use Rattle.share_lock.proofs.Steps.{enters}
use Rattle.share_lock.proofs.Tells.{alone, has_entered, has_missed, in_hand, is_found, has_taken}
use Rattle.share_lock.proofs.seats.enter.Goals as goal

pub load-requires : goal.load-requires
load-requires g c = let same = c.loop.invariant.1 in (
  search rules,
  search rules,
  enters g.S.Recorded.entries g.S.Recorded.by g.S.Recorded.settings _ _ _ _ c.args.ticket (ap (λ m. m.0.ticket) same ∙ c.requires.waits.0) (ap (λ m. m.0.inside) same ∙ c.requires.waits.1),
)

pub exchange-requires : goal.exchange-requires
exchange-requires g c =
    let f = has_entered g.S.Recorded.entries g.S.Recorded.by g.S.Recorded.settings (step 1 1 0 0 none) _ _ _ _ _ c.loop.invariant.1 c.requires.waits.0 c.if-load-ticket.true c.load.ensures.2 in
    (search rules, (_, alone _ _ (in_hand g.S.Recorded.entries g.S.Recorded.by g.S.Recorded.settings _ _ f c.requires.waits.2)))

pub unwrap-requires : goal.unwrap-requires
unwrap-requires g c =
    let f = has_entered g.S.Recorded.entries g.S.Recorded.by g.S.Recorded.settings (step 1 1 0 0 none) _ _ _ _ _ c.loop.invariant.1 c.requires.waits.0 c.if-load-ticket.true c.load.ensures.2 in
    is_found g.S.Recorded.entries g.S.Recorded.by g.S.Recorded.settings _ _ _ f c.requires.waits.2 c.exchange.ensures.2

pub returns-then-load-ticket : goal.returns-then-load-ticket
returns-then-load-ticket g c =
    let f = has_entered g.S.Recorded.entries g.S.Recorded.by g.S.Recorded.settings (step 1 1 0 0 none) _ _ _ _ _ c.loop.invariant.1 c.requires.waits.0 c.if-load-ticket.true c.load.ensures.2 in
    let t = has_taken g.S.Recorded.entries g.S.Recorded.by g.S.Recorded.settings _ _ _ _ _ f c.requires.waits.2 c.requires.passes c.exchange.ensures.2 c.exchange.ensures.3 c.unwrap.ensures in
    record { table = search rules; inside = t.holds; settings = t.about; history = t.history; numbers = t.numbers }

pub loop-preserved : goal.loop-preserved
loop-preserved g c = (search rules, has_missed g.S.Recorded.entries g.S.Recorded.by g.S.Recorded.settings (step 1 1 0 0 none) _ _ _ _ _ c.loop.invariant.1 c.requires.waits.0 c.if-load-ticket.false c.load.ensures.2)
