use Rattle.std.proofs.Common.{refl}
use Rattle.rehearsal.proofs.RunFacts.{begun, is_mirror}
use Rattle.rehearsal.proofs.run.Run.new.Goals as goal

pub returns-clause-stands : goal.returns-clause-stands
returns-clause-stands c =
    begun c.args.plan.now
    (record { draws = record { state = c.args.plan.now.number }; log = c.new.result; store = c.open.result; first = c.new-2.result; second = c.new-3.result; third = c.new-4.result })
    c.requires refl c.new.ensures c.open.ensures.stands c.open.ensures.keep

pub returns-clause-mirrors : goal.returns-clause-mirrors
returns-clause-mirrors c = record {
  first = c.new-2.ensures.follows c.args.plan.now;
  second = c.new-3.ensures.follows c.args.plan.now;
  third = c.new-4.ensures.follows c.args.plan.now;
  everything = c.new-2.ensures.mirror;
  artists = is_mirror c.new-3.ensures.mirror c.in_ok-artists.ensures;
  years = is_mirror c.new-4.ensures.mirror c.in_ok-years.ensures;
}
