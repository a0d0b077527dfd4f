use Rattle.std.proofs.Common.{sym, subst}
use Rattle.std.specs.Prelude.{option_to_list}
use Rattle.dmap_stream.specs.Reader.{HasRead}
use Rattle.dmap_stream.proofs.Readings.{handed_more, taken_out}
use Rattle.dmap_stream.proofs.reader.DmapReader.next.Goals as goal

pub returns-clause-read : goal.returns-clause-read
returns-clause-read c =
    λ fed handed h.
    handed_more c.self.inside.table c.self.inside.limits.top c.self.inside.error fed handed (option_to_list c.next.result) c.self.inside.position c.next.new.self
    (taken_out c.next.result c.self.inside.position c.next.new.self c.next.ensures.none c.next.ensures.some)
    (λ rest. c.next.ensures.rest c.self.inside.table c.self.inside.limits.top rest) c.next.ensures.due c.next.ensures.taken
    (subst (HasRead fed handed) (sym c.self.view_is) h)
