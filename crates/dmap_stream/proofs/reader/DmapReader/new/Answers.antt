use Rattle.dmap_stream.proofs.Readings.{begins}
use Rattle.dmap_stream.proofs.reader.DmapReader.new.Goals as goal

pub returns-clause-begins : goal.returns-clause-begins
returns-clause-begins c = begins c.in_ok-copy.field-0 c.args.limits.top c.new.result c.new.ensures
