use Rattle.std.proofs.Common.{refl}
use Rattle.share_server.specs.Written.{replaced}
use Rattle.share_server.proofs.link.writing.end_without_head.Goals as goal

pub returns-clause-written : goal.returns-clause-written
returns-clause-written g c = λ bytes due. replaced c.if-added.false c.end_out_of_memory.result c.end_out_of_memory.ensures.told refl
