use Rattle.std.proofs.Common.{◌+◌, ◌-◌, ◌∙◌, length, arith, ap}
use Rattle.http_heads.specs.Gathering.{kept}
use Rattle.http_heads.proofs.Messages.{refused_short}
use Rattle.http_client.proofs.Fed.{gathered, stopped_behind, stopped_counts}
use Rattle.http_client.proofs.reader.gather.Goals as goal

pub refused_len-requires : goal.refused_len-requires
refused_len-requires c =
    let stopped = c.in-Err.ensures.takes c.if-is_memory.ensures in
    refused_short c.args.replies.now.kind (kept c.take.new.self) c.in-Err.error stopped.refused

pub overflow_add-result : goal.overflow_add-result
overflow_add-result c =
    let stopped = c.in-Err.ensures.takes c.if-is_memory.ensures in
    let counts = stopped_counts c.args.replies.now c.take.new.self c.args.piece.now c.in-Err.error stopped in
    omega (arith, counts, c.refused_len.ensures, c.len-before.ensures.len, c.requires.count)

pub returns-in-Ok-clause-gathers : goal.returns-in-Ok-clause-gathers
returns-in-Ok-clause-gathers c =
    gathered c.args.taken c.args.replies.now c.take.new.self c.whole_reply.new.replies c.args.piece.now c.in-Ok.n c.whole_reply.result
    c.in-Ok.ensures.kind c.requires.at c.requires.partial c.in-Ok.ensures.takes c.whole_reply.ensures.gives

pub returns-else-is_memory-clause-gathers : goal.returns-else-is_memory-clause-gathers
returns-else-is_memory-clause-gathers c =
    let stopped = c.in-Err.ensures.takes c.if-is_memory.ensures in
    stopped_behind c.args.taken c.args.replies.now c.take.new.self c.args.piece.now c.in-Err.error
    (c.args.taken + (c.refused_len.result - c.len-before.result)) c.requires.kind stopped
    (ap (λ n. c.args.taken + (n - c.len-before.result)) c.refused_len.ensures
    ∙ ap (λ n. c.args.taken + (length (kept c.take.new.self) - n)) c.len-before.ensures.len)
