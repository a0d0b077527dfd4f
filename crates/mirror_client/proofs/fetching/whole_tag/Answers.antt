use Rattle.std.proofs.Common.{length, refl}
use Rattle.mirror_client.proofs.TellingFacts.{none_read, whole}
use Rattle.mirror_client.proofs.fetching.whole_tag.Goals as goal

pub returns-in-Ok : goal.returns-in-Ok
returns-in-Ok c =
    whole c.args.table.now c.args.body.now c.as_slice-bytes.result.now c.in-Ok.tag c.in-Ok.len (length c.as_slice-bytes.result.now) c.sole_tag.result
    c.as_slice-bytes.ensures refl c.in-Ok.ensures.found c.in-Ok.ensures.only c.sole_tag.ensures

pub returns-else-is_memory : goal.returns-else-is_memory
returns-else-is_memory c =
    none_read c.args.table.now c.args.body.now c.as_slice-bytes.result.now c.in-Err.error c.as_slice-bytes.ensures c.if-is_memory.ensures c.in-Err.ensures.only
