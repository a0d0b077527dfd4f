use Rattle.std.proofs.Common.{rules}
use Rattle.mirror_client.proofs.incoming.Incoming.refill.Goals as goal

pub returns-in-Err : goal.returns-in-Err
returns-in-Err g c = search rules

pub returns-in_err-extend_from_slice : goal.returns-in_err-extend_from_slice
returns-in_err-extend_from_slice g c = search rules
