use Rattle.std.proofs.Common.{rules}
use Rattle.playlist_store.proofs.batches.take_in_batch.Goals as goal

pub returns-in-Err : goal.returns-in-Err
returns-in-Err g c = search rules

pub returns-in-Err-reserve : goal.returns-in-Err-reserve
returns-in-Err-reserve g c = search rules

pub returns-in-Err-take_in_all : goal.returns-in-Err-take_in_all
returns-in-Err-take_in_all g c = search rules

pub returns-in-Ok-take_in_all : goal.returns-in-Ok-take_in_all
returns-in-Ok-take_in_all g c = search rules
