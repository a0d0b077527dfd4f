use Rattle.std.proofs.Common.{arith}
use Rattle.playlist_store.proofs.FrameFacts.{frames_then, frames_among}
use Rattle.playlist_store.proofs.TellFacts.{told_more, told_whole}
use Rattle.playlist_store.proofs.edits.take_in.Goals as goal

pub loop-edit-preserved : goal.loop-edit-preserved
loop-edit-preserved c = record {
  tells = told_more c.args.revision c.args.batch.now c.loop-edit.edit-index c.edit-item.result c.args.lists.now.entries c.loop-edit.lists.entries c.take_in_one.new.lists.entries
      c.loop-edit-test.true c.edit-item.is c.loop-edit.invariant.tells c.in-Ok.ensures.tells;
  frames = frames_then c.args.revision c.args.batch.now c.args.lists.now.entries c.loop-edit.lists.entries c.take_in_one.new.lists.entries c.loop-edit.invariant.frames
      (frames_among c.args.revision c.args.batch.now c.loop-edit.edit-index c.edit-item.result c.loop-edit.lists.entries c.take_in_one.new.lists.entries c.loop-edit-test.true c.edit-item.is c.take_in_one.ensures.frames);
}

pub returns-clause-tells : goal.returns-clause-tells
returns-clause-tells c =
    told_whole c.args.revision c.args.batch.now c.loop-edit.edit-index c.args.lists.now.entries c.loop-edit.lists.entries (omega (arith, c.loop-edit-test.false)) c.loop-edit.invariant.tells
