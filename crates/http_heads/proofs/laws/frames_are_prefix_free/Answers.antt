use Rattle.http_heads.proofs.Frames.{framed_once}
use Rattle.http_heads.proofs.laws.frames_are_prefix_free.Goals as goal

pub returns : goal.returns
returns c = framed_once
