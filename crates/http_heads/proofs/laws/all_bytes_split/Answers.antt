use Rattle.http_heads.proofs.FrontsDecided.{cut_for}
use Rattle.http_heads.proofs.laws.all_bytes_split.Goals as goal

pub returns : goal.returns
returns c = λ kind bytes. let cut = cut_for kind bytes in (cut.messages, cut.rest, cut.splits, cut.fault)
