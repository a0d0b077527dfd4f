use Rattle.std.proofs.Common.{◌<◌, ◌++◌, sym, ap, ◌∙◌, subst}
use Rattle.dmap_stream.specs.Reader.{ready, kept, EndInLeaf}
use Rattle.dmap_stream.proofs.Readings.{held_in_leaf}
use Rattle.dmap_stream.proofs.reader.DmapReader.held.Goals as goal

pub returns-clause-came : goal.returns-clause-came
returns-clause-came c =
    λ fed handed h goes some.
    let r = c.args.self.now in
    let is = c.kept.ensures ∙ ap kept c.self.view_is in
    subst (EndInLeaf r.rows r.limit fed (handed ++ ready r)) (sym is) (held_in_leaf fed handed r h goes (subst (λ n. 0 < n) is some))
