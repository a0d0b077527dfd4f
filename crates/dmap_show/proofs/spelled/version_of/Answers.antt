-- The three parts are separated by points.
use Rattle.std.proofs.Common.{ap, ◌∙◌}
use Rattle.dmap_show.specs.TextLines.{before, behind}
use Rattle.dmap_show.proofs.Taken.{version_parts}
use Rattle.dmap_show.proofs.spelled.version_of.Goals as goal

pub returns : goal.returns
returns c = λ n h e.
    let parts = version_parts n c.args.text.now h e in
    let first = c.split_at_byte.ensures in
    let second = c.split_at_byte-2.ensures in
    c.version_by.ensures n h (first.0 ∙ parts.major) (second.0 ∙ ap (before 46) first.1 ∙ parts.minor) (second.1 ∙ ap (behind 46) first.1 ∙ parts.patch)
