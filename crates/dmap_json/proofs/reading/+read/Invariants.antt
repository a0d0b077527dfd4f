use Rattle.std.proofs.Common.{◌+◌, ◌*◌, ◌-◌, drop}
use Rattle.serde_json.specs.View.{items_view}
use Rattle.dmap_json.proofs.Walked.{IsAt}
use Rattle.dmap_json.proofs.reading.+read.Given as goal

abbrev pub decreases-read_tag : goal.decreases-read_tag
decreases-read_tag l = 3 * (34 - l.level) + 1

abbrev pub decreases-read_held : goal.decreases-read_held
decreases-read_held l = 3 * (34 - l.level)

abbrev pub decreases-read_tags : goal.decreases-read_tags
decreases-read_tags l = 3 * (34 - l.level) + 2

-- what was read, and what an error among the values left says of all
abbrev pub invariant-read_tags-loop-member : goal.invariant-read_tags-loop-member
invariant-read_tags-loop-member l =
    IsAt l.table l.parent l.level l.fn.count l.count (items_view l.members) (items_view (drop l.member-index l.members)) l.tags.items
