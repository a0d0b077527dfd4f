use Rattle.std.proofs.Common.{◌≡◌, take}
use Rattle.dmap_tags.proofs.tree.+copy.Given as goal

-- the copies are a prefix of the tags
abbrev pub invariant-copies-loop-tag : goal.invariant-copies-loop-tag
invariant-copies-loop-tag l = l.copies.items ≡ take l.tag-index l.tags
