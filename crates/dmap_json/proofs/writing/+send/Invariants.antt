use Rattle.std.proofs.Common.{◌+◌, ◌*◌, drop}
use Rattle.serde.specs.Event.{Log}
use Rattle.serde_json.specs.Events.{SendsItems}
use Rattle.dmap_tags.specs.Seen.{tree_with}
use Rattle.dmap_tags.specs.Tree.{trees_of, size_of, sizes_of}
use Rattle.dmap_show.specs.Readable.{AreTags}
use Rattle.dmap_json.specs.TagObject.{json_items}
use Rattle.dmap_json.proofs.writing.+send.Given as goal

abbrev pub decreases-send_tag : goal.decreases-send_tag
decreases-send_tag g l = 2 * size_of l.tag.now + 1

abbrev pub decreases-send_value : goal.decreases-send_value
decreases-send_value g l = 2 * size_of (tree_with l.code l.value.now)

abbrev pub decreases-send_tags : goal.decreases-send_tags
decreases-send_tags g l = 2 * sizes_of (trees_of l.tags.now) + 2

-- what ends the list correctly from here ends it correctly from the start
abbrev pub invariant-send_tags-loop-tag : goal.invariant-send_tags-loop-tag
invariant-send_tags-loop-tag g l = record {
  sent : (end : Log) → SendsItems (json_items (trees_of (drop l.tag-index l.tags))) (g.S.Serializer.written l.out) end → SendsItems (json_items (trees_of l.tags)) (g.S.Serializer.written l.fn.out) end;
  held : AreTags (trees_of (drop l.tag-index l.tags)) → AreTags (trees_of l.tags);
}
