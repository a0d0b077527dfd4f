use Rattle.std.proofs.Common.{true, ◌≡◌, ◌++◌}
use Rattle.std.specs.Str.{is_utf8}
use Rattle.dmap_tags.specs.Begins.{Begins}
use Rattle.dmap_show.specs.Shown.{indent}
use Rattle.dmap_show.proofs.adding.push_indent.Given as goal

-- what was added and the spaces of the levels that are left are the spaces of all
abbrev pub invariant-loop-left : goal.invariant-loop-left
invariant-loop-left l = record {
  shown : l.out.items ++ indent l.left ≡ l.fn.out.items ++ indent l.level;
  text : is_utf8 l.fn.out.items ≡ true → is_utf8 l.out.items ≡ true;
  kept : Begins l.fn.out.items l.out.items;
}

abbrev pub decreases-loop-left : goal.decreases-loop-left
decreases-loop-left l = l.left
