use Rattle.std.proofs.Common.{◌≡◌, ◌++◌, take, drop}
use Rattle.item_model.specs.declared.item.PropValue.{PropValue}
use Rattle.item_model.specs.Items.{with_value}
use Rattle.item_model.proofs.item.place_of.Given as goal

-- the entries so far come before the one that is set
abbrev pub invariant-loop-i : goal.invariant-loop-i
invariant-loop-i l =
    (v : PropValue) → with_value l.property v l.entries ≡ take l.i l.entries ++ with_value l.property v (drop l.i l.entries)
