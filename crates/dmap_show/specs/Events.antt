-- What is shown as a reader returns events: the open lists count as levels.
use Rattle.std.specs.Prelude.{ℕ, suc, pred, List, [], ◌∷◌, ◌++◌}
use Rattle.dmap_tags.specs.Tree.{list, none}
use Rattle.dmap_tags.specs.Seen.{tree_with}
use Rattle.dmap_stream.specs.declared.event.Event.{Event}
use Rattle.dmap_stream.specs.declared.event.Event.TheVariants.{Open, Leaf, Close}
use Rattle.dmap_show.specs.Shown.{shown_line, shown_tag}

-- a list that opens has its own line, and a value's tag has its lines
abbrev pub shown_event : ℕ → Event → List ℕ
shown_event level (Open c len at) = shown_line level (list c none)
shown_event level (Leaf c value at) = shown_tag level (tree_with c value)
shown_event level (Close c at) = []

-- the level after an event
abbrev pub level_after : ℕ → Event → ℕ
level_after level (Open c len at) = suc level
level_after level (Leaf c value at) = level
level_after level (Close c at) = pred level

-- the lines of events, each at its level
abbrev pub shown_events : ℕ → List Event → List ℕ
shown_events level [] = []
shown_events level (e ∷ es) = shown_event level e ++ shown_events (level_after level e) es
