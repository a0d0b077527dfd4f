-- A list with capacity that was allocated beforehand. It is known until an item exceeds the capacity.
use Rattle.std.specs.Prelude.{ℕ, nat_le, ◌-◌, if◌then◌else◌, List, ◌++◌, length, vec_len, vec_capacity, Option, Some, None, option_map}
use Rattle.outside_net.specs.declared.memory.kept.BoundedLog.{BoundedLog}

-- The items, if they are known.
abbrev pub kept_items : {T : Type 0} → BoundedLog T → Option (List T)
kept_items kept = if kept.is_told then Some kept.items.items else None

-- The capacity for more items.
abbrev pub kept_room : {T : Type 0} → BoundedLog T → ℕ
kept_room kept = vec_capacity kept.items - vec_len kept.items

-- The known list with `more` appended; `None` if they exceed the capacity.
abbrev pub keeps : {T : Type 0} → Option (List T) → ℕ → List T → Option (List T)
keeps told room more = if nat_le (length more) room then option_map (λ items. items ++ more) told else None
