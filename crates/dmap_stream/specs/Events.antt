-- The events of tags: a value's tag has one, and a list's members come between its opening and its closing.
use Rattle.std.specs.Prelude.{ℕ, ◌+◌, List, ◌∷◌, length}
use Rattle.dmap_tags.specs.Tree.{Tree, leaf, list, Trees, none, more}
use Rattle.dmap_tags.specs.Spelling.{payload, spellings}
use Rattle.dmap_tags.specs.Typed.{value_of}
use Rattle.dmap_stream.specs.declared.event.Event.{Event}
use Rattle.dmap_stream.specs.declared.event.Event.TheVariants.{Open, Leaf, Close}

-- the events of a tag whose head is at that offset, and then others
abbrev mutual
  pub events_of : ℕ → Tree → List Event → List Event
  events_of at (leaf c l) rest = Leaf c (value_of l) at ∷ rest
  events_of at (list c ts) rest = Open c (length (spellings ts)) at ∷ events_of_all (at + 8) ts (Close c at ∷ rest)

  pub events_of_all : ℕ → Trees → List Event → List Event
  events_of_all at none rest = rest
  events_of_all at (more t ts) rest = events_of at t (events_of_all (at + 8 + length (payload t)) ts rest)
