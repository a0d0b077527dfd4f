-- The contents of a store of lists.
use Rattle.std.specs.Prelude.{ℕ, List, Bool}
use Rattle.playlist_store.specs.Names.{Names}
use Rattle.playlist_store.specs.Lists.{Lists}

pub record Store : Type 0 where
  -- the length of the delta window in revisions
  pub keep : ℕ
  pub revision : ℕ
  -- the first revision that the members and the names cover
  pub low : ℕ
  pub can_undo : Bool
  -- what each batch after `low` names, in order
  pub named : List Names
  -- ascending by id
  pub lists : Lists
