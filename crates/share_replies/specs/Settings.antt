-- The settings with which a share is opened, and which never change: its name, and the length of its delta window in
-- revisions.
use Rattle.std.specs.Prelude.{ℕ, List}

pub record Settings : Type 0 where
  pub name : List ℕ
  pub keep : ℕ
