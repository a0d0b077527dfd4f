-- A mirror as contracts see it: its request, and what it holds.
use Rattle.std.specs.Prelude.{Option}
use Rattle.item_model.specs.declared.query.Query.{Query}
use Rattle.item_model.specs.declared.request.Meta.{Meta}
use Rattle.item_model.specs.declared.request.Target.{Target}
use Rattle.share_history.specs.Mirror.{Held}

pub record Mirrored : Type 0 where
  pub target : Target
  pub query : Option Query
  pub meta : Meta
  -- revision 0 without rows before the first listing
  pub held : Held
