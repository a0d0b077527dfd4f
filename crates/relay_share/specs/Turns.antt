-- What one turn of a relay's handle did and reported.
use Rattle.std.specs.Prelude.{◌≡◌, [], ◌∷◌, length, true}
use Rattle.share_asks.specs.declared.ask.Ask.{Ask}
use Rattle.share_core.specs.Wants.{is_free}
use Rattle.share_history.specs.Histories.{batches, revision}
use Rattle.share_history.specs.Sessions.{is_stopped}
use Rattle.share_server.specs.Passes.{Pass, Serves}
use Rattle.share_server.specs.Served.{at_point}
use Rattle.relay_share.specs.declared.turns.Told.{Told}

pub record IsTold (k k' : Pass) (ask : Ask) (t : Told) : Type 0 where
  pub serves : Serves k k' (ask ∷ []) (t.served ∷ [])
  pub latest : t.served.point ≡ length k'.seen
  pub revised : t.revision ≡ revision (batches (at_point k'.seen t.served))
  -- the stop does not allocate
  pub free : is_free ask.want ≡ true → t.served.status ≡ 500 → is_stopped k'.seen ≡ true
