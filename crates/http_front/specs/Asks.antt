-- The request that a message is.
use Rattle.std.specs.Prelude.{◌≡◌, List, ℕ}
use Rattle.httparse.specs.Grammar.{RequestHead}
use Rattle.http_heads.specs.Fields.{asks_to_close, fields_of}
use Rattle.http_heads.specs.Messages.{IsRequest, Message}
use Rattle.share_asks.specs.declared.ask.Ask.{Ask}
use Rattle.share_asks.specs.declared.ask.Role.{Role}
use Rattle.http_front.specs.Targets.{local_part, path_of, query_of}
use Rattle.http_front.specs.Wants.{Wants}

-- a request with this head and body, to a reader of the role, is `ask`
pub record Asks (role : Role) (h : RequestHead) (body : List ℕ) (ask : Ask) : Type 0 where
  pub role_is : ask.role ≡ role
  pub close_is : ask.close ≡ asks_to_close h.minor (fields_of h.fields)
  pub want_is : Wants role h.method (path_of (local_part h.target)) (query_of (local_part h.target)) body ask.want

-- the message is a request that is `ask`
abbrev pub Spells : Role → Message → Ask → Type 0
Spells role m ask = (h : RequestHead) × IsRequest m h × Asks role h m.body ask
