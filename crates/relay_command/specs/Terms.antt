-- What follows from the settings of `relay`.
use Rattle.std.specs.Prelude.{◌≤◌, ℕ, ◌+◌, List, [], ◌∷◌, length, replicate}
use Rattle.item_model.specs.Limits.{text_limit}
use Rattle.share_asks.specs.declared.ask.Role.{Role}
use Rattle.share_asks.specs.declared.ask.Role.TheVariants.{Listen}
use Rattle.share_replies.specs.Answers.{Shared}
use Rattle.share_replies.specs.Settings.{Settings}
use Rattle.relay_command.specs.declared.terms.Relaying.{Relaying}

-- the ranges of the settings
pub record MayRelay (relaying : Relaying) : Type 0 where
  pub name : length relaying.name ≤ text_limit
  pub some_kept : 1 ≤ relaying.keep
  pub few_kept : relaying.keep ≤ 65536
  pub some_workers : 1 ≤ relaying.workers
  pub few_workers : relaying.workers ≤ 64
  pub some_rounds : 1 ≤ relaying.rounds
  pub few_rounds : relaying.rounds ≤ 16384

abbrev pub settings_of : Relaying → Settings
settings_of relaying = record { name = relaying.name; keep = relaying.keep }

-- the address to connect to, and the address of the players, with a listener for each worker and one for the relay
abbrev pub places_of : Relaying → List (List ℕ × ℕ)
places_of relaying = (relaying.upstream, 0) ∷ (relaying.listen, relaying.workers + 1) ∷ []

abbrev pub roles_of : Relaying → List Role
roles_of relaying = replicate relaying.workers Listen

-- the share that the relay begins with
abbrev pub empty_share : Relaying → Shared
empty_share relaying = record { settings = settings_of relaying; history = []; marks = [] }
