-- What follows from the settings of `serve`: those of the share, the addresses with their listeners, and the roles of
-- the workers.
use Rattle.std.specs.Prelude.{◌≡◌, ◌≤◌, IfSome, ℕ, ◌+◌, List, [], ◌∷◌, ◌++◌, length, replicate}
use Rattle.item_model.specs.Limits.{text_limit}
use Rattle.share_asks.specs.declared.ask.Role.{Role}
use Rattle.share_asks.specs.declared.ask.Role.TheVariants.{Listen, Edit}
use Rattle.share_replies.specs.Settings.{Settings}
use Rattle.serve_command.specs.declared.terms.Serving.{Serving}

-- the ranges of the settings; a share with a file has one editor
pub record MayServe (serving : Serving) : Type 0 where
  pub name : length serving.name ≤ text_limit
  pub some_kept : 1 ≤ serving.keep
  pub few_kept : serving.keep ≤ 65536
  pub some_workers : 1 ≤ serving.workers
  pub few_workers : serving.workers ≤ 64
  pub some_editors : 1 ≤ serving.editors
  pub few_editors : serving.editors ≤ 8
  pub one_editor : IfSome serving.file (λ file. serving.editors ≡ 1)

-- .. and as many listeners as they say
pub record MayServeAt (serving : Serving) (listen edit : ℕ) : Type 0 where
  pub may : MayServe serving
  pub listening : listen ≡ serving.workers
  pub editing : edit ≡ serving.editors

abbrev pub settings_of : Serving → Settings
settings_of serving = record { name = serving.name; keep = serving.keep }

-- the two addresses, each with its number of listeners
abbrev pub places_of : Serving → List (List ℕ × ℕ)
places_of serving = (serving.listen, serving.workers) ∷ (serving.edit, serving.editors) ∷ []

abbrev pub workers_of : Serving → ℕ
workers_of serving = serving.workers + serving.editors

-- the workers of players come first
abbrev pub roles_of : Serving → List Role
roles_of serving = replicate serving.workers Listen ++ replicate serving.editors Edit
