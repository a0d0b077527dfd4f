-- The usage text: the line of each command.
use Rattle.std.specs.Prelude.{ℕ, List, [], ◌∷◌, ◌++◌, codes}
use Rattle.clap.specs.Words.{Text}
use Rattle.daapshare_words.specs.List.{list_usage}
use Rattle.daapshare_words.specs.Show.{show_usage}
use Rattle.daapshare_words.specs.Check.{check_usage}
use Rattle.daapshare_words.specs.Codes.{codes_usage}
use Rattle.daapshare_words.specs.Replay.{replay_usage}
use Rattle.daapshare_words.specs.Rehearse.{rehearse_usage}
use Rattle.daapshare_words.specs.Serve.{serve_usage}
use Rattle.daapshare_words.specs.Edit.{edit_usage}
use Rattle.daapshare_words.specs.Follow.{follow_usage}
use Rattle.daapshare_words.specs.Relay.{relay_usage}
use Rattle.daapshare_words.specs.Json.{json_usage}

abbrev pub usage_line : (margin words : Text) → List ℕ
usage_line margin words = margin ++ codes "daapshare " ++ words ++ 10 ∷ []

-- the later lines are indented under the first
abbrev pub under : Text → List ℕ
under words = usage_line (codes "       ") words

abbrev pub usage_text : List ℕ
usage_text =
    usage_line (codes "usage: ") list_usage
    ++ under show_usage
    ++ under check_usage
    ++ under codes_usage
    ++ under replay_usage
    ++ under rehearse_usage
    ++ under serve_usage
    ++ under edit_usage
    ++ under follow_usage
    ++ under relay_usage
    ++ under json_usage
