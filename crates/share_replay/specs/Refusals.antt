-- Why a text is not a script. `Memory` may occur at any time.
use Rattle.std.specs.Prelude.{◌≡◌, ℕ, List, Err}
use Rattle.share_replay.specs.Scripts.{script_of}
use Rattle.share_replay.specs.declared.script.ScriptError.{ScriptError}
use Rattle.share_replay.specs.declared.script.ScriptError.TheVariants.{Line, Memory}

abbrev pub IsRefused : List ℕ → ScriptError → Type 0
IsRefused text (Line line) = script_of text ≡ Err line
IsRefused text Memory = Unit {0}
