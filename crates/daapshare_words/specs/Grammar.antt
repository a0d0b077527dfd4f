-- The arguments of one command: those that clap's own definition accepts, for a command with positional arguments,
-- options with a value and flags, by long names only, without help or version.
use Rattle.std.specs.Prelude.{List, [], ◌∷◌, map, Bool, true, false, Option, Some, None, codes, option_and_then}
use Rattle.std.specs.Option.{option_map_or}
use Rattle.std.specs.Str.{bytes_eq}
use Rattle.std.specs.Borrow.{Bor}
use Rattle.clap.specs.Kinds.{Kinds}
use Rattle.clap.specs.Simple.{new_shape}
use Rattle.clap.specs.Words.{App, Row, Rule, Text, fault_of, first_of, matches_of, new_rule}
use Rattle.clap.specs.declared.builder.action.ArgAction.TheVariants.{Set, SetTrue}
use Rattle.daapshare_words.specs.declared.grammar.Part.{Part}
use Rattle.daapshare_words.specs.declared.grammar.Part.TheVariants.{Place, Valued, Flag}

-- the texts that references point to
abbrev pub texts_of : List (Bor Text) → List Text
texts_of = map (λ s. s.now)

-- a command's name, and its parts with their names
pub record Grammar : Type 0 where
  pub name : Text
  pub parts : List (Text × Part)

abbrev pub grammar_of : Text → List (Bor Text × Part) → Grammar
grammar_of name parts = record { name = name; parts = map (λ p. (p.0.now, p.1)) parts }

-- the rule of clap for a part
abbrev pub rule_as : Text → Part → Rule
rule_as name Place = record (new_rule name) { required = true; action = Some Set }
rule_as name Valued = record (new_rule name) { long = Some name; action = Some Set }
rule_as name Flag = record (new_rule name) { long = Some name; action = Some SetTrue }

abbrev pub rule_for : Text × Part → Rule
rule_for p = rule_as p.0 p.1

-- the command of clap with these parts
unfoldable pub app_for : Grammar → App
app_for g = record {
  top = record (new_shape g.name) {
    rules = map rule_for g.parts;
    disable_help_flag = true;
    disable_version_flag = true;
  };
  subs = [];
}

-- the rows, if there is no error
abbrev pub unless_faulty : Kinds → List Row → Option (List Row)
unless_faulty [] rows = Some rows
unless_faulty (kind ∷ kinds) rows = None

-- the matches that clap's definition has for the arguments, the first of which is left out; `None` if it refuses them
unfoldable pub rows_for : Grammar → List Text → Option (List Row)
rows_for g words = unless_faulty (fault_of (app_for g) words) (matches_of (app_for g) words)

-- whether the flag is given: clap's text for it is then `true`, and otherwise `false`
abbrev pub is_flagged : Text → List Row → Bool
is_flagged name rows =
    option_map_or (λ text. bytes_eq text (codes "true")) (first_of name rows) false

-- what the arguments are by a grammar and by what its matches say, if clap's definition accepts them
abbrev pub command_by : {T : Type 0} → (List Row → Option T) → Grammar → List Text → Option T
command_by reads g words = option_and_then reads (rows_for g words)
