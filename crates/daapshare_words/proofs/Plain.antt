-- clap's definition has the matches and errors of every command made of parts.
use Rattle.std.proofs.Common.{◌≡◌, ℕ, List, [], ◌∷◌, map, true, false, refl}
use Rattle.std.proofs.lemmas.Bool.{and_parts}
use Rattle.std.specs.List.{list_all, list_any}
use Rattle.clap.specs.Walk.{is_early_multiple}
use Rattle.clap.specs.Simple.{filled_from, index_after}
use Rattle.clap.specs.Words.{Text, is_simple, is_simple_and_free}
use Rattle.daapshare_words.specs.Grammar.{Grammar, app_for, rule_for}
use Rattle.daapshare_words.specs.declared.grammar.Part.{Part}
use Rattle.daapshare_words.specs.declared.grammar.Part.TheVariants.{Place, Valued, Flag}

-- no part uses a setting that changes how arguments are read
simple_rules : (parts : List (Text × Part)) → list_all (λ a. a.is_simple) (map rule_for parts) ≡ true
simple_rules [] = refl
simple_rules ((name, Place) ∷ rest) = simple_rules rest
simple_rules ((name, Valued) ∷ rest) = simple_rules rest
simple_rules ((name, Flag) ∷ rest) = simple_rules rest

-- nor does it once the command is built
simple_when_built : (i : ℕ) (parts : List (Text × Part)) → list_all (λ a. a.is_simple) (filled_from i (map rule_for parts)) ≡ true
simple_when_built i [] = refl
simple_when_built i ((name, Place) ∷ rest) = simple_when_built (index_after i (rule_for (name, Place))) rest
simple_when_built i ((name, Valued) ∷ rest) = simple_when_built i rest
simple_when_built i ((name, Flag) ∷ rest) = simple_when_built i rest

-- no part has a rule on another
free_when_built : (i : ℕ) (parts : List (Text × Part)) → list_all (λ a. a.is_free) (filled_from i (map rule_for parts)) ≡ true
free_when_built i [] = refl
free_when_built i ((name, Place) ∷ rest) = free_when_built (index_after i (rule_for (name, Place))) rest
free_when_built i ((name, Valued) ∷ rest) = free_when_built i rest
free_when_built i ((name, Flag) ∷ rest) = free_when_built i rest

-- no part takes several values
none_multiple : (n i : ℕ) (parts : List (Text × Part)) → list_any (is_early_multiple n) (filled_from i (map rule_for parts)) ≡ false
none_multiple n i [] = refl
none_multiple n i ((name, Place) ∷ rest) = none_multiple n (index_after i (rule_for (name, Place))) rest
none_multiple n i ((name, Valued) ∷ rest) = none_multiple n i rest
none_multiple n i ((name, Flag) ∷ rest) = none_multiple n i rest

pub is_plain : (g : Grammar) → is_simple_and_free (app_for g) ≡ true
unfolding app_for
is_plain g = rw (simple_rules g.parts, simple_when_built 1 g.parts, none_multiple _ 1 g.parts, free_when_built 1 g.parts) refl

-- so clap's definition has its matches
pub has_rows : (g : Grammar) → is_simple (app_for g) ≡ true
has_rows g = (and_parts (is_simple (app_for g)) _ (is_plain g)).0
