-- A command of clap with one more part.
use Rattle.std.proofs.Common.{◌≡◌, List, [], ◌∷◌, ◌++◌, map, ap, sym, true, ◌∙◌}
use Rattle.std.proofs.lemmas.List.{map-append}
use Rattle.std.specs.Borrow.{Bor}
use Rattle.clap.specs.Simple.{new_shape}
use Rattle.clap.specs.Words.{Rule, Text, with_rule}
use Rattle.daapshare_words.specs.Grammar.{app_for, grammar_of, rule_for}
use Rattle.daapshare_words.specs.declared.grammar.Part.{Part}

-- a part with its name as a text
abbrev seen : Bor Text × Part → Text × Part
seen p = (p.0.now, p.1)

-- one more part's argument makes the command of one more part
pub with_part : (name : Text) (xs : List (Bor Text × Part)) (x : Bor Text × Part)
    → with_rule (app_for (grammar_of name xs)) (rule_for (x.0.now, x.1)) ≡ app_for (grammar_of name (xs ++ x ∷ []))
unfolding app_for
with_part name xs x = ap (λ (rules : List Rule). record {
  top = record (new_shape name) { rules = rules; disable_help_flag = true; disable_version_flag = true };
  subs = [];
})
    (sym (map-append rule_for (map seen xs) (seen x ∷ [])) ∙ ap (map rule_for) (sym (map-append seen xs (x ∷ []))))
