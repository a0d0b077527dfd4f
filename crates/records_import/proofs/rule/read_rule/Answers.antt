use Rattle.std.proofs.Common.{◌≢◌, ℕ, List, Result, Ok, Err, MatchResult}
use Rattle.item_model.specs.declared.query.Query.{Query}
use Rattle.item_model.specs.declared.refusal.QueryError.{QueryError}
use Rattle.item_model.specs.declared.refusal.QueryError.TheVariants.{Memory}
use Rattle.song_query.specs.Answers.{Answers}
use Rattle.records_import.specs.Rules.{RuleReads}
use Rattle.records_import.proofs.rule.read_rule.Goals as goal

-- any result but out of memory is what the text reads as
told : (text : List ℕ) (answer : Result Query QueryError) → Answers text answer
    → MatchResult answer (λ rule. RuleReads text (Ok rule)) (λ e. e ≢ Memory → RuleReads text (Err e))
told text (Ok rule) h = (λ e. absurd (cc e), h)
told text (Err error) h = λ other. (λ same. other (cc same), h)

pub returns : goal.returns
returns c = told c.args.text.now c.read.result c.read.ensures.answer
