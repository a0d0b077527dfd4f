-- The line of an error of a query's text: it is too long, or no query continues from an offset.
use Rattle.std.specs.Prelude.{ℕ, List, [], ◌∷◌, ◌++◌, codes, decimal}
use Rattle.item_model.specs.declared.refusal.QueryError.{QueryError}
use Rattle.item_model.specs.declared.refusal.QueryError.TheVariants.{TooLong, TooDeep, At, Memory}
use Rattle.item_model.specs.declared.refusal.QueryWhy.{QueryWhy}
use Rattle.item_model.specs.declared.refusal.QueryWhy.TheVariants.{End, Byte}

abbrev pub query_reason : QueryWhy → List ℕ
query_reason End = codes " end"
query_reason Byte = codes " byte"

-- the line without its end, as it is in a line of records
abbrev pub query_text : QueryError → List ℕ
query_text TooLong = codes "query: too long"
query_text (TooDeep place) = codes "query: too deep at " ++ decimal place
query_text (At place reason) = codes "query: at " ++ decimal place ++ query_reason reason
query_text Memory = codes "memory"

abbrev pub query_line : QueryError → List ℕ
query_line error = query_text error ++ 10 ∷ []
