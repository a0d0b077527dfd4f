-- A number is read back from its decimal.
use Rattle.std.proofs.Common.{ap, ◌∙◌}
use Rattle.std.proofs.lemmas.Fmt.{parse-decimal}
use Rattle.std.specs.Result.{result_ok}
use Rattle.dmap_show.proofs.pieces.number_in.Goals as goal

pub returns : goal.returns
returns c = λ n h e. c.ok.ensures.value ∙ ap result_ok (parse-decimal 64 n _ c.parse.result h h e c.parse.ensures.value.0)
