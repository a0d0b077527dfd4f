-- A number is read back from its decimal with a sign.
use Rattle.std.proofs.Common.{ap, ◌∙◌}
use Rattle.std.proofs.lemmas.Fmt.{parse-signed_decimal}
use Rattle.std.specs.Int.{w64}
use Rattle.std.specs.Result.{result_ok}
use Rattle.dmap_show.proofs.pieces.signed_number_in.Goals as goal

pub returns : goal.returns
returns c = λ z h e. c.ok.ensures.value ∙ ap result_ok (parse-signed_decimal w64 z _ c.parse.result h h.sfits e c.parse.ensures.value.0)
