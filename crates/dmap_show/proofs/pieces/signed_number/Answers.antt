-- Decimal digits and a sign are UTF-8.
use Rattle.std.proofs.Common.{sym, subst, IsAscii}
use Rattle.std.proofs.lemmas.Fmt.{IsAscii-signed}
use Rattle.std.proofs.lemmas.Str.{IsUtf8-from_ascii}
use Rattle.dmap_show.proofs.pieces.signed_number.Goals as goal

pub returns-in-Err : goal.returns-in-Err
returns-in-Err c = λ z h e. absurd (c.in-Err.ensures.cases.0 (IsUtf8-from_ascii _ (subst IsAscii (sym e) (IsAscii-signed z h.sfits))))
