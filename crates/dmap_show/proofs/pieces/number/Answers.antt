-- Decimal digits are UTF-8.
use Rattle.std.proofs.Common.{sym, subst, IsAscii}
use Rattle.std.proofs.lemmas.Fmt.{IsAscii-decimal}
use Rattle.std.proofs.lemmas.Str.{IsUtf8-from_ascii}
use Rattle.dmap_show.proofs.pieces.number.Goals as goal

pub returns-in-Err : goal.returns-in-Err
returns-in-Err c = λ n h e. absurd (c.in-Err.ensures.cases.0 (IsUtf8-from_ascii _ (subst IsAscii (sym e) (IsAscii-decimal n h))))
