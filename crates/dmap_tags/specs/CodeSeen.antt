-- A content code of the program is determined by the four bytes that contracts see.
use Rattle.std.specs.Prelude.{◌≡◌}
use Rattle.std.proofs.Common.{ap}
use Rattle.dmap_tags.specs.Codes.{code_of, code_bytes, AreFourBytes, four_again}
use Rattle.dmap_tags.specs.declared.content_code.Code.TheInside.{Inside}

pub bytes_again : (a : Inside) → AreFourBytes a.0 → record { 0 = code_bytes (code_of a.0) } ≡ a
bytes_again a h = ap (λ bytes. record { 0 = bytes }) (four_again a.0 h.count)
