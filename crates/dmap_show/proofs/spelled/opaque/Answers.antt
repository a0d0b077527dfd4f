-- A vector of bytes holds bytes.
use Rattle.std.proofs.Common.{ℕ, ◌<◌, length, get_or, rules}
use Rattle.dmap_show.proofs.Remaining.{are_bytes}
use Rattle.dmap_show.proofs.spelled.opaque.Goals as goal

pub returns-clause-held : goal.returns-clause-held
returns-clause-held c =
    let each : (i : ℕ) → i < length c.args.bytes.items → get_or c.args.bytes.items i 0 < 256 = search rules in
    rw c.from.ensures (are_bytes c.args.bytes.items each)
