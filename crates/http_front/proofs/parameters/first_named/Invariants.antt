use Rattle.std.proofs.Common.{◌≡◌}
use Rattle.form_urlencoded.specs.Form.{raw_pairs}
use Rattle.form_urlencoded.specs.Parse.{raw_pairs_left}
use Rattle.http_front.specs.Parameters.{first_named}
use Rattle.http_front.proofs.parameters.first_named.Given as goal

-- no pair before the remaining ones has the name
abbrev pub invariant-loop-key : goal.invariant-loop-key
invariant-loop-key l = first_named l.name (raw_pairs l.query) ≡ first_named l.name (raw_pairs_left l.key-iterator)
