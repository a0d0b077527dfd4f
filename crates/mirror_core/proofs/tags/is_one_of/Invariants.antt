use Rattle.std.proofs.Common.{◌≡◌, drop}
use Rattle.std.specs.List.{list_any}
use Rattle.dmap_tags.specs.Codes.{is_code}
use Rattle.mirror_core.proofs.tags.is_one_of.Given as goal

abbrev pub invariant-loop-of : goal.invariant-loop-of
invariant-loop-of l = list_any (λ c. is_code c l.code) (drop l.of-index l.codes) ≡ list_any (λ c. is_code c l.code) l.codes
