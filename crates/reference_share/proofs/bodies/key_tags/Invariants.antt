use Rattle.std.proofs.Common.{◌≡◌, ◌++◌, map, drop}
use Rattle.dmap_tags.specs.Tree.{leaf, U32}
use Rattle.share_history.specs.Bodies.{key_code}
use Rattle.reference_share.proofs.bodies.key_tags.Given as goal

abbrev pub invariant-loop-key : goal.invariant-loop-key
invariant-loop-key l =
    l.tags ++ map (λ key. leaf (key_code l.target) (U32 key)) (drop l.key-index l.keys) ≡ map (λ key. leaf (key_code l.target) (U32 key)) l.keys
