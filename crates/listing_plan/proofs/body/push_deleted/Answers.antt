use Rattle.std.proofs.Common.{◌*◌, length, map, refl}
use Rattle.dmap_tags.specs.Spelling.{spellings}
use Rattle.dmap_tags.specs.Tree.{leaf, trees_of, U32}
use Rattle.share_history.specs.Bodies.{key_code}
use Rattle.listing_plan.proofs.Bodies.{gone_spelled}
use Rattle.listing_plan.proofs.Moves.{pushes_then, pushes_cut}
use Rattle.listing_plan.proofs.body.push_deleted.Goals as goal

pub returns-in_err-push_head-clause-pushes : goal.returns-in_err-push_head-clause-pushes
returns-in_err-push_head-clause-pushes g c =
    let keys = c.args.keys.now in
    let all = gone_spelled c.args.target keys (key_code c.args.target) (12 * length keys) refl refl in
    rw (← all) (pushes_cut _ (spellings (trees_of (map (λ key. leaf (key_code c.args.target) (U32 key)) keys))) _ _ _ _ _ _ _ _ _ c.from_residual.ensures.0 c.in_err-push_head.ensures.pushes)

pub returns-clause-pushes : goal.returns-clause-pushes
returns-clause-pushes g c =
    let keys = c.args.keys.now in
    let all = gone_spelled c.args.target keys c.key_code.result (12 * length keys) c.key_code.ensures refl in
    rw (← all) (pushes_then _ _ _ _ _ _ _ _ _ _ _ _ c.in_ok-push_head.ensures.pushes c.push_keys.ensures.pushes)
