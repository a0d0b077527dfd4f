use Rattle.std.proofs.Common.{◌∙◌, map}
use Rattle.std.proofs.lemmas.List.{at_drop_all}
use Rattle.dmap_tags.specs.Spelling.{spellings}
use Rattle.dmap_tags.specs.Tree.{leaf, trees_of, U32}
use Rattle.listing_plan.proofs.Bodies.{trees_at}
use Rattle.listing_plan.proofs.Moves.{less_left, cut_left, none_left}
use Rattle.listing_plan.proofs.body.push_keys.Goals as goal

pub returns-in_err-push_key : goal.returns-in_err-push_key
returns-in_err-push_key g c =
    let at = trees_at (λ key. leaf c.args.of (U32 key)) c.args.keys.now c.loop-key.key-index 0 c.loop-key-test.true in
    record {
      pushes = cut_left _ _ _ _ _ _ _ _ _ _ _ _ _ _ _ c.from_residual.ensures.0 (rw at at c.loop-key.invariant.left) c.in_err-push_key.ensures.pushes;
      beside = c.in_err-push_key.ensures.beside ∙ c.loop-key.invariant.beside;
    }

pub loop-key-preserved : goal.loop-key-preserved
loop-key-preserved g c =
    let at = trees_at (λ key. leaf c.args.of (U32 key)) c.args.keys.now c.loop-key.key-index 0 c.loop-key-test.true in
    record {
      left = less_left _ _ _ _ _ _ _ _ _ _ _ _ (rw at at c.loop-key.invariant.left) c.in_ok-push_key.ensures.pushes;
      beside = c.in_ok-push_key.ensures.beside ∙ c.loop-key.invariant.beside;
    }

pub returns : goal.returns
returns g c =
    let none = at_drop_all (λ keys. spellings (trees_of (map (λ key. leaf c.args.of (U32 key)) keys))) c.args.keys.now c.loop-key.key-index c.loop-key-test.false in
    record { pushes = none_left _ _ _ _ _ _ _ (rw none at c.loop-key.invariant.left); beside = c.loop-key.invariant.beside }
