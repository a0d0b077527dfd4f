use Rattle.std.proofs.Common.{◌≡◌, ◌++◌, ◌∙◌, length, arith, rules}
use Rattle.std.specs.Int.{w32, to_be_bytes}
use Rattle.std.proofs.lemmas.List.{at_drop_more}
use Rattle.dmap_tags.specs.Codes.{code_bytes}
use Rattle.dmap_tags.specs.Spelling.{spellings, payload}
use Rattle.dmap_tags.specs.Tree.{tree_code, trees_of}
use Rattle.dmap_tags.proofs.Lengths.{spellable_at}
use Rattle.dmap_tags.proofs.Sizes.{member_falls}
use Rattle.listing_plan.proofs.Moves.{less_left, cut_left, pushes_then, pushes_cut}
use Rattle.listing_plan.proofs.tags.+push_tag.Goals as goal

pub push_measured-returns-in_err-push_head-clause-pushes : goal.push_measured-returns-in_err-push_head-clause-pushes
push_measured-returns-in_err-push_head-clause-pushes g t c =
    let head : code_bytes c.tag.inside.code ++ to_be_bytes w32 c.args.len ≡ code_bytes (tree_code c.args.tag.now) ++ to_be_bytes w32 (length (payload c.args.tag.now)) = search rules in
    pushes_cut _ (payload c.args.tag.now) _ _ _ _ _ _ _ _ _ c.from_residual.ensures.0 (rw head at c.in_err-push_head.ensures.pushes)

pub push_measured-returns-clause-pushes : goal.push_measured-returns-clause-pushes
push_measured-returns-clause-pushes g t c =
    let head : code_bytes c.tag.inside.code ++ to_be_bytes w32 c.args.len ≡ code_bytes (tree_code c.args.tag.now) ++ to_be_bytes w32 (length (payload c.args.tag.now)) = search rules in
    pushes_then _ _ _ _ _ _ _ _ _ _ _ _ (rw head at c.in_ok-push_head.ensures.pushes) c.push_payload.ensures.pushes

pub push_tags-returns-in_err-push_measured-clause-pushes : goal.push_tags-returns-in_err-push_measured-clause-pushes
push_tags-returns-in_err-push_measured-clause-pushes g t c =
    let at = at_drop_more (λ ts. spellings (trees_of ts)) c.args.tags.now c.loop-tag.tag-index c.tag-item.result c.loop-tag-test.true in
    cut_left _ _ _ _ _ _ _ _ _ _ _ _ _ _ _ c.from_residual.ensures.0 (rw (at, ← c.tag-item.is) at c.loop-tag.invariant.left) c.in_err-push_measured.ensures.pushes

pub push_tags-loop-tag-preserved : goal.push_tags-loop-tag-preserved
push_tags-loop-tag-preserved g t c =
    let at = at_drop_more (λ ts. spellings (trees_of ts)) c.args.tags.now c.loop-tag.tag-index c.tag-item.result c.loop-tag-test.true in
    record {
      left = less_left _ _ _ _ _ _ _ _ _ _ _ _ (rw (at, ← c.tag-item.is) at c.loop-tag.invariant.left) c.in_ok-push_measured.ensures.pushes;
      beside = c.in_ok-push_measured.ensures.beside ∙ c.loop-tag.invariant.beside;
    }

pub push_tags-push_measured-requires : goal.push_tags-push_measured-requires
push_tags-push_measured-requires g t c κs within =
    let tags = c.args.tags.now in
    let i = c.loop-tag.tag-index in
    let smaller = rw (← c.tag-item.is) at (member_falls tags i c.tag-item.result c.loop-tag-test.true) in
    let spellable = rw (← c.tag-item.is) at (spellable_at tags i c.tag-item.result c.requires.spellable c.loop-tag-test.true) in
    (omega (arith, smaller), (search rules, (search rules, (search rules, search (rules, spellable)))))
