use Rattle.std.proofs.Common.{◌++◌, ◌∙◌, ap, append_assoc}
use Rattle.dmap_tags.specs.Codes.{code}
use Rattle.dmap_tags.specs.Spelling.{spelling}
use Rattle.dmap_tags.specs.Tree.{leaf, U32}
use Rattle.listing_plan.proofs.rows.put_keys.Goals as goal

pub returns-in-Some : goal.returns-in-Some
returns-in-Some g c =
    let second = spelling (leaf (code "miid") (U32 c.args.id)) in
    rw c.in-Some.is
    (c.put_number-in-Some.ensures.put ∙ ap (λ page. page ++ second) c.put_number.ensures.put
    ∙ append_assoc c.args.page.now (spelling (leaf (code "mcti") (U32 c.in-Some.member))) second)
