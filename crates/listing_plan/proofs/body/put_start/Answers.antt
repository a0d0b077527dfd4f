use Rattle.std.proofs.Common.{◌++◌, ◌∙◌, ap}
use Rattle.dmap_tags.specs.Codes.{code}
use Rattle.dmap_tags.specs.Spelling.{spelling}
use Rattle.dmap_tags.specs.Tree.{leaf, U32}
use Rattle.listing_plan.specs.Held.{is_delta_of, total_of}
use Rattle.listing_plan.proofs.Bodies.{start_put}
use Rattle.listing_plan.proofs.body.put_start.Goals as goal

pub returns-clause-put : goal.returns-clause-put
returns-clause-put g c =
    let scope = c.args.scope.now in
    start_put (is_delta_of scope) c.mark.result c.args.revision (total_of scope c.args.listed) c.args.listed c.args.page.now c.put_number.new.self
    c.put_mark.new.page c.put_number-2.new.self c.put_number-3.new.self c.put_number-4.new.self c.mark.ensures
    c.put_number.ensures.put c.put_mark.ensures.put c.put_number-2.ensures.put
    (c.put_number-3.ensures.put ∙ ap (λ total. c.put_number-2.new.self ++ spelling (leaf (code "mtco") (U32 total))) c.total.ensures)
    c.put_number-4.ensures.put
