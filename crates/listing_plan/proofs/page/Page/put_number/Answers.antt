use Rattle.std.proofs.Common.{◌++◌, ◌∙◌, ap, append_assoc}
use Rattle.std.specs.Int.{w32, to_be_bytes}
use Rattle.dmap_tags.specs.Codes.{code_bytes}
use Rattle.listing_plan.proofs.page.Page.put_number.Goals as goal

pub returns-clause-put : goal.returns-clause-put
returns-clause-put g c =
    (rw c.to_be_bytes.ensures at c.put.ensures.put) ∙ ap (λ page. page ++ to_be_bytes w32 c.args.n) c.put_head.ensures.put
    ∙ append_assoc c.args.self.now (code_bytes c.args.of ++ to_be_bytes w32 4) (to_be_bytes w32 c.args.n)
