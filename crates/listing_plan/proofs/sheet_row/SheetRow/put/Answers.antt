use Rattle.std.proofs.Common.{◌++◌, ◌∙◌, ap, arith, rules}
use Rattle.listing_plan.specs.Runs.{row_bytes}
use Rattle.listing_plan.proofs.SheetFacts.{tag_length, tag_put}
use Rattle.listing_plan.proofs.sheet_row.SheetRow.put.Goals as goal

pub put_front-requires : goal.put_front-requires
put_front-requires g c =
    (search rules, omega (arith, tag_length c.args.target c.args.self.now, c.requires.counted, c.requires.room))

pub put_shown-requires : goal.put_shown-requires
put_shown-requires g c =
    (search rules, (c.requires.row, omega (arith, tag_length c.args.target c.args.self.now, c.requires.counted, c.requires.room, c.put_front.ensures.longer)))

pub returns : goal.returns
returns g c =
    c.put_shown.ensures ∙ ap (λ page. page ++ row_bytes c.args.self.now) c.put_front.ensures.put
    ∙ tag_put c.args.target c.args.self.now c.args.len c.args.self.now.id c.args.page.now c.requires.row.numbered c.requires.counted
