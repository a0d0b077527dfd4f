use Rattle.std.proofs.Common.{◌≡◌, ◌+◌, ◌++◌, ◌∙◌, ap, subst, sym, length}
use Rattle.std.specs.Int.{w32, to_be_bytes}
use Rattle.dmap_tags.specs.Codes.{code_bytes}
use Rattle.dmap_tags.specs.Spelling.{spelling, spellings}
use Rattle.dmap_tags.specs.Tree.{trees_of}
use Rattle.share_history.specs.Bodies.{body_tree, start_tags, gone_tags}
use Rattle.listing_plan.specs.Held.{rest_of, is_delta_of, total_of, gone_of, listed_length, listed_rows, rows_length}
use Rattle.listing_plan.proofs.Bodies.{front_put, held_length}
use Rattle.listing_plan.proofs.plan.RowPlan.put_front.Goals as goal

pub returns : goal.returns
returns g c =
    let a = c.self.inside in
    let rows = listed_rows a.target a.rows in
    let counted : c.args.rows_len ≡ rows_length a.shown rows = c.requires.counted ∙ ap listed_length (sym c.self.view_is) ∙ held_length a.shown rows in
    subst (λ p. c.put_head-2.new.self ++ rest_of p ≡ spelling (body_tree p.target p.listing)) c.self.view_is
    (front_put a.target a.revision a.scope rows a.shown c.payload_len-len.result c.args.rows_len c.args.page.now c.put_head.new.self c.put_start.new.page c.put_head-2.new.self
    (c.payload_len-len.ensures.counted a.target
    ∙ ap (λ n. 65 + n + length (spellings (trees_of (gone_tags a.target (is_delta_of a.scope) (gone_of a.scope))))) counted)
    counted c.requires.empty
    (c.put_head.ensures.put ∙ ap (λ of. c.args.page.now ++ (code_bytes of ++ to_be_bytes w32 c.payload_len-len.result)) c.body_code.ensures)
    (c.put_start.ensures.put ∙ ap (λ n. c.put_head.new.self ++ spellings (trees_of (start_tags (is_delta_of a.scope) a.revision (total_of a.scope n) n))) (c.count.ensures a.target))
    c.put_head-2.ensures.put)
