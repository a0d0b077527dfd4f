use Rattle.std.proofs.Common.{◌≡◌, ◌+◌, length, subst, ◌∙◌, ap, sym}
use Rattle.dmap_tags.specs.Spelling.{spelling, spellings}
use Rattle.dmap_tags.specs.Tree.{trees_of}
use Rattle.share_history.specs.Bodies.{body_tree, gone_tags}
use Rattle.listing_plan.specs.Held.{is_delta_of, gone_of, listed_length, listed_rows, rows_length}
use Rattle.listing_plan.proofs.Bodies.{body_length, held_length}
use Rattle.listing_plan.proofs.plan.RowPlan.body_len.Goals as goal

pub returns : goal.returns
returns c =
    let a = c.self.inside in
    let rows = listed_rows a.target a.rows in
    let counted : c.rows_len.result ≡ rows_length a.shown rows = c.rows_len.ensures.counted ∙ ap listed_length (sym c.self.view_is) ∙ held_length a.shown rows in
    subst (λ p. 8 + c.payload_len.result ≡ length (spelling (body_tree p.target p.listing))) c.self.view_is
    (body_length a.target a.revision a.scope rows a.shown c.payload_len.result
    (c.payload_len.ensures.counted a.target
    ∙ ap (λ n. 65 + n + length (spellings (trees_of (gone_tags a.target (is_delta_of a.scope) (gone_of a.scope))))) counted))
