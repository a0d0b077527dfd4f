use Rattle.std.proofs.Common.{◌≡◌, IsUtf8, Some, option_map, filter, ap, sym, ◌∙◌, subst, rules}
use Rattle.std.specs.Map.{keys_of}
use Rattle.item_model.specs.QuerySeen.{tree_of}
use Rattle.item_model.specs.Folding.{folded}
use Rattle.share_history.specs.Keyed.{AreAscending}
use Rattle.prop_index.specs.IdSets.{has}
use Rattle.prop_index.specs.Ids.{ids_under}
use Rattle.prop_index.specs.Forms.{any_case}
use Rattle.prop_index.specs.Index.{found}
use Rattle.prop_index.specs.Candidates.{needed_text, is_candidate}
use Rattle.prop_index.proofs.FoundFacts.{ids_found}
use Rattle.prop_index.proofs.NeedFacts.{candidates_found, needed_filled, others_unasked}
use Rattle.prop_index.proofs.index.PropIndex.candidates.Goals as goal

-- the ids under the folded text are those of the items that may meet the query
pub returns-clause-found : goal.returns-clause-found
returns-clause-found c = λ rows rising stands.
    let text = c.in-Some.text.now in
    let utf8 : IsUtf8 text = c.folded.ensures.utf8 in
    let needed : needed_text (tree_of c.args.query.now) ≡ Some (c.in-Some.browse, text) = search rules in
    let bytes : c.as_str.result.now ≡ folded text = search rules in
    let texts = ap (λ t. ids_under t c.as_str.result.now) (c.ids_by.ensures any_case) ∙ ap (found c.args.self.now c.in-Some.browse any_case) bytes in
    ap (λ ids. Some ids)
    (ids_found rows c.args.self.now c.in-Some.browse any_case (folded text) c.in_ok-ids.field-0.items rising stands (c.in_ok-ids.ensures.ids ∙ texts)
    (subst AreAscending texts c.in_ok-ids.ensures.ascending)
    ∙ ap keys_of (candidates_found rows c.args.self.now c.in-Some.browse text utf8 (needed_filled (tree_of c.args.query.now) c.in-Some.browse text needed) rising stands))
    ∙ ap (option_map (λ text. keys_of (filter (λ row. is_candidate text row.1) rows))) (sym needed)

pub returns-clause-others : goal.returns-clause-others
returns-clause-others c = λ es stands id missed.
    let text = c.in-Some.text.now in
    let utf8 : IsUtf8 text = c.folded.ensures.utf8 in
    let needed : needed_text (tree_of c.args.query.now) ≡ Some (c.in-Some.browse, text) = search rules in
    let bytes : c.as_str.result.now ≡ folded text = search rules in
    let texts = ap (λ t. ids_under t c.as_str.result.now) (c.ids_by.ensures any_case) ∙ ap (found c.args.self.now c.in-Some.browse any_case) bytes in
    others_unasked es c.args.self.now c.args.query.now c.in-Some.browse text utf8 needed stands id
    (ap (has id) (sym (c.in_ok-ids.ensures.ids ∙ texts)) ∙ missed)
