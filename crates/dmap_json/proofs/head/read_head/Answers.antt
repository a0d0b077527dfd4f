-- The parts of an object determine its tag.
use Rattle.std.proofs.Common.{◌≡◌, Some, sym, ap, ◌∙◌, rules}
use Rattle.std.proofs.lemmas.Bool.{true≢false}
use Rattle.std.proofs.lemmas.Result.{IfOk-weaker}
use denote.Enum.Bare.{same_true, sameb}
use Rattle.serde_json.specs.View.{view}
use Rattle.dmap_tags.specs.contracts.kinds.Kind.{the_type}
use Rattle.dmap_tags.specs.declared.kinds.Kind.{Kind}
use Rattle.dmap_tags.specs.declared.kinds.Kind.TheVariants as kind
use Rattle.dmap_json.proofs.Heads.{list_case, leaf_case}
use Rattle.dmap_json.proofs.head.read_head.Goals as goal

pub returns-then-eq : goal.returns-then-eq
returns-then-eq c =
    let object = c.in-Some.object in
    let is_list : c.in-Some-kind_from.kind ≡ kind.List = same_true the_type (search rules) _ _ (sym c.if-eq.ensures) in
    list_case c.args.table.now c.args.parent (view c.args.json.now) object.code.now object.kind.now (view object.value.now) c.in-Some.ensures
    c.in-Some-code_from.code c.in-Some-code_from.ensures.0 c.in-Some-code_from.ensures.1
    (sym c.in-Some-kind_from.ensures ∙ ap (λ (k : Kind). Some k) is_list) c.list_head.result c.list_head.ensures

pub returns : goal.returns
returns c =
    let object = c.in-Some.object in
    IfOk-weaker c.leaf_head.result _ _ (λ r h.
    leaf_case c.args.table.now c.args.parent (view c.args.json.now) object.code.now object.kind.now (view object.value.now) c.in-Some.ensures
    c.in-Some-code_from.code c.in-Some-code_from.ensures.0 c.in-Some-code_from.ensures.1 c.in-Some-kind_from.kind (sym c.in-Some-kind_from.ensures)
    (λ e. true≢false (sym (c.eq.ensures ∙ ap (λ (k : Kind). sameb the_type k kind.List) e) ∙ c.if-eq.false)) r h) c.leaf_head.ensures
