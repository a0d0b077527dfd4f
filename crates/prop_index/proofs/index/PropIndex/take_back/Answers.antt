use Rattle.std.proofs.Common.{◌≡◌, ◌∷◌, ◌&&◌, not, sym, ap, ◌∙◌, rules}
use Rattle.std.specs.List.{list_any}
use Rattle.prop_index.specs.IdSets.{has}
use Rattle.prop_index.specs.Index.{found}
use Rattle.prop_index.specs.Keys.{gives_back}
use Rattle.prop_index.proofs.LeadFacts.{settled_one}
use Rattle.prop_index.proofs.index.PropIndex.take_back.Goals as goal

pub loop-id-preserved : goal.loop-id-preserved
loop-id-preserved c = λ browse form text id.
    let come : c.loop-id.id-iterator ≡ (c.in-Some.id.now, c.in-Some.turn.now) ∷ c.next.new.self = search rules in
    let held = has id (found c.loop-id.self browse form text) in
    ap (λ b. b && not (list_any (gives_back browse form text id) c.next.new.self)) (c.settle.ensures browse form text id)
    ∙ settled_one held _ _ (list_any (gives_back browse form text id) c.next.new.self)
    ∙ ap (λ turns. held && not (list_any (gives_back browse form text id) turns)) (sym come) ∙ c.loop-id.invariant browse form text id
