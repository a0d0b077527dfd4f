use Rattle.prop_index.proofs.LeadFacts.{found_later, found_before, later_texts}
use Rattle.prop_index.proofs.index.PropIndex.take_in.Goals as goal

pub returns-in-Ok-clause-ok : goal.returns-in-Ok-clause-ok
returns-in-Ok-clause-ok c = λ rows later leads stands. record {
  found_by = λ browse form text id.
      found_later rows later c.args.turns.now.entries leads browse form text id _ _ _ (stands.found_by browse form text id)
      (c.in-Ok.ensures.ok browse form text id) (c.settle_all.ensures browse form text id);
  texts = later_texts rows later c.args.turns.now.entries leads c.in-Ok.ensures.texts stands.texts;
}

pub returns-in-Err-clause-err : goal.returns-in-Err-clause-err
returns-in-Err-clause-err c = λ rows later leads stands. record {
  found_by = λ browse form text id.
      found_before rows later c.args.turns.now.entries leads browse form text id _ _ _ (stands.found_by browse form text id)
      (c.in-Err.ensures.kept browse form text id) (c.in-Err.ensures.only browse form text id)
      (c.take_back.ensures browse form text id);
  texts = stands.texts;
}
