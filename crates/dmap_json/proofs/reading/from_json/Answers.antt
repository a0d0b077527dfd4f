-- The tag that was read is the only one.
use Rattle.std.proofs.lemmas.Result.{IfOk-weaker, IfErr-weaker}
use Rattle.serde_json.specs.View.{view}
use Rattle.dmap_json.proofs.Walked.{judged, explained, top_reads}
use Rattle.dmap_json.proofs.reading.from_json.Goals as goal

pub returns-in-Ok-clause-complete : goal.returns-in-Ok-clause-complete
returns-in-Ok-clause-complete c = λ t h.
    let d = view c.in-Ok.json in
    judged c.args.table.now c.args.text.now t c.read_tag.result
    (IfOk-weaker c.read_tag.result _ _ (λ u r. top_reads c.args.table.now c.args.text.now d u c.in-Ok.ensures.ok r) c.read_tag.ensures.read)
    (IfErr-weaker c.read_tag.result _ _ (λ e s. explained c.args.table.now c.args.text.now d e c.in-Ok.ensures.ok s) c.read_tag.ensures.refused) h
