use Rattle.serde_json.specs.View.{view}
use Rattle.dmap_json.proofs.Heads.{signed_case}
use Rattle.dmap_json.proofs.parts.signed.Goals as goal

pub returns-in-None : goal.returns-in-None
returns-in-None c = signed_case (view c.args.json.now) c.negative.result (λ n e. c.in-None.ensures n e) c.negative.ensures
