-- What was sent is the tag's JSON value, whose text the bytes are.
use Rattle.serde_json.proofs.FreeTexts.{text_of_value}
use Rattle.dmap_json.specs.TagObject.{json_of}
use Rattle.dmap_json.proofs.Written.{has_no_float}
use Rattle.dmap_json.proofs.writing.json_bytes.Goals as goal

pub returns-in-Ok-clause-text : goal.returns-in-Ok-clause-text
returns-in-Ok-clause-text c =
    let sent = c.in-Ok.ensures.events in
    text_of_value (json_of c.args.tag.now) sent.0 c.in-Ok.bytes.items sent.1.0 sent.2 (has_no_float c.args.tag.now sent.1.1)
