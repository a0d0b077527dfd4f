-- A text is UTF-8.
use Rattle.std.proofs.lemmas.Str.{is_utf8-from_IsUtf8}
use Rattle.dmap_json.proofs.parts.own_text.Goals as goal

pub returns-clause-held : goal.returns-clause-held
returns-clause-held c = is_utf8-from_IsUtf8 c.args.text.now c.utf8.text
