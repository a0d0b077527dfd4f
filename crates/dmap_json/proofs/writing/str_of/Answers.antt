-- A text is UTF-8.
use Rattle.std.proofs.Common.{IsUtf8, subst}
use Rattle.std.proofs.lemmas.Str.{is_utf8-from_IsUtf8}
use Rattle.dmap_json.proofs.writing.str_of.Goals as goal

pub returns-clause-held : goal.returns-clause-held
returns-clause-held c = is_utf8-from_IsUtf8 _ (subst IsUtf8 c.as_str.ensures c.as_str.utf8)
