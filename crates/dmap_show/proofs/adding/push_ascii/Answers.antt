-- ASCII characters are a text.
use Rattle.std.proofs.lemmas.Str.{IsUtf8-from_ascii}
use Rattle.dmap_show.proofs.Utf8.{utf8_appended}
use Rattle.dmap_show.proofs.adding.push_ascii.Goals as goal

pub returns-clause-text : goal.returns-clause-text
returns-clause-text c = λ h. utf8_appended _ _ _ c.in_ok-extend_from_slice.ensures.items (IsUtf8-from_ascii _ c.requires) h
