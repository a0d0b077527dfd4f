-- A text followed by a text is a text.
use Rattle.dmap_show.proofs.Utf8.{utf8_appended}
use Rattle.dmap_show.proofs.adding.push_str.Goals as goal

pub returns-clause-text : goal.returns-clause-text
returns-clause-text c = λ h. utf8_appended _ _ _ c.in_ok-extend_from_slice.ensures.items c.as_bytes.ensures.utf8 h
