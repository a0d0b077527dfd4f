-- A text with its escapes is a text.
use Rattle.dmap_show.proofs.Utf8.{utf8_appended, escaped_utf8}
use Rattle.dmap_show.proofs.adding.push_escaped_text.Goals as goal

pub returns-clause-text : goal.returns-clause-text
returns-clause-text c = λ h. utf8_appended _ _ _ c.in_ok-push_escaped_bytes.ensures.shown (escaped_utf8 _ c.as_bytes.ensures.utf8) h
