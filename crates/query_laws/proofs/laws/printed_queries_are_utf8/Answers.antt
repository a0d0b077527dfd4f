-- The law is its lemma.
use Rattle.query_laws.proofs.Utf8Texts.{printed_in_utf8}
use Rattle.query_laws.proofs.laws.printed_queries_are_utf8.Goals as goal

pub returns : goal.returns
returns c = printed_in_utf8
