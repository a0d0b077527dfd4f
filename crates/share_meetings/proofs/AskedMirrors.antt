-- The mirrors that the arguments of `follow` select: their requests read back.
use Rattle.std.proofs.Common.{◌≡◌, ℕ, List, [], Option, Some, None, IfSome, IsUtf8, sym, ap, subst}
use Rattle.item_model.specs.declared.query.Query.{Query}
use Rattle.item_model.specs.declared.request.Meta.{Meta}
use Rattle.item_model.specs.declared.request.Target.{Target}
use Rattle.item_model.specs.QuerySeen.{tree_of}
use Rattle.song_query.proofs.ReadAgain.{read_again}
use Rattle.song_query.proofs.ReadLaws.{reads_proper}
use Rattle.share_asks.specs.Valid.{MayAsk}
use Rattle.http_client.specs.Requests.{HasListNumber, IsHost, IsNamed, IsWithinLimits}
use Rattle.http_client.specs.Targets.{IsText}
use Rattle.mirror_core.specs.Mirrored.{Mirrored}
use Rattle.link_commands.specs.Looks.{AsksMirror, AsksQuery, meta_or_default}
use Rattle.share_meetings.specs.Mirrors.{CanBeAsked}
use Rattle.query_laws.proofs.Utf8Texts.{printed_in_utf8}

-- a query that was read has a text within the limits
proper_of : (text : Option (List ℕ)) (asked : Option Query) → AsksQuery text asked → MayAsk asked
proper_of None None asks = tt
proper_of None (Some q) asks = absurd asks
proper_of (Some text) None asks = absurd asks
proper_of (Some text) (Some q) asks = reads_proper text (tree_of q) asks.1

short_of : (text : Option (List ℕ)) (asked : Option Query) → AsksQuery text asked → IsWithinLimits asked
short_of None None asks = tt
short_of None (Some q) asks = absurd asks
short_of (Some text) None asks = absurd asks
short_of (Some text) (Some q) asks = let again = read_again q text asks in (again.0, again.2)

-- .. which is UTF-8 if the words are
text_of : (text : Option (List ℕ)) (asked : Option Query) → AsksQuery text asked → IfSome text IsUtf8 → IsText asked
text_of None None asks utf8 = tt
text_of None (Some q) asks utf8 = absurd asks
text_of (Some text) None asks utf8 = absurd asks
text_of (Some text) (Some q) asks utf8 = printed_in_utf8 text q utf8 asks

named_of : (text : Option (List ℕ)) (shown : Meta) → meta_or_default text ≡ Some shown → IsNamed shown
named_of None shown is = ([], is)
named_of (Some text) shown is = (text, is)

pub asked_mirrors_can_be_asked : (query meta : Option (List ℕ)) (target : Target) (m : Mirrored) (host : List ℕ) → AsksMirror query meta target m → IsHost host → HasListNumber target
    → IfSome query IsUtf8 → CanBeAsked host m
asked_mirrors_can_be_asked query meta target m host asks host_is list utf8 = record {
  host_is = host_is;
  list = subst (λ (t : Target). HasListNumber t) (sym (ap (λ (k : Mirrored). k.target) asks.is)) list;
  proper = subst (λ (q : Option Query). MayAsk q) (sym (ap (λ (k : Mirrored). k.query) asks.is)) (proper_of query asks.asked asks.query_is);
  text = subst (λ (q : Option Query). IsText q) (sym (ap (λ (k : Mirrored). k.query) asks.is)) (text_of query asks.asked asks.query_is utf8);
  short = subst (λ (q : Option Query). IsWithinLimits q) (sym (ap (λ (k : Mirrored). k.query) asks.is)) (short_of query asks.asked asks.query_is);
  named = subst (λ (n : Meta). IsNamed n) (sym (ap (λ (k : Mirrored). k.meta) asks.is)) (named_of meta asks.shown asks.meta_is);
}
