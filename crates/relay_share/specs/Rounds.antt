-- The rounds of a relay, one for each listing that it read: the listing becomes an edit of the relay's own share, and
-- is reported.
use Rattle.std.specs.Prelude.{◌≡◌, ⊤, ℕ, List, [], ◌∷◌, length, None}
use Rattle.item_model.specs.declared.changes.Edit.{Edit}
use Rattle.item_model.specs.declared.changes.Entry.{Entry}
use Rattle.item_model.specs.declared.request.Meta.TheVariants.{All}
use Rattle.item_model.specs.declared.request.Target.TheVariants.{Items}
use Rattle.mirror_core.specs.Mirrored.{Mirrored}
use Rattle.share_asks.specs.declared.ask.Ask.{Ask}
use Rattle.share_history.specs.Histories.{batches, revision}
use Rattle.share_history.specs.Listings.{Listing}
use Rattle.share_history.specs.Mirror.{Held, mirror_after}
use Rattle.share_server.specs.declared.report.Served.{Served}
use Rattle.share_server.specs.Passes.{Pass, Serves}
use Rattle.share_server.specs.Served.{at_point}
use Rattle.relayed_rows.specs.Differences.{difference, gone_ids, new_rows}
use Rattle.relayed_rows.specs.Libraries.{Library, library_in}
use Rattle.relayed_rows.specs.Relays.{nothing_held}
use Rattle.relay_share.specs.Asks.{edit_ask}
use Rattle.relay_share.specs.declared.report.Relayed.{Relayed}

-- What a relay follows: all items, with all their properties.
abbrev pub followed : Mirrored
followed = record { target = Items; query = None; meta = All; held = nothing_held }

abbrev pub before : Held → Library
before held = library_in held.rows

abbrev pub behind : Held → Listing → Library
behind held l = library_in (mirror_after held l).rows

-- The edits from the library before a listing to the one after it.
abbrev pub batch_of : Held → Listing → List Edit
batch_of held l = difference (before held) (behind held l)

-- The edits that are requested, one for each listing.
abbrev pub edits_asked : Held → List Listing → List Ask
edits_asked held [] = []
edits_asked held (l ∷ ls) = edit_ask (batch_of held l) ∷ edits_asked (mirror_after held l) ls

-- The status of an edit that was made. One without records adds nothing.
abbrev pub made_status : List Edit → ℕ
made_status [] = 204
made_status (e ∷ es) = 200

abbrev pub relayed_by : Held → Listing → ℕ → Relayed
relayed_by held l own =
    record {
      upstream = l.revision;
      delta = l.is_delta;
      puts = length (new_rows (before held) (behind held l));
      drops = length (gone_ids (before held) (behind held l));
      revision = own;
    }

-- In a turn of the handle the edit of a listing was requested, and got another status.
pub record IsRefused (held : Held) (l : Listing) (k k' : Pass) (status : ℕ) : Type 0 where
  pub refused : Served
  pub serves : Serves k k' (edit_ask (batch_of held l) ∷ []) (refused ∷ [])
  pub latest : refused.point ≡ length k'.seen
  pub is : refused.status ≡ status

-- The edit of a listing was made at a history length, and is reported with the revision there.
pub record IsRelayed (h : List Entry) (held : Held) (l : Listing) (s : Served) (r : Relayed) : Type 0 where
  pub made : s.status ≡ made_status (batch_of held l)
  pub told : r ≡ relayed_by held l (revision (batches (at_point h s)))

abbrev pub AreRelayed : List Entry → Held → List Listing → List Served → List Relayed → Type 0
AreRelayed h held [] [] [] = ⊤
AreRelayed h held [] [] (r ∷ done) = ⊥
AreRelayed h held [] (s ∷ served) done = ⊥
AreRelayed h held (l ∷ ls) [] done = ⊥
AreRelayed h held (l ∷ ls) (s ∷ served) [] = ⊥
AreRelayed h held (l ∷ ls) (s ∷ served) (r ∷ done) = IsRelayed h held l s r × AreRelayed h (mirror_after held l) ls served done
