-- A relay's rounds: one more, and what was reported stays.
use Rattle.std.proofs.Common.{◌≡◌, ℕ, List, [], ◌∷◌, ◌++◌, length, refl, sym, ap, ◌∙◌, subst}
use Rattle.std.specs.List.{AllByRecursion}
use Rattle.item_model.specs.declared.changes.Entry.{Entry}
use Rattle.mirror_client.specs.Points.{Point}
use Rattle.mirror_client.specs.Stages.{Asking, Begun, Holding, Walks, listings_in}
use Rattle.mirror_client.specs.Steps.{Known, held_after}
use Rattle.mirror_client.proofs.StageFacts.{held_more, walk_on}
use Rattle.share_asks.specs.declared.ask.Ask.{Ask}
use Rattle.share_history.specs.Histories.{batches, revision}
use Rattle.share_history.specs.Keyed.{IsAscending}
use Rattle.share_history.proofs.KeyedFacts.{sorted-ascending}
use Rattle.share_history.specs.Listings.{Listing}
use Rattle.share_history.specs.Mirror.{Held, mirror_after}
use Rattle.share_replies.specs.Settings.{Settings}
use Rattle.share_server.specs.declared.report.Served.{Served}
use Rattle.share_server.specs.Passes.{Pass, Serves}
use Rattle.share_server.specs.Served.{AreServed, at_point}
use Rattle.share_server.proofs.InTurn.{serves_in_turn}
use Rattle.share_server.proofs.Longer.{same_point}
use Rattle.relayed_rows.specs.Libraries.{IsLibrary, library_in}
use Rattle.relayed_rows.specs.Relays.{Relaying, libraries_after, nothing_held, relaying_at}
use Rattle.relayed_rows.proofs.RelayFacts.{ascending-mirrored}
use Rattle.relay_share.specs.Asks.{edit_ask}
use Rattle.relay_share.specs.Ends.{Relays}
use Rattle.relay_share.specs.Rounds.{AreRelayed, IsRelayed, batch_of, edits_asked, followed, relayed_by}
use Rattle.relay_share.specs.Steps.{Stands, Takes}
use Rattle.relay_share.specs.declared.report.Relayed.{Relayed}

-- ---- one listing more

edits_more : (held : Held) (ls : List Listing) (l : Listing) → edits_asked held (ls ++ l ∷ []) ≡ edits_asked held ls ++ edit_ask (batch_of (held_after held ls) l) ∷ []
edits_more held [] l = refl
edits_more held (x ∷ ls) l = ap (λ (asks : List Ask). edit_ask (batch_of held x) ∷ asks) (edits_more (mirror_after held x) ls l)

relayed_more : (h : List Entry) (held : Held) (ls : List Listing) (l : Listing) (served : List Served) (s : Served) (done : List Relayed) (r : Relayed)
    → AreRelayed h held ls served done → IsRelayed h (held_after held ls) l s r → AreRelayed h held (ls ++ l ∷ []) (served ++ s ∷ []) (done ++ r ∷ [])
relayed_more h held [] l [] s [] r are is = (is, tt)
relayed_more h held [] l [] s (d ∷ done) r are is = absurd are
relayed_more h held [] l (x ∷ served) s done r are is = absurd are
relayed_more h held (x ∷ ls) l [] s done r are is = absurd are
relayed_more h held (x ∷ ls) l (y ∷ served) s [] r are is = absurd are
relayed_more h held (x ∷ ls) l (y ∷ served) s (d ∷ done) r are is = (are.0, relayed_more h (mirror_after held x) ls l served s done r are.1 is)

-- what was reported of listings stays, however the history grows
relayed_longer : (settings : Settings) (by : ℕ) (h more : List Entry) (held : Held) (ls : List Listing) (served : List Served) (done : List Relayed)
    → AreServed settings by h (edits_asked held ls) served → AreRelayed h held ls served done → AreRelayed (h ++ more) held ls served done
relayed_longer settings by h more held [] [] [] served_too are = tt
relayed_longer settings by h more held [] [] (d ∷ done) served_too are = absurd are
relayed_longer settings by h more held [] (x ∷ served) done served_too are = absurd are
relayed_longer settings by h more held (l ∷ ls) [] done served_too are = absurd are
relayed_longer settings by h more held (l ∷ ls) (s ∷ served) [] served_too are = absurd are
relayed_longer settings by h more held (l ∷ ls) (s ∷ served) (d ∷ done) served_too are = (
  record {
    made = are.0.made;
    told = are.0.told ∙ ap (λ (p : List Entry). relayed_by held l (revision (batches p))) (sym (same_point h more s served_too.0.within));
  },
  relayed_longer settings by h more (mirror_after held l) ls served done served_too.1 are.1,
)

libraries_more : (held : Held) (ls : List Listing) (l : Listing) → AllByRecursion IsLibrary (libraries_after held ls)
    → IsLibrary (library_in (mirror_after (held_after held ls) l).rows) → AllByRecursion IsLibrary (libraries_after held (ls ++ l ∷ []))
libraries_more held [] l are is = (is, tt)
libraries_more held (x ∷ ls) l are is = (are.0, libraries_more (mirror_after held x) ls l are.1 is)

-- ---- one round more

pub relays_more : (host : List ℕ) (rounds : ℕ) (p : Point) (known : Known) (ls : List Listing) (l : Listing) (q q' : Point) (k k' k'' : Pass) (done done' : List Relayed) (now : Relaying)
    → Relays host rounds p (Asking known ls) q k k' done → Walks host followed rounds (Asking known ls) q (Holding known (ls ++ l ∷ [])) q'
    → Takes (held_after nothing_held ls) l k' k'' done done' now → Stands host rounds p (Holding known (ls ++ l ∷ [])) q' k k'' done' now
relays_more host rounds p known ls l q q' k k' k'' done done' now one walks t =
    let longer : AreRelayed k''.seen nothing_held ls one.served done =
    subst (λ (h : List Entry). AreRelayed h nothing_held ls one.served done) (sym t.serves.fresh.grows)
    (relayed_longer k.settings k.number k'.seen t.serves.fresh.more nothing_held ls one.served done one.serves.are_served one.relayed) in
    record {
      relays = record {
        walks = walk_on host followed rounds Begun (Asking known ls) (Holding known (ls ++ l ∷ [])) p q q' one.walks walks;
        served = one.served ++ t.made ∷ [];
        serves =
            subst (λ (asks : List Ask). Serves k k'' asks (one.served ++ t.made ∷ [])) (sym (edits_more nothing_held ls l))
            (serves_in_turn k k' k'' (edits_asked nothing_held ls) (edit_ask (batch_of (held_after nothing_held ls) l) ∷ []) one.served (t.made ∷ []) one.serves t.serves);
        relayed =
            subst (λ (ds : List Relayed). AreRelayed k''.seen nothing_held (ls ++ l ∷ []) (one.served ++ t.made ∷ []) ds) (sym t.told)
            (relayed_more k''.seen nothing_held ls l one.served t.made done _ longer (record { made = t.status; told = refl }));
        libraries = libraries_more nothing_held ls l one.libraries (subst (λ (r : Relaying). IsLibrary r.library) t.holds t.library);
      };
      holds = t.holds ∙ ap relaying_at (sym (held_more nothing_held ls l));
    }

-- a step without a listing
pub walked : (host : List ℕ) (rounds : ℕ) (p : Point) (known : Known) (ls : List Listing) (q q' : Point) (k k' : Pass) (done : List Relayed) (now : Relaying)
    → Stands host rounds p (Holding known ls) q k k' done now → Walks host followed rounds (Holding known ls) q (Asking known ls) q'
    → Stands host rounds p (Asking known ls) q' k k' done now
walked host rounds p known ls q q' k k' done now one walks = record {
  relays = record {
    walks = walk_on host followed rounds Begun (Holding known ls) (Asking known ls) p q q' one.relays.walks walks;
    served = one.relays.served;
    serves = one.relays.serves;
    relayed = one.relays.relayed;
    libraries = one.relays.libraries;
  };
  holds = one.holds;
}

-- ---- what the relay holds

ascends_from : (held : Held) (ls : List Listing) → IsAscending held.rows → IsAscending (held_after held ls).rows
ascends_from held [] s = s
ascends_from held (l ∷ ls) s = ascends_from (mirror_after held l) ls (ascending-mirrored held l s)

pub ascends : (ls : List Listing) → IsAscending (held_after nothing_held ls).rows
ascends ls = ascends_from nothing_held ls (sorted-ascending [])
