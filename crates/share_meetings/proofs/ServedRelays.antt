-- No response of a share ends a relay.
use Rattle.std.proofs.Common.{◌≡◌, ◌⊎◌, ℕ, List, [], ◌∷◌, ◌++◌, Option, Some, None, refl, sym, ap, ◌∙◌, inl, inr}
use Rattle.std.specs.List.{AllByRecursion}
use Rattle.item_model.specs.declared.changes.Entry.{Entry}
use Rattle.mirror_client.specs.declared.refusal.FollowError.{FollowError}
use Rattle.mirror_client.specs.declared.refusal.FollowError.TheVariants as follow
use Rattle.mirror_client.specs.Points.{Point}
use Rattle.mirror_client.specs.Stages.{Asking, Begun, Holding, StopsFrom, listings_in}
use Rattle.mirror_client.specs.Steps.{with_listings}
use Rattle.mirror_client.proofs.StageFacts.{walk_on}
use Rattle.share_history.specs.Listings.{Listing}
use Rattle.share_replies.specs.Settings.{Settings}
use Rattle.share_server.specs.Passes.{Pass}
use Rattle.share_meetings.proofs.Completes.{IsTheShares, listings_are_the_shares, served_runs_go_on}
use Rattle.relayed_rows.specs.Relays.{first_unread}
use Rattle.relay_share.specs.Ends.{EndsRelay, Halts, Leaves}
use Rattle.relay_share.specs.Rounds.{followed}
use Rattle.relay_share.specs.declared.report.Relayed.{Relayed}
use Rattle.relay_share.specs.declared.report.RelayEnd.{RelayEnd}
use Rattle.relay_share.specs.declared.report.RelayEnd.TheVariants.{Done, Row, Full, Stopped, Peer, Memory}
use Rattle.relay_share.proofs.ShareLibraries.{all_are_read}
use Rattle.share_meetings.specs.RelayLaws.{MayEnd, ServedRelaysGoOn, ServesRelay}

last_of : {A : Type 0} (P : A → Type 0) (xs : List A) (x : A) → AllByRecursion P (xs ++ x ∷ []) → P x
last_of P [] x all = all.0
last_of P (y ∷ xs) x all = last_of P xs x all.1

module _ (host : List ℕ) (rounds : ℕ) (p : Point) (taken : Option (List ℕ)) (k k' : Pass) (done : List Relayed) (s : Settings) (h : List Entry) (bytes : List ℕ)
    (owed : p.owed ≡ Some bytes) (serves : ServesRelay s h rounds bytes) where
  -- the client of a relay stops as any other does
  stops_from : (e : FollowError) → (x : Halts host rounds p taken k k' done e) → StopsFrom host followed rounds Begun p taken e (with_listings followed (listings_in x.stage))
  stops_from e x =
      record { stage = x.stage; there = x.there; walks = x.relays.walks; request = x.request; is_due = x.is_due; stops = x.stops; holds = refl }

  halts_outside : (e : FollowError) → (e ≡ follow.Memory → ⊥) → Halts host rounds p taken k k' done e → e ≡ follow.LinkFault
  halts_outside e other x =
      either
      (served_runs_go_on host followed rounds p taken e (with_listings followed (listings_in x.stage)) s h bytes (stops_from e x) refl serves.whole owed serves.run serves.rounds_are)
    where
      either : (e ≡ follow.LinkFault) ⊎ (e ≡ follow.Memory) → e ≡ follow.LinkFault
      either (inl fault) = fault
      either (inr memory) = absurd (other memory)

  -- each row of the last listing is read
  reads_last : (x : Leaves host rounds p taken k k' done) → first_unread x.last ≡ None
  reads_last x =
      let all : AllByRecursion (IsTheShares s followed) (x.listings ++ x.last ∷ []) =
      listings_are_the_shares host followed rounds p (Holding x.known (x.listings ++ x.last ∷ [])) x.there s h bytes
      (walk_on host followed rounds Begun (Asking x.known x.listings) (Holding x.known (x.listings ++ x.last ∷ [])) p x.middle x.there x.relays.walks x.walks) refl serves.whole
      owed serves.run serves.rounds_are in
      let last : IsTheShares s followed x.last = last_of (IsTheShares s followed) x.listings x.last all in
      ap (λ (l : Listing). first_unread l) last.is ∙ all_are_read s.keep last.point last.base last.whole

  may_end : (end : RelayEnd) → EndsRelay host rounds p taken k k' done end → MayEnd end
  may_end Done ends = tt
  may_end (Row index) ends = let bad : None ≡ Some index = sym (reads_last ends.0) ∙ ends.1 in absurd (cc)
  may_end Full ends = tt
  may_end Stopped ends = tt
  may_end (Peer e) ends = halts_outside e ends.0 ends.1
  may_end Memory ends = tt

pub served_relays_go_on : ServedRelaysGoOn
served_relays_go_on host rounds p taken k k' report s h bytes r owed serves =
    may_end host rounds p taken k r.before_stop report.rounds.items s h bytes owed serves report.end r.ends
