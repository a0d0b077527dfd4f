-- What a relay leaves, however it ended, and what its share shows.
use Rattle.std.proofs.Common.{◌≡◌, ℕ, List, [], ◌∷◌, ◌++◌, ◌==◌, ◌||◌, Bool, true, false, cond, Option, refl, sym, ap, ap₂, ◌∙◌, subst, append-nil, inl, inr, arith, true≢false, eq-eqb}
use Rattle.std.specs.Io.KnownBytes.{Appends}
use Rattle.std.proofs.KnownBytes.{Appends-nil}
use Rattle.std.proofs.lemmas.List.Folds.{list_any-append}
use Rattle.std.specs.List.{AllByRecursion, list_any}
use Rattle.item_model.specs.declared.changes.Edit.{Edit}
use Rattle.item_model.specs.declared.changes.Entry.{Entry}
use Rattle.item_model.specs.declared.changes.Entry.TheVariants as entry
use Rattle.mirror_client.specs.Exchanges.{requests}
use Rattle.mirror_client.specs.Points.{Point}
use Rattle.mirror_client.specs.Stages.{Asking, Begun, Stage, UnexpectedIn, Walks, listings_in}
use Rattle.mirror_client.specs.Steps.{held_after}
use Rattle.mirror_client.specs.declared.refusal.FollowError.{FollowError}
use Rattle.mirror_client.specs.declared.refusal.FollowError.TheVariants as follow
use Rattle.mirror_client.proofs.StageFacts.{part_written}
use Rattle.share_history.specs.Histories.{batches}
use Rattle.share_history.specs.Listings.{Listing}
use Rattle.share_history.specs.Mirror.{Held}
use Rattle.share_history.specs.Sessions.{is_stopped}
use Rattle.share_history.proofs.EditFacts.{batches-append}
use Rattle.share_lock.specs.Histories.{entries_of}
use Rattle.share_replies.specs.Laws.{is_edit, maker}
use Rattle.share_server.specs.Passes.{Pass}
use Rattle.relayed_rows.specs.Libraries.{IsLibrary}
use Rattle.relayed_rows.specs.Relays.{nothing_held, relay_of, steps_between}
use Rattle.relayed_rows.proofs.StepFacts.{relays_never_go_back}
use Rattle.relay_share.specs.Ends.{EndsRelay, Halts, Leaves, Refuses, Relays}
use Rattle.relay_share.specs.Laws.{EditsAlone, RelaysLeaveSteps, RelaysShowWhatTheyRead, SharesMakeSteps, StoppedRelaysSawAStop, edits_by, is_stop_beside, stop_behind}
use Rattle.relay_share.specs.Rounds.{IsRefused, batch_of, followed, made_status}
use Rattle.relay_share.specs.declared.report.Relayed.{Relayed}
use Rattle.relay_share.specs.declared.report.RelayEnd.{RelayEnd}
use Rattle.relay_share.specs.declared.report.RelayEnd.TheVariants.{Done, Row, Full, Stopped, Peer, Memory}
use Rattle.relay_share.proofs.EditFacts.{refused_entry}
use Rattle.relay_share.proofs.StepFacts.{relays_make_steps}
use Rattle.relay_share.proofs.StopFacts.{edit_stopped, other_stop, stops_come_last}

-- ---- the steps

-- a relay before its stop: its entries are exactly the steps
record Stepped (host : List ℕ) (rounds : ℕ) (p : Point) (taken : Option (List ℕ)) (number : ℕ) (seen : List Entry) : Type 0 where
  stage : Stage
  there : Point
  walks : Walks host followed rounds Begun p stage there
  part : List ℕ
  written : Appends there.taken taken part
  libraries : AllByRecursion IsLibrary (relay_of (listings_in stage))
  entries : entries_of maker number seen ≡ edits_by number (steps_between [] (relay_of (listings_in stage)))

module _ (host : List ℕ) (rounds : ℕ) (p : Point) (taken : Option (List ℕ)) (k : Pass) (new : k.seen ≡ []) where
  stepped : (k' : Pass) (done : List Relayed) (stage : Stage) (there : Point) (part : List ℕ) → Appends there.taken taken part
      → Relays host rounds p stage there k k' done → Stepped host rounds p taken k.number k'.seen
  stepped k' done stage there part written r = record {
    stage = stage;
    there = there;
    walks = r.walks;
    part = part;
    written = written;
    libraries = r.libraries;
    entries =
        relays_make_steps host rounds p stage there k k' done r
        ∙ ap (λ (seen : List Entry). entries_of maker k.number seen ++ edits_by k.number (steps_between [] (relay_of (listings_in stage)))) new;
  }

  left : (k' : Pass) (done : List Relayed) → Leaves host rounds p taken k k' done → Stepped host rounds p taken k.number k'.seen
  left k' done x =
      stepped k' done (Asking x.known x.listings) x.middle (requests x.walks.exchanges)
      (subst (λ (o : Option (List ℕ)). Appends x.middle.taken o (requests x.walks.exchanges)) x.written x.walks.went.written) x.relays

  halted : (k' : Pass) (done : List Relayed) (e : FollowError) → Halts host rounds p taken k k' done e → Stepped host rounds p taken k.number k'.seen
  halted k' done e x =
      let part = part_written x.request (UnexpectedIn followed rounds x.stage) x.there taken e x.stops in stepped k' done x.stage x.there part.0 part.1 x.relays

  -- a refused edit adds none
  no_more : (reached k' : Pass) (held : Held) (l : Listing) (status : ℕ) (x : IsRefused held l reached k' status) → (status ≡ made_status (batch_of held l) → ⊥)
      → reached.number ≡ k.number → entries_of maker k.number k'.seen ≡ entries_of maker k.number reached.seen
  no_more reached k' held l status x other same =
      subst (λ (n : ℕ). entries_of maker n k'.seen ≡ entries_of maker n reached.seen) same
      (x.serves.own
      ∙ ap (λ (es : List Entry). entries_of maker reached.number reached.seen ++ (es ++ []))
      (refused_entry reached.settings reached.number k'.seen (batch_of held l) x.refused x.serves.are_served.0 (λ made. other (sym x.is ∙ made)))
      ∙ append-nil (entries_of maker reached.number reached.seen))

  refused : (k' : Pass) (done : List Relayed) (status : ℕ) → Refuses host rounds p taken k k' done status → ((batch : List Edit) → status ≡ made_status batch → ⊥)
      → Stepped host rounds p taken k.number k'.seen
  refused k' done status x other =
      let before : Stepped host rounds p taken k.number x.reached.seen = left x.reached done x.leaves in
      record {
        stage = before.stage;
        there = before.there;
        walks = before.walks;
        part = before.part;
        written = before.written;
        libraries = before.libraries;
        entries =
            no_more x.reached k' (held_after nothing_held x.leaves.listings) x.leaves.last status x.refused
            (other (batch_of (held_after nothing_held x.leaves.listings) x.leaves.last)) (ap (λ (n : Pass). n.number) x.leaves.relays.serves.stays)
            ∙ before.entries;
      }

  not_made : (status : ℕ) → (status ≡ 200 → ⊥) → (status ≡ 204 → ⊥) → (batch : List Edit) → status ≡ made_status batch → ⊥
  not_made status no200 no204 [] is = no204 is
  not_made status no200 no204 (e ∷ es) is = no200 is

  ended : (k' : Pass) (done : List Relayed) (end : RelayEnd) → EndsRelay host rounds p taken k k' done end → Stepped host rounds p taken k.number k'.seen
  ended k' done Done x =
      stepped k' done _ x.there [] (subst (λ (o : Option (List ℕ)). Appends x.there.taken o []) x.written (Appends-nil x.there.taken)) x.relays
  ended k' done (Row index) x = left k' done x.0
  ended k' done Full x = refused k' done 507 x (not_made 507 (λ (e : 507 ≡ 200). omega (arith, e)) (λ (e : 507 ≡ 204). omega (arith, e)))
  ended k' done Stopped x = refused k' done 503 x (not_made 503 (λ (e : 503 ≡ 200). omega (arith, e)) (λ (e : 503 ≡ 204). omega (arith, e)))
  ended k' done (Peer e) x = halted k' done e x.1
  ended k' done Memory (inl x) = halted k' done follow.Memory x
  ended k' done Memory (inr (inl x)) = left k' done x
  ended k' done Memory (inr (inr x)) = refused k' done 500 x (not_made 500 (λ (e : 500 ≡ 200). omega (arith, e)) (λ (e : 500 ≡ 204). omega (arith, e)))

-- edits stop nothing
unstopped : (number : ℕ) (bs : List (List Edit)) → is_stopped (edits_by number bs) ≡ false
unstopped number [] = refl
unstopped number (b ∷ bs) = unstopped number bs

-- the handle of a relay keeps its number to its end
ends_numbered : (host : List ℕ) (rounds : ℕ) (p : Point) (taken : Option (List ℕ)) (k k' : Pass) (done : List Relayed) (end : RelayEnd)
    → EndsRelay host rounds p taken k k' done end → k'.number ≡ k.number
ends_numbered host rounds p taken k k' done Done x = ap (λ (n : Pass). n.number) x.relays.serves.stays
ends_numbered host rounds p taken k k' done (Row index) x = ap (λ (n : Pass). n.number) x.0.relays.serves.stays
ends_numbered host rounds p taken k k' done Full x =
    ap (λ (n : Pass). n.number) x.refused.serves.stays ∙ ap (λ (n : Pass). n.number) x.leaves.relays.serves.stays
ends_numbered host rounds p taken k k' done Stopped x =
    ap (λ (n : Pass). n.number) x.refused.serves.stays ∙ ap (λ (n : Pass). n.number) x.leaves.relays.serves.stays
ends_numbered host rounds p taken k k' done (Peer e) x = ap (λ (n : Pass). n.number) x.1.relays.serves.stays
ends_numbered host rounds p taken k k' done Memory (inl x) = ap (λ (n : Pass). n.number) x.relays.serves.stays
ends_numbered host rounds p taken k k' done Memory (inr (inl x)) = ap (λ (n : Pass). n.number) x.relays.serves.stays
ends_numbered host rounds p taken k k' done Memory (inr (inr x)) =
    ap (λ (n : Pass). n.number) x.refused.serves.stays ∙ ap (λ (n : Pass). n.number) x.leaves.relays.serves.stays

pub relays_leave_steps : RelaysLeaveSteps
relays_leave_steps host rounds p taken k k' report new r =
    let done : List Relayed = report.rounds.items in
    let one : Stepped host rounds p taken k.number r.before_stop.seen = ended host rounds p taken k new r.before_stop done report.end r.ends in
    let first : r.before_stop.number ≡ k.number = ends_numbered host rounds p taken k r.before_stop done report.end r.ends in
    let last : k'.number ≡ r.before_stop.number = ap (λ (n : Pass). n.number) r.stops.stays in
    let steps : entries_of maker r.before_stop.number r.before_stop.seen ≡ edits_by r.before_stop.number (steps_between [] (relay_of (listings_in one.stage))) =
    subst (λ (n : ℕ). entries_of maker n r.before_stop.seen ≡ edits_by n (steps_between [] (relay_of (listings_in one.stage)))) (sym first) one.entries in
    record {
      stage = one.stage;
      there = one.there;
      walks = one.walks;
      part = one.part;
      written = one.written;
      libraries = one.libraries;
      entries =
          subst (λ (n : ℕ). entries_of maker n k'.seen ≡ edits_by n (steps_between [] (relay_of (listings_in one.stage))) ++ stop_behind n k'.seen) (sym last)
          (stops_come_last r.before_stop k' r.last (ap is_stopped steps ∙ unstopped r.before_stop.number (steps_between [] (relay_of (listings_in one.stage)))) r.stops r.latest r.stopped
          ∙ ap (λ (es : List Entry). es ++ stop_behind r.before_stop.number k'.seen) steps);
    }

-- a relay that ended `Stopped` found a stop of another pass
pub stopped_relays_saw_a_stop : StoppedRelaysSawAStop
stopped_relays_saw_a_stop host rounds p taken k k' report new r is =
    let done : List Relayed = report.rounds.items in
    let one : Stepped host rounds p taken k.number r.before_stop.seen = ended host rounds p taken k new r.before_stop done report.end r.ends in
    let x : Refuses host rounds p taken k r.before_stop done 503 = subst (EndsRelay host rounds p taken k r.before_stop done) is r.ends in
    let stopped : is_stopped r.before_stop.seen ≡ true = edit_stopped x.reached r.before_stop _ x.refused.refused x.refused.serves x.refused.is in
    let none : is_stopped (entries_of maker k.number r.before_stop.seen) ≡ false =
    ap is_stopped one.entries ∙ unstopped k.number (steps_between [] (relay_of (listings_in one.stage))) in
    let beside : list_any (is_stop_beside k.number) r.before_stop.seen ≡ true = other_stop k.number r.before_stop.seen stopped none in
    let number : k'.number ≡ k.number = ap (λ (n : Pass). n.number) r.stops.stays ∙ ends_numbered host rounds p taken k r.before_stop done report.end r.ends in
    subst (λ (n : ℕ). list_any (is_stop_beside n) k'.seen ≡ true) (sym number)
    (ap (list_any (is_stop_beside k.number)) r.stops.fresh.grows ∙ list_any-append (is_stop_beside k.number) r.before_stop.seen r.stops.fresh.more
    ∙ ap (λ (b : Bool). b || list_any (is_stop_beside k.number) r.stops.fresh.more) beside)

-- ---- what its share shows

batches_by : (number : ℕ) (bs : List (List Edit)) → batches (edits_by number bs) ≡ bs
batches_by number [] = refl
batches_by number (b ∷ bs) = ap (λ (rest : List (List Edit)). b ∷ rest) (batches_by number bs)

none_in : (b : Bool) (number : ℕ) → batches (cond b [] (entry.Stop number ∷ [])) ≡ []
none_in true number = refl
none_in false number = refl

number_itself : (n : ℕ) → (n == n) ≡ true
number_itself n = eq-eqb n n refl

-- the batches of a history are those of the one handle that edits
module _ (number : ℕ) where
  one_more : (mine : Bool) (e : Entry) (h : List Entry) → (is_edit e ≡ true → maker e ≡ number) → (maker e == number) ≡ mine
      → batches h ≡ batches (entries_of maker number h) → batches (e ∷ h) ≡ batches (cond mine (e ∷ entries_of maker number h) (entries_of maker number h))
  one_more true (entry.Edits by batch) h own same rest = ap (λ (bs : List (List Edit)). batch ∷ bs) rest
  one_more false (entry.Edits by batch) h own same rest = absurd (true≢false (sym (ap (λ (n : ℕ). n == number) (own refl) ∙ number_itself number) ∙ same))
  one_more true (entry.Login by id) h own same rest = rest
  one_more false (entry.Login by id) h own same rest = rest
  one_more true (entry.Logout by id) h own same rest = rest
  one_more false (entry.Logout by id) h own same rest = rest
  one_more true (entry.Stop by) h own same rest = rest
  one_more false (entry.Stop by) h own same rest = rest

  batches_of_one : (h : List Entry) → EditsAlone number h → batches h ≡ batches (entries_of maker number h)
  batches_of_one [] own = refl
  batches_of_one (e ∷ h) own = one_more (maker e == number) e h own.0 refl (batches_of_one h own.1)

pub shares_make_steps : SharesMakeSteps
shares_make_steps host rounds p taken k h r same alone =
    let steps : List (List Edit) = steps_between [] (relay_of (listings_in r.stage)) in
    batches_of_one k.number h alone ∙ ap batches (same ∙ r.entries) ∙ batches-append (edits_by k.number steps) (stop_behind k.number k.seen)
    ∙ ap₂ (λ (xs ys : List (List Edit)). xs ++ ys) (batches_by k.number steps) (none_in _ k.number) ∙ append-nil steps

pub relays_show_what_they_read : RelaysShowWhatTheyRead
relays_show_what_they_read host rounds p taken k h front middle rest r same alone is =
    relays_never_go_back (relay_of (listings_in r.stage)) h front middle rest r.libraries (shares_make_steps host rounds p taken k h r same alone) is
