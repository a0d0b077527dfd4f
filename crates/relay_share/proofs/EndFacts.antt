-- How a relay begins, and how it ends at each of its steps.
use Rattle.std.proofs.Common.{◌≡◌, ◌≢◌, ◌≤◌, ◌<◌, ◌⊎◌, ℕ, List, [], ◌∷◌, ◌++◌, length, ◌==◌, Bool, true, false, Option, Some, None, refl, sym, ap, ◌∙◌, subst, inl, inr, append-nil, eq-eqb, arith}
use Rattle.std.specs.Prelude.{Result, Ok, Err, IfErr, MatchResult, MatchBool}
use Rattle.outside_net.specs.Counts.{Rose}
use Rattle.dmap_tags.specs.Codes.{code}
use Rattle.dmap_tags.specs.Tree.{Tree}
use Rattle.code_table.specs.declared.row.CodeRow.{CodeRow}
use Rattle.http_client.specs.Replies.{Reply}
use Rattle.http_client.specs.Requests.{request_text}
use Rattle.item_model.specs.declared.request.Meta.TheVariants.{All}
use Rattle.item_model.specs.declared.request.Target.TheVariants.{Items}
use Rattle.mirror_client.specs.declared.refusal.FollowError.{FollowError}
use Rattle.mirror_client.specs.declared.refusal.FollowError.TheVariants as follow
use Rattle.mirror_client.specs.Exchanges.{Exchanged}
use Rattle.mirror_client.specs.Points.{Point}
use Rattle.mirror_client.specs.Stages.{Asking, Begun, Closed, Holding, Learned, Stage, UnexpectedAfter, UnexpectedIn, Walks, behind_round, due}
use Rattle.mirror_client.specs.Steps.{FailsToOpen, IsNotTaken, IsRefusedBy, Known, Opened, TellsListing, UnexpectedEnd, UnexpectedListing, held_after, with_listings}
use Rattle.mirror_client.specs.Stopping.{CountsFault, Stops}
use Rattle.mirror_client.specs.Tellings.{Tells, TellsNumber, UnexpectedNumber, UnexpectedTag}
use Rattle.mirror_client.proofs.ExchangeFacts.{unexpected_stops, went_nowhere}
use Rattle.mirror_client.proofs.StageFacts.{closed_walks, listed_walks, opened_walks, waited_walks, walk_on, walk_one}
use Rattle.mirror_core.specs.Bodies.{IsListing, IsNoListing}
use Rattle.mirror_core.specs.declared.mirror.MirrorError.{MirrorError}
use Rattle.mirror_core.specs.declared.mirror.MirrorError.TheVariants as mirror
use Rattle.share_asks.specs.declared.ask.Want.TheVariants as want
use Rattle.share_history.specs.Listings.{Listing}
use Rattle.share_history.specs.Mirror.{Held, mirror_look}
use Rattle.share_lock.specs.Histories.{entries_of}
use Rattle.share_replies.specs.Laws.{maker}
use Rattle.share_server.specs.Passes.{Pass, Serves}
use Rattle.relayed_rows.specs.Relays.{Relaying, first_unread, nothing_held, relaying_at}
use Rattle.relay_share.specs.Ends.{CountsRelay, EndsRelay, Halts, IsDone, Leaves, Refuses, Relays, end_of, is_fault}
use Rattle.relay_share.specs.Rounds.{IsRefused, followed}
use Rattle.relay_share.specs.Steps.{IsListed, IsUnread, IsUntaken, Stands, Takes, holding}
use Rattle.relay_share.specs.declared.report.Relayed.{Relayed}
use Rattle.relay_share.specs.declared.report.RelayEnd.{RelayEnd}
use Rattle.relay_share.specs.declared.report.RelayEnd.TheVariants.{Done, Row, Full, Stopped, Peer, Memory}
use Rattle.relay_share.proofs.RoundFacts.{ascends, relays_more, walked}

-- ---- before the first listing

-- a handle that took no turn served nothing
unserved : (k : Pass) → Serves k k [] []
unserved k = record {
  fresh = record { more = []; grows = sym (append-nil k.seen); looks = []; looked = sym (append-nil k.looks); rises = omega arith; among = tt; marked = tt };
  stays = refl;
  are_served = tt;
  own = sym (append-nil (entries_of maker k.number k.seen));
}

unstarted : (host : List ℕ) (rounds : ℕ) (p : Point) (k : Pass) → Relays host rounds p Begun p k k []
unstarted host rounds p k = record { walks = record { exchanges = []; path = refl; went = went_nowhere p }; served = []; serves = unserved k; relayed = tt; libraries = tt }

pub begins : (host : List ℕ) (rounds : ℕ) (p q : Point) (known : Known) (k : Pass) (now : Relaying) → Opened host p q known → now ≡ record { revision = 0; library = [] }
    → Stands host rounds p (Asking known []) q k k [] now
begins host rounds p q known k now o new = record {
  relays = record { walks = opened_walks host followed rounds p q known o; served = []; serves = unserved k; relayed = tt; libraries = tt };
  holds = new;
}

-- ---- a step of the client stopped

pub halts_end : (host : List ℕ) (rounds : ℕ) (p : Point) (taken : Option (List ℕ)) (k k' : Pass) (done : List Relayed) (e : FollowError)
    → Halts host rounds p taken k k' done e → EndsRelay host rounds p taken k k' done (end_of e)
halts_end host rounds p taken k k' done (follow.Refused status) h = (λ is. cc, h)
halts_end host rounds p taken k k' done (follow.BadReply at) h = (λ is. cc, h)
halts_end host rounds p taken k k' done (follow.Ended at) h = (λ is. cc, h)
halts_end host rounds p taken k k' done (follow.Listing error) h = (λ is. cc, h)
halts_end host rounds p taken k k' done (follow.Codes error) h = (λ is. cc, h)
halts_end host rounds p taken k k' done follow.LinkFault h = (λ is. cc, h)
halts_end host rounds p taken k k' done follow.Memory h = inl h

pub counts_end : (before now : ℕ) (e : FollowError) → CountsFault before now e → CountsRelay before now (end_of e)
counts_end before now (follow.Refused status) h = h
counts_end before now (follow.BadReply at) h = h
counts_end before now (follow.Ended at) h = h
counts_end before now (follow.Listing error) h = h
counts_end before now (follow.Codes error) h = h
counts_end before now follow.LinkFault h = h
counts_end before now follow.Memory h = h

-- it never came in
pub unopened : (host : List ℕ) (rounds : ℕ) (p : Point) (taken : Option (List ℕ)) (k : Pass) (e : FollowError) → FailsToOpen host p taken e
    → Halts host rounds p taken k k [] e
unopened host rounds p taken k e (inl stops) = record {
  stage = Begun;
  there = p;
  relays = unstarted host rounds p k;
  request = request_text want.Codes host;
  is_due = refl;
  stops = stops;
}
unopened host rounds p taken k e (inr b) = record {
  stage = Learned b.rows;
  there = b.middle;
  relays = record {
    walks = walk_one host followed rounds Begun (Learned b.rows) p b.middle (request_text want.Codes host) b.table refl b.learned (b.rows, b.told, refl);
    served = [];
    serves = unserved k;
    relayed = tt;
    libraries = tt;
  };
  request = request_text want.Login host;
  is_due = refl;
  stops = b.stops;
}

-- ---- a listing is requested

-- the body that answered was taken
pub taken_round : (host : List ℕ) (rounds : ℕ) (p : Point) (known : Known) (ls : List Listing) (base : ℕ) (q q' : Point) (answer : Reply) (tag : Tree) (k k' k'' : Pass)
    (done done' : List Relayed) (old now : Relaying) → Stands host rounds p (Asking known ls) q k k' done old → base ≡ old.revision
    → Exchanged (request_text (want.Rows known.session Items (mirror_look None All base)) host) q q' answer → Tells known.rows answer tag
    → IsListed (held_after nothing_held ls) tag (λ l. Takes (held_after nothing_held ls) l k' k'' done done' now)
    → (l : Listing) × Stands host rounds p (Holding known (ls ++ l ∷ [])) q' k k'' done' now
taken_round host rounds p known ls base q q' answer tag k k' k'' done done' old now one base_is x told listed =
    let at : base ≡ (held_after nothing_held ls).revision = base_is ∙ ap (λ (r : Relaying). r.revision) one.holds in (
      listed.0,
      relays_more host rounds p known ls listed.0 q q' k k' k'' done done' now one.relays
          (listed_walks host followed (with_listings followed ls) rounds known ls listed.0 q q' answer refl
          (subst (λ (n : ℕ). Exchanged (request_text (want.Rows known.session Items (mirror_look None All n)) host) q q' answer) at x)
          (record { tag = tag; told = told; is = listed.1; later = listed.2 })) listed.3,
    )

-- a body that is not a listing is unexpected
unexpected_body : (rows : List CodeRow) (held : Held) (used : ℕ) (answer : Reply) (tag : Tree) (e : FollowError) → Tells rows answer tag → IsNotTaken (holding held) tag e
    → UnexpectedListing rows (holding held) used answer e
unexpected_body rows held used answer tag (follow.Refused status) told is = absurd is
unexpected_body rows held used answer tag (follow.BadReply at) told is = absurd is
unexpected_body rows held used answer tag (follow.Ended at) told is = absurd is
unexpected_body rows held used answer tag (follow.Listing error) told is = (tag, told, is)
unexpected_body rows held used answer tag (follow.Codes error) told is = absurd is
unexpected_body rows held used answer tag follow.LinkFault told is = absurd is
unexpected_body rows held used answer tag follow.Memory told is = tt

-- and so is one that is not a tag
unexpected_tag : (rows : List CodeRow) (held : Held) (used : ℕ) (answer : Reply) (e : FollowError) → UnexpectedTag rows used answer e → UnexpectedListing rows (holding held) used answer e
unexpected_tag rows held used answer (follow.Refused status) is = is
unexpected_tag rows held used answer (follow.BadReply at) is = is
unexpected_tag rows held used answer (follow.Ended at) is = is
unexpected_tag rows held used answer (follow.Listing error) is = absurd is
unexpected_tag rows held used answer (follow.Codes error) is = absurd is
unexpected_tag rows held used answer follow.LinkFault is = is
unexpected_tag rows held used answer follow.Memory is = is

unexpected_stop : (request : List ℕ) (rows : List CodeRow) (held : Held) (q : Point) (taken : Option (List ℕ)) (e : FollowError) → Stops request (UnexpectedTag rows) q taken e
    → Stops request (UnexpectedListing rows (holding held)) q taken e
unexpected_stop request rows held q taken e (inl short) = inl short
unexpected_stop request rows held q taken e (inr a) = inr (record {
  exchange = a.exchange;
  there = a.there;
  asked = a.asked;
  went = a.went;
  written = a.written;
  unexpected = unexpected_tag rows held a.there.used a.exchange.answer e a.unexpected;
})

-- no body came
pub unasked_round : (host : List ℕ) (rounds : ℕ) (p : Point) (known : Known) (ls : List Listing) (base : ℕ) (q : Point) (taken : Option (List ℕ)) (k k' : Pass)
    (done : List Relayed) (old : Relaying) (e : FollowError) → Stands host rounds p (Asking known ls) q k k' done old → base ≡ old.revision
    → Stops (request_text (want.Rows known.session Items (mirror_look None All base)) host) (UnexpectedTag known.rows) q taken e
    → EndsRelay host rounds p taken k k' done (end_of e)
unasked_round host rounds p known ls base q taken k k' done old e one base_is stops =
    let at : base ≡ (held_after nothing_held ls).revision = base_is ∙ ap (λ (r : Relaying). r.revision) one.holds in
    halts_end host rounds p taken k k' done e (record {
      stage = Asking known ls;
      there = q;
      relays = one.relays;
      request = request_text (want.Rows known.session Items (mirror_look None All (held_after nothing_held ls).revision)) host;
      is_due = refl;
      stops =
          unexpected_stop (request_text (want.Rows known.session Items (mirror_look None All (held_after nothing_held ls).revision)) host) known.rows (held_after nothing_held ls) q taken e
          (subst (λ (n : ℕ). Stops (request_text (want.Rows known.session Items (mirror_look None All n)) host) (UnexpectedTag known.rows) q taken e) at stops);
    })

module _ (host : List ℕ) (rounds : ℕ) (p : Point) (known : Known) (ls : List Listing) (q q' : Point) (answer : Reply) (tag : Tree) (k k' : Pass) (done : List Relayed)
    (relays : Relays host rounds p (Asking known ls) q k k' done)
    (x : Exchanged (request_text (want.Rows known.session Items (mirror_look None All (held_after nothing_held ls).revision)) host) q q' answer)
    (told : Tells known.rows answer tag) where
  -- a listing was read, and nothing was made of it
  abbrev leaves : (l : Listing) → IsListing Items (held_after nothing_held ls).revision l tag → (held_after nothing_held ls).revision ≤ l.revision
      → Leaves host rounds p q'.taken k k' done
  leaves l is later = record {
    known = known;
    listings = ls;
    last = l;
    middle = q;
    there = q';
    relays = relays;
    walks = listed_walks host followed (with_listings followed ls) rounds known ls l q q' answer refl x (record { tag = tag; told = told; is = is; later = later });
    written = refl;
  }

  -- its edit was refused
  refuses : (k'' : Pass) (status : ℕ) → IsListed (held_after nothing_held ls) tag (λ l. IsRefused (held_after nothing_held ls) l k' k'' status)
      → Refuses host rounds p q'.taken k k'' done status
  refuses k'' status listed = record { reached = k'; leaves = leaves listed.0 listed.1 listed.2; refused = listed.3 }

  -- the tag is not a listing
  unlisted : (e : FollowError) → IsNotTaken (holding (held_after nothing_held ls)) tag e → Halts host rounds p q'.taken k k' done e
  unlisted e is = record {
    stage = Asking known ls;
    there = q;
    relays = relays;
    request = request_text (want.Rows known.session Items (mirror_look None All (held_after nothing_held ls).revision)) host;
    is_due = refl;
    stops =
        unexpected_stops (request_text (want.Rows known.session Items (mirror_look None All (held_after nothing_held ls).revision)) host)
        (UnexpectedListing known.rows (holding (held_after nothing_held ls))) q q' answer e x
        (unexpected_body known.rows (held_after nothing_held ls) q'.used answer tag e told is);
  }

  no_memory : (k'' : Pass) → IsListed (held_after nothing_held ls) tag (λ l. IsUntaken (held_after nothing_held ls) l k' k'' Memory)
      → EndsRelay host rounds p q'.taken k k'' done Memory
  no_memory k'' (l, is, later, inl same) = inr (inl (subst (λ (n : Pass). Leaves host rounds p q'.taken k n done) (sym same) (leaves l is later)))
  no_memory k'' (l, is, later, inr refused) = inr (inr (refuses k'' 500 (l, is, later, refused)))

  unread_ends : (k'' : Pass) (end : RelayEnd) → IsUnread (held_after nothing_held ls) tag k' k'' end → EndsRelay host rounds p q'.taken k k'' done end
  unread_ends k'' Done is = absurd is
  unread_ends k'' (Row index) is =
      subst (λ (n : Pass). (z : Leaves host rounds p q'.taken k n done) × (first_unread z.last ≡ Some index)) (sym is.3.1) (leaves is.0 is.1 is.2, is.3.0)
  unread_ends k'' Full is = refuses k'' 507 is
  unread_ends k'' Stopped is = refuses k'' 503 is
  unread_ends k'' (Peer e) is = (is.0, subst (λ (n : Pass). Halts host rounds p q'.taken k n done e) (sym is.2) (unlisted e is.1))
  unread_ends k'' Memory is = no_memory k'' is

-- the body that answered was not taken
pub untaken_round : (host : List ℕ) (rounds : ℕ) (p : Point) (known : Known) (ls : List Listing) (base : ℕ) (q q' : Point) (answer : Reply) (tag : Tree) (k k' k'' : Pass)
    (done done' : List Relayed) (old : Relaying) (end : RelayEnd) → Stands host rounds p (Asking known ls) q k k' done old → base ≡ old.revision
    → Exchanged (request_text (want.Rows known.session Items (mirror_look None All base)) host) q q' answer → Tells known.rows answer tag
    → IsUnread (held_after nothing_held ls) tag k' k'' end → done' ≡ done → EndsRelay host rounds p q'.taken k k'' done' end
untaken_round host rounds p known ls base q q' answer tag k k' k'' done done' old end one base_is x told is same =
    let at : base ≡ (held_after nothing_held ls).revision = base_is ∙ ap (λ (r : Relaying). r.revision) one.holds in
    subst (λ (ds : List Relayed). EndsRelay host rounds p q'.taken k k'' ds end) (sym same)
    (unread_ends host rounds p known ls q q' answer tag k k' done one.relays
    (subst (λ (n : ℕ). Exchanged (request_text (want.Rows known.session Items (mirror_look None All n)) host) q q' answer) at x) told k'' end is)

-- ---- another revision is waited for

pub waited : (host : List ℕ) (rounds n : ℕ) (p : Point) (known : Known) (ls : List Listing) (base : ℕ) (q q' : Point) (answer : Reply) (k k' : Pass) (done : List Relayed)
    (old : Relaying) → (length ls == rounds) ≡ false → Stands host rounds p (Holding known ls) q k k' done old → base ≡ old.revision
    → Exchanged (request_text (want.Update known.session base) host) q q' answer → TellsNumber (code "musr") known.rows answer n
    → Stands host rounds p (Asking known ls) q' k k' done old
waited host rounds n p known ls base q q' answer k k' done old more one base_is x told =
    let at : base ≡ (held_after nothing_held ls).revision = base_is ∙ ap (λ (r : Relaying). r.revision) one.holds in
    walked host rounds p known ls q q' k k' done old one
    (waited_walks host followed (with_listings followed ls) rounds n known ls q q' answer more refl
    (subst (λ (r : ℕ). Exchanged (request_text (want.Update known.session r) host) q q' answer) at x) told)

pub unwaited : (host : List ℕ) (rounds : ℕ) (p : Point) (known : Known) (ls : List Listing) (base : ℕ) (q : Point) (taken : Option (List ℕ)) (k k' : Pass) (done : List Relayed)
    (old : Relaying) (e : FollowError) → (length ls == rounds) ≡ false → Stands host rounds p (Holding known ls) q k k' done old → base ≡ old.revision
    → Stops (request_text (want.Update known.session base) host) (UnexpectedNumber (code "musr") known.rows) q taken e
    → EndsRelay host rounds p taken k k' done (end_of e)
unwaited host rounds p known ls base q taken k k' done old e more one base_is stops =
    let at : base ≡ (held_after nothing_held ls).revision = base_is ∙ ap (λ (r : Relaying). r.revision) one.holds in
    halts_end host rounds p taken k k' done e (record {
      stage = Holding known ls;
      there = q;
      relays = one.relays;
      request = request_text (want.Update known.session (held_after nothing_held ls).revision) host;
      is_due = ap (λ (b : Bool). Some (request_text (behind_round b known (with_listings followed ls)) host)) more;
      stops =
          subst (λ (b : Bool). Stops (request_text (want.Update known.session (held_after nothing_held ls).revision) host) (UnexpectedAfter b known) q taken e) (sym more)
          (subst (λ (r : ℕ). Stops (request_text (want.Update known.session r) host) (UnexpectedNumber (code "musr") known.rows) q taken e) at stops);
    })

-- ---- the logout

pub logged_out : (host : List ℕ) (rounds : ℕ) (p : Point) (known : Known) (ls : List Listing) (q q' : Point) (answer : Reply) (k k' : Pass) (done : List Relayed) (old : Relaying)
    → length ls ≡ rounds → Stands host rounds p (Holding known ls) q k k' done old → Exchanged (request_text (want.Logout known.session) host) q q' answer → answer.0 ≡ 204
    → EndsRelay host rounds p q'.taken k k' done Done
logged_out host rounds p known ls q q' answer k k' done old all one x fine = record {
  known = known;
  listings = ls;
  there = q';
  relays = record {
    walks =
        walk_on host followed rounds Begun (Holding known ls) (Closed known ls) p q q' one.relays.walks
        (closed_walks host followed rounds known ls q q' answer (eq-eqb (length ls) rounds all) x fine);
    served = one.relays.served;
    serves = one.relays.serves;
    relayed = one.relays.relayed;
    libraries = one.relays.libraries;
  };
  all = all;
  written = refl;
}

pub not_logged_out : (host : List ℕ) (rounds : ℕ) (p : Point) (known : Known) (ls : List Listing) (q : Point) (taken : Option (List ℕ)) (k k' : Pass) (done : List Relayed)
    (old : Relaying) (e : FollowError) → length ls ≡ rounds → Stands host rounds p (Holding known ls) q k k' done old
    → Stops (request_text (want.Logout known.session) host) UnexpectedEnd q taken e → EndsRelay host rounds p taken k k' done (end_of e)
not_logged_out host rounds p known ls q taken k k' done old e all one stops =
    let last : (length ls == rounds) ≡ true = eq-eqb (length ls) rounds all in
    halts_end host rounds p taken k k' done e (record {
      stage = Holding known ls;
      there = q;
      relays = one.relays;
      request = request_text (want.Logout known.session) host;
      is_due = ap (λ (b : Bool). Some (request_text (behind_round b known (with_listings followed ls)) host)) last;
      stops = subst (λ (b : Bool). Stops (request_text (want.Logout known.session) host) (UnexpectedAfter b known) q taken e) (sym last) stops;
    })

-- ---- a tag that is read

-- the listing that a body is, at the held revision
pub listed : (held : Held) (tag : Tree) (l : Listing) (base : ℕ) (This : Listing → Type 0) → base ≡ held.revision → IsListing Items base l tag → base ≤ l.revision → This l
    → IsListed held tag This
listed held tag l base This at is later this = (l, subst (λ (n : ℕ). IsListing Items n l tag) at is, subst (λ (n : ℕ). n ≤ l.revision) at later, this)

pub unread_one : (held : Held) (tag : Tree) (k k' : Pass) (end : RelayEnd) → IsListed held tag (λ l. IsUntaken held l k k' end) → IsUnread held tag k k' end
unread_one held tag k k' Done is = absurd is.3
unread_one held tag k k' (Row index) is = is
unread_one held tag k k' Full is = is
unread_one held tag k k' Stopped is = is
unread_one held tag k k' (Peer e) is = absurd is.3
unread_one held tag k k' Memory is = is

-- why a body is refused, at the held revision
refused_body : {T : Type 0} (held : Held) (tag : Tree) (base : ℕ) (error : MirrorError) → base ≡ held.revision
    → ((index : Option ℕ) → ◌≡◌ {A = Result T MirrorError} (Err error) (Err (mirror.NotListing index)) → IsNoListing Items base tag index)
    → ((was told : ℕ) → ◌≡◌ {A = Result T MirrorError} (Err error) (Err (mirror.Backwards was told))
    → (l : Listing) × IsListing Items base l tag × (was ≡ base) × (told ≡ l.revision) × (told < was))
    → (◌≡◌ {A = Result T MirrorError} (Err error) (Err mirror.Memory) → ⊥) → IsRefusedBy (holding held) tag error
refused_body held tag base (mirror.NotListing index) at no_listing backwards no_memory = subst (λ (n : ℕ). IsNoListing Items n tag index) at (no_listing index refl)
refused_body held tag base (mirror.Backwards was told) at no_listing backwards no_memory =
    subst (λ (n : ℕ). (l : Listing) × IsListing Items n l tag × (was ≡ n) × (told ≡ l.revision) × (told < was)) at (backwards was told refl)
refused_body held tag base mirror.Memory at no_listing backwards no_memory = absurd (no_memory refl)

pub unlisted_tag : {T : Type 0} (held : Held) (tag : Tree) (base : ℕ) (error : MirrorError) (k : Pass) (end : RelayEnd) → base ≡ held.revision
    → end ≡ Peer (follow.Listing error)
    → ((index : Option ℕ) → ◌≡◌ {A = Result T MirrorError} (Err error) (Err (mirror.NotListing index)) → IsNoListing Items base tag index)
    → ((was told : ℕ) → ◌≡◌ {A = Result T MirrorError} (Err error) (Err (mirror.Backwards was told))
    → (l : Listing) × IsListing Items base l tag × (was ≡ base) × (told ≡ l.revision) × (told < was))
    → (◌≡◌ {A = Result T MirrorError} (Err error) (Err mirror.Memory) → ⊥) → IsUnread held tag k k end
unlisted_tag {T = T} held tag base error k end at is no_listing backwards no_memory =
    subst (IsUnread held tag k k) (sym is) ((λ same. cc), refused_body {T = T} held tag base error at no_listing backwards no_memory, refl)

-- ---- a client whose host and table are known by other names

module _ (rounds : ℕ) (p q q' : Point) (taken : Option (List ℕ)) (k k' k'' : Pass) (done done' : List Relayed) (old now : Relaying) (ls : List Listing) where
  -- a round that is gone through
  abbrev pub Rounds : List ℕ → Known → Type 0
  Rounds host known = Stands host rounds p (Asking known ls) q k k' done old → (l : Listing) × Stands host rounds p (Holding known (ls ++ l ∷ [])) q' k k'' done' now

  -- one that ends the relay
  abbrev pub Finishes : RelayEnd → List ℕ → Known → Type 0
  Finishes end host known = Stands host rounds p (Asking known ls) q k k' done old → EndsRelay host rounds p taken k k'' done' end

  pub rounds_as : (host other : List ℕ) (known same : Known) → other ≡ host → same ≡ known → Rounds other same → Rounds host known
  rounds_as host other known same host_is known_is f = subst (λ (h : List ℕ). Rounds h known) host_is (subst (λ (n : Known). Rounds other n) known_is f)

  pub finishes_as : (end : RelayEnd) (host other : List ℕ) (known same : Known) → other ≡ host → same ≡ known → Finishes end other same → Finishes end host known
  finishes_as end host other known same host_is known_is f =
      subst (λ (h : List ℕ). Finishes end h known) host_is (subst (λ (n : Known). Finishes end other n) known_is f)

-- ---- counts

pub counts_on : {A : Type 0} (before now : ℕ) (r : Result A RelayEnd) → now ≡ before → IfErr r (λ end. is_fault end ≡ false)
    → MatchResult r (λ _. now ≡ before) (λ end. CountsRelay before now end)
counts_on before now (Ok a) same h = same
counts_on before now (Err end) same h = subst (λ (b : Bool). MatchBool b (Rose before now) (now ≡ before)) (sym h) same

pub counts_none : (before now : ℕ) (end : RelayEnd) → is_fault end ≡ false → now ≡ before → CountsRelay before now end
counts_none before now end h same = subst (λ (b : Bool). MatchBool b (Rose before now) (now ≡ before)) (sym h) same

-- a counter after one that stayed
pub counts_from : (before middle now : ℕ) (end : RelayEnd) → middle ≡ before → CountsRelay middle now end → CountsRelay before now end
counts_from before middle now end same h = subst (λ (n : ℕ). CountsRelay n now end) same h

pub begins_as : (host other : List ℕ) (rounds : ℕ) (p q : Point) (known : Known) (k : Pass) (done : List Relayed) (now : Relaying) → Opened host p q known → other ≡ host
    → done ≡ [] → now ≡ record { revision = 0; library = [] } → Stands other rounds p (Asking known []) q k k done now
begins_as host other rounds p q known k done now o host_is none new =
    subst (λ (h : List ℕ). Stands h rounds p (Asking known []) q k k done now) (sym host_is)
    (subst (λ (ds : List Relayed). Stands host rounds p (Asking known []) q k k ds now) (sym none) (begins host rounds p q known k now o new))

pub stands_as : (host other : List ℕ) (rounds : ℕ) (p q : Point) (known same : Known) (ls : List Listing) (k k' : Pass) (done : List Relayed) (now : Relaying) → other ≡ host
    → same ≡ known → Stands other rounds p (Holding known ls) q k k' done now → Stands host rounds p (Holding same ls) q k k' done now
stands_as host other rounds p q known same ls k k' done now host_is known_is one =
    subst (λ (n : Known). Stands host rounds p (Holding n ls) q k k' done now) (sym known_is)
    (subst (λ (h : List ℕ). Stands h rounds p (Holding known ls) q k k' done now) host_is one)

pub ends_as : (host other : List ℕ) (rounds : ℕ) (p : Point) (taken : Option (List ℕ)) (k k' : Pass) (done : List Relayed) (end : RelayEnd) → other ≡ host
    → EndsRelay other rounds p taken k k' done end → EndsRelay host rounds p taken k k' done end
ends_as host other rounds p taken k k' done end host_is ends = subst (λ (h : List ℕ). EndsRelay h rounds p taken k k' done end) host_is ends
