-- Walks through the stages of a client that follows.
use Rattle.std.proofs.Common.{◌≡◌, ℕ, ◌<◌, ◌==◌, List, [], ◌∷◌, ◌++◌, length, take, Bool, true, false, Option, Some, refl, sym, ap, ◌∙◌, inl, inr, subst, eq-eqb, arith}
use Rattle.std.proofs.lemmas.Bool.{ne_eqb}
use Rattle.std.specs.Io.KnownBytes.{Appends}
use Rattle.std.specs.Prelude.{Result, Ok, Err, IfErr, IfOk, OnOk}
use Rattle.dmap_tags.specs.Codes.{code}
use Rattle.share_asks.specs.declared.ask.Want.TheVariants as want
use Rattle.share_history.specs.Listings.{Listing}
use Rattle.share_history.specs.Mirror.{Held, mirror_after}
use Rattle.mirror_core.specs.declared.mirror.Applied.{Applied}
use Rattle.mirror_core.specs.Mirrored.{Mirrored}
use Rattle.http_client.specs.Replies.{Reply}
use Rattle.http_client.specs.Requests.{request_text}
use Rattle.mirror_client.specs.declared.refusal.FollowError.{FollowError}
use Rattle.mirror_client.specs.declared.refusal.FollowError.TheVariants.{Memory}
use Rattle.mirror_client.specs.Exchanges.{Exchange, Exchanged, requests}
use Rattle.mirror_client.specs.Points.{Point, ReadAhead, place}
use Rattle.mirror_client.specs.Runs.{Followed}
use Rattle.mirror_client.specs.Stages.{Asking, Begun, Closed, Holding, Leads, LeadsOn, Learned, Path, Stage, StopsFrom, UnexpectedAfter, UnexpectedIn, Walks, behind_round, due, listings_in}
use Rattle.mirror_client.specs.Steps.{FailsToOpen, Known, Opened, TellsListing, UnexpectedEnd, UnexpectedListing, applied_by, all_applied, held_after, rows_want, with_listings}
use Rattle.mirror_client.specs.Stopping.{Stops}
use Rattle.mirror_client.specs.Tellings.{TellsNumber, UnexpectedNumber}
use Rattle.mirror_client.proofs.ExchangeFacts.{unwritten, went_nowhere, went_on}

-- what a client wrote that stopped is its requests and a part of the next one
pub part_written : (request : List ℕ) (Unexpected : ℕ → Reply → FollowError → Type 0) (p : Point) (taken : Option (List ℕ)) (e : FollowError) → Stops request Unexpected p taken e → (part : List ℕ) × Appends p.taken taken part
part_written request Unexpected p taken e (inl s) = (take s.written.0 request, s.written.2)
part_written request Unexpected p taken e (inr a) =
    (requests (a.exchange ∷ []), subst (λ (o : Option (List ℕ)). Appends p.taken o (requests (a.exchange ∷ []))) a.written a.went.written)

-- ---- walks

path_on : (host : List ℕ) (m : Mirrored) (rounds : ℕ) (s t u : Stage) (xs ys : List Exchange) → Path host m rounds s xs t → Path host m rounds t ys u
    → Path host m rounds s (xs ++ ys) u
path_on host m rounds s t u [] ys h k = subst (λ (v : Stage). Path host m rounds v ys u) h k
path_on host m rounds s t u (x ∷ xs) ys h k = (h.0, (h.1.0, h.1.1, path_on host m rounds h.1.0 t u xs ys h.1.2 k))

pub walk_on : (host : List ℕ) (m : Mirrored) (rounds : ℕ) (s t u : Stage) (p q r : Point) → Walks host m rounds s p t q → Walks host m rounds t q u r
    → Walks host m rounds s p u r
walk_on host m rounds s t u p q r h k = record {
  exchanges = h.exchanges ++ k.exchanges;
  path = path_on host m rounds s t u h.exchanges k.exchanges h.path k.path;
  went = went_on p q r h.exchanges k.exchanges h.went k.went;
}

pub walk_one : (host : List ℕ) (m : Mirrored) (rounds : ℕ) (s t : Stage) (p q : Point) (request : List ℕ) (answer : Reply) → due host m rounds s ≡ Some request
    → Exchanged request p q answer → Leads m rounds s answer t → Walks host m rounds s p t q
walk_one host m rounds s t p q request answer asked x leads = record {
  exchanges = record { request = request; message = x.message; answer = answer } ∷ [];
  path = (asked, (t, leads, refl));
  went = x.went;
}

pub stops_here : (host : List ℕ) (m : Mirrored) (rounds : ℕ) (s : Stage) (p : Point) (taken : Option (List ℕ)) (e : FollowError) (now : Mirrored) (request : List ℕ)
    → due host m rounds s ≡ Some request → Stops request (UnexpectedIn m rounds s) p taken e → now ≡ with_listings m (listings_in s)
    → StopsFrom host m rounds s p taken e now
stops_here host m rounds s p taken e now request asked stops holds =
    record { stage = s; there = p; walks = record { exchanges = []; path = refl; went = went_nowhere p }; request = request; is_due = asked; stops = stops; holds = holds }

pub stops_on : (host : List ℕ) (m : Mirrored) (rounds : ℕ) (s t : Stage) (p q : Point) (taken : Option (List ℕ)) (e : FollowError) (now : Mirrored)
    → Walks host m rounds s p t q → StopsFrom host m rounds t q taken e now → StopsFrom host m rounds s p taken e now
stops_on host m rounds s t p q taken e now h k = record {
  stage = k.stage;
  there = k.there;
  walks = walk_on host m rounds s t k.stage p q k.there h k.walks;
  request = k.request;
  is_due = k.is_due;
  stops = k.stops;
  holds = k.holds;
}

-- ---- listings, one more

pub held_more : (h : Held) (ls : List Listing) (l : Listing) → held_after h (ls ++ l ∷ []) ≡ mirror_after (held_after h ls) l
held_more h [] l = refl
held_more h (x ∷ ls) l = held_more (mirror_after h x) ls l

pub with_more : (m now : Mirrored) (ls : List Listing) (l : Listing) → now ≡ with_listings (with_listings m ls) (l ∷ []) → now ≡ with_listings m (ls ++ l ∷ [])
with_more m now ls l is =
    is ∙ ap (λ (h : Held). record { target = m.target; query = m.query; meta = m.meta; held = h }) (sym (held_more m.held ls l))

pub applied_more : (h : Held) (ls : List Listing) (l : Listing) → all_applied h (ls ++ l ∷ []) ≡ all_applied h ls ++ applied_by (held_after h ls) l ∷ []
applied_more h [] l = refl
applied_more h (x ∷ ls) l = ap (λ (later : List Applied). applied_by h x ∷ later) (applied_more (mirror_after h x) ls l)

-- ---- the steps

-- the table was learned, and the session is known
pub opened_walks : (host : List ℕ) (m : Mirrored) (rounds : ℕ) (p q : Point) (known : Known) → Opened host p q known → Walks host m rounds Begun p (Asking known []) q
opened_walks host m rounds p q known o =
    walk_on host m rounds Begun (Learned known.rows) (Asking known []) p o.middle q
    (walk_one host m rounds Begun (Learned known.rows) p o.middle (request_text want.Codes host) o.table refl o.learned (known.rows, o.told, refl))
    (walk_one host m rounds (Learned known.rows) (Asking known []) o.middle q (request_text want.Login host) o.login refl o.entered (known.session, o.session, refl))

-- it stopped at one of the two
pub opened_stops : (host : List ℕ) (m : Mirrored) (rounds : ℕ) (p : Point) (taken : Option (List ℕ)) (e : FollowError) → FailsToOpen host p taken e
    → StopsFrom host m rounds Begun p taken e m
opened_stops host m rounds p taken e (inl stops) = stops_here host m rounds Begun p taken e m (request_text want.Codes host) refl stops refl
opened_stops host m rounds p taken e (inr b) =
    stops_on host m rounds Begun (Learned b.rows) p b.middle taken e m
    (walk_one host m rounds Begun (Learned b.rows) p b.middle (request_text want.Codes host) b.table refl b.learned (b.rows, b.told, refl))
    (stops_here host m rounds (Learned b.rows) b.middle taken e m (request_text want.Login host) refl b.stops refl)

-- a listing was applied
pub listed_walks : (host : List ℕ) (m old : Mirrored) (rounds : ℕ) (known : Known) (ls : List Listing) (l : Listing) (p q : Point) (answer : Reply)
    → old ≡ with_listings m ls → Exchanged (request_text (rows_want known.session old) host) p q answer → TellsListing known.rows old answer l
    → Walks host m rounds (Asking known ls) p (Holding known (ls ++ l ∷ [])) q
listed_walks host m old rounds known ls l p q answer is x told =
    walk_one host m rounds (Asking known ls) (Holding known (ls ++ l ∷ [])) p q (request_text (rows_want known.session (with_listings m ls)) host) answer refl
    (subst (λ (n : Mirrored). Exchanged (request_text (rows_want known.session n) host) p q answer) is x)
    (l, subst (λ (n : Mirrored). TellsListing known.rows n answer l) is told, refl)

pub listed_stops : (host : List ℕ) (m old now : Mirrored) (rounds : ℕ) (known : Known) (ls : List Listing) (p : Point) (taken : Option (List ℕ)) (e : FollowError)
    → old ≡ with_listings m ls → now ≡ old → Stops (request_text (rows_want known.session old) host) (UnexpectedListing known.rows old) p taken e
    → StopsFrom host m rounds (Asking known ls) p taken e now
listed_stops host m old now rounds known ls p taken e is same stops =
    stops_here host m rounds (Asking known ls) p taken e now (request_text (rows_want known.session (with_listings m ls)) host) refl
    (subst (λ (n : Mirrored). Stops (request_text (rows_want known.session n) host) (UnexpectedListing known.rows n) p taken e) is stops)
    (same ∙ is)

-- an allocation failed after a listing, before the next request
pub unwritten_stops : (host : List ℕ) (m now : Mirrored) (rounds : ℕ) (known : Known) (ls : List Listing) (p : Point) → now ≡ with_listings m ls
    → StopsFrom host m rounds (Holding known ls) p p.taken Memory now
unwritten_stops host m now rounds known ls p holds =
    stops_here host m rounds (Holding known ls) p p.taken Memory now (request_text (behind_round (length ls == rounds) known (with_listings m ls)) host) refl
    (unwritten (request_text (behind_round (length ls == rounds) known (with_listings m ls)) host) (UnexpectedIn m rounds (Holding known ls)) p) holds

-- ---- after a round

due_behind : (host : List ℕ) (m : Mirrored) (rounds : ℕ) (known : Known) (ls : List Listing) (last : Bool) → (length ls == rounds) ≡ last
    → due host m rounds (Holding known ls) ≡ Some (request_text (behind_round last known (with_listings m ls)) host)
due_behind host m rounds known ls last is = ap (λ (b : Bool). Some (request_text (behind_round b known (with_listings m ls)) host)) is

-- another revision came
pub waited_walks : (host : List ℕ) (m old : Mirrored) (rounds n : ℕ) (known : Known) (ls : List Listing) (p q : Point) (answer : Reply)
    → (length ls == rounds) ≡ false → old ≡ with_listings m ls → Exchanged (request_text (want.Update known.session old.held.revision) host) p q answer
    → TellsNumber (code "musr") known.rows answer n → Walks host m rounds (Holding known ls) p (Asking known ls) q
waited_walks host m old rounds n known ls p q answer more is x told =
    walk_one host m rounds (Holding known ls) (Asking known ls) p q (request_text (want.Update known.session (held_after m.held ls).revision) host) answer
    (due_behind host m rounds known ls false more)
    (subst (λ (k : Mirrored). Exchanged (request_text (want.Update known.session k.held.revision) host) p q answer) is x)
    (subst (λ (b : Bool). LeadsOn b known ls answer (Asking known ls)) (sym more) ((n, told), refl))

pub waited_stops : (host : List ℕ) (m old now : Mirrored) (rounds : ℕ) (known : Known) (ls : List Listing) (p : Point) (taken : Option (List ℕ)) (e : FollowError)
    → (length ls == rounds) ≡ false → old ≡ with_listings m ls → now ≡ old
    → Stops (request_text (want.Update known.session old.held.revision) host) (UnexpectedNumber (code "musr") known.rows) p taken e
    → StopsFrom host m rounds (Holding known ls) p taken e now
waited_stops host m old now rounds known ls p taken e more is same stops =
    stops_here host m rounds (Holding known ls) p taken e now (request_text (want.Update known.session (held_after m.held ls).revision) host)
    (due_behind host m rounds known ls false more)
    (subst (λ (b : Bool). Stops (request_text (want.Update known.session (held_after m.held ls).revision) host) (UnexpectedAfter b known) p taken e) (sym more)
    (subst (λ (k : Mirrored). Stops (request_text (want.Update known.session k.held.revision) host) (UnexpectedNumber (code "musr") known.rows) p taken e) is stops))
    (same ∙ is)

-- it logged out
pub closed_walks : (host : List ℕ) (m : Mirrored) (rounds : ℕ) (known : Known) (ls : List Listing) (p q : Point) (answer : Reply) → (length ls == rounds) ≡ true
    → Exchanged (request_text (want.Logout known.session) host) p q answer → answer.0 ≡ 204 → Walks host m rounds (Holding known ls) p (Closed known ls) q
closed_walks host m rounds known ls p q answer last x fine =
    walk_one host m rounds (Holding known ls) (Closed known ls) p q (request_text (want.Logout known.session) host) answer
    (due_behind host m rounds known ls true last) x
    (subst (λ (b : Bool). LeadsOn b known ls answer (Closed known ls)) (sym last) (fine, refl))

pub closed_stops : (host : List ℕ) (m now : Mirrored) (rounds : ℕ) (known : Known) (ls : List Listing) (p : Point) (taken : Option (List ℕ)) (e : FollowError)
    → (length ls == rounds) ≡ true → now ≡ with_listings m ls → Stops (request_text (want.Logout known.session) host) UnexpectedEnd p taken e
    → StopsFrom host m rounds (Holding known ls) p taken e now
closed_stops host m now rounds known ls p taken e last holds stops =
    stops_here host m rounds (Holding known ls) p taken e now (request_text (want.Logout known.session) host)
    (due_behind host m rounds known ls true last)
    (subst (λ (b : Bool). Stops (request_text (want.Logout known.session) host) (UnexpectedAfter b known) p taken e) (sym last) stops)
    holds

-- ---- one round

-- a listing more, with what it did
pub listed_one : (host : List ℕ) (known : Known) (m old now : Mirrored) (rounds : ℕ) (ls : List Listing) (p q : Point) (before after : List Applied) (done : Applied)
    → ((answer : Reply) × (l : Listing) × Exchanged (request_text (rows_want known.session old) host) p q answer × TellsListing known.rows old answer l
    × (now ≡ with_listings old (l ∷ [])) × (done ≡ applied_by old.held l))
    → after ≡ before ++ done ∷ [] → old ≡ with_listings m ls → before ≡ all_applied m.held ls
    → (l : Listing) × (now ≡ with_listings m (ls ++ l ∷ [])) × (after ≡ all_applied m.held (ls ++ l ∷ []))
    × Walks host m rounds (Asking known ls) p (Holding known (ls ++ l ∷ [])) q
listed_one host known m old now rounds ls p q before after done x more is so_far = (
  x.1,
  with_more m now ls x.1 (x.4 ∙ ap (λ (n : Mirrored). with_listings n (x.1 ∷ [])) is),
  more ∙ ap (λ (xs : List Applied). xs ++ done ∷ []) so_far
      ∙ ap (λ (a : Applied). all_applied m.held ls ++ a ∷ []) (x.5 ∙ ap (λ (n : Mirrored). applied_by n.held x.1) is) ∙ sym (applied_more m.held ls x.1),
  listed_walks host m old rounds known ls x.1 p q x.0 is x.2 x.3,
)

-- what it did found no memory
pub listed_lost : (host : List ℕ) (known : Known) (m old now : Mirrored) (rounds : ℕ) (ls : List Listing) (p q : Point) (done : Applied)
    → ((answer : Reply) × (l : Listing) × Exchanged (request_text (rows_want known.session old) host) p q answer × TellsListing known.rows old answer l
    × (now ≡ with_listings old (l ∷ [])) × (done ≡ applied_by old.held l))
    → old ≡ with_listings m ls → StopsFrom host m rounds (Asking known ls) p q.taken Memory now
listed_lost host known m old now rounds ls p q done x is =
    stops_on host m rounds (Asking known ls) (Holding known (ls ++ x.1 ∷ [])) p q q.taken Memory now
    (listed_walks host m old rounds known ls x.1 p q x.0 is x.2 x.3)
    (unwritten_stops host m now rounds known (ls ++ x.1 ∷ []) q (with_more m now ls x.1 (x.4 ∙ ap (λ (n : Mirrored). with_listings n (x.1 ∷ [])) is)))

-- another revision, and a listing more
pub round_walks : (host other : List ℕ) (known same : Known) (m old now : Mirrored) (rounds revision n : ℕ) (ls : List Listing) (p mid q : Point) (after : List Applied)
    → other ≡ host → same ≡ known → revision ≡ old.held.revision → (length ls == rounds) ≡ false → old ≡ with_listings m ls
    → ((answer : Reply) × Exchanged (request_text (want.Update known.session revision) host) p mid answer × TellsNumber (code "musr") known.rows answer n)
    → ((l : Listing) × (now ≡ with_listings m (ls ++ l ∷ [])) × (after ≡ all_applied m.held (ls ++ l ∷ []))
    × Walks other m rounds (Asking same ls) mid (Holding same (ls ++ l ∷ [])) q)
    → (l : Listing) × (now ≡ with_listings m (ls ++ l ∷ [])) × (after ≡ all_applied m.held (ls ++ l ∷ []))
    × Walks host m rounds (Holding known ls) p (Holding known (ls ++ l ∷ [])) q
round_walks host other known same m old now rounds revision n ls p mid q after host_is known_is base more is x y = (
  y.0,
  y.1,
  y.2,
  walk_on host m rounds (Holding known ls) (Asking known ls) (Holding known (ls ++ y.0 ∷ [])) p mid q
      (waited_walks host m old rounds n known ls p mid x.0 more is
      (subst (λ (r : ℕ). Exchanged (request_text (want.Update known.session r) host) p mid x.0) base x.1) x.2)
      (subst (λ (h : List ℕ). Walks h m rounds (Asking known ls) mid (Holding known (ls ++ y.0 ∷ [])) q) host_is
      (subst (λ (k : Known). Walks other m rounds (Asking k ls) mid (Holding k (ls ++ y.0 ∷ [])) q) known_is y.3)),
)

pub round_stops : (host other : List ℕ) (known same : Known) (m old now : Mirrored) (rounds revision n : ℕ) (ls : List Listing) (p mid : Point) (taken : Option (List ℕ))
    (e : FollowError) → other ≡ host → same ≡ known → revision ≡ old.held.revision → (length ls == rounds) ≡ false → old ≡ with_listings m ls
    → ((answer : Reply) × Exchanged (request_text (want.Update known.session revision) host) p mid answer × TellsNumber (code "musr") known.rows answer n)
    → StopsFrom other m rounds (Asking same ls) mid taken e now → StopsFrom host m rounds (Holding known ls) p taken e now
round_stops host other known same m old now rounds revision n ls p mid taken e host_is known_is base more is x y =
    stops_on host m rounds (Holding known ls) (Asking known ls) p mid taken e now
    (waited_walks host m old rounds n known ls p mid x.0 more is
    (subst (λ (r : ℕ). Exchanged (request_text (want.Update known.session r) host) p mid x.0) base x.1) x.2)
    (subst (λ (h : List ℕ). StopsFrom h m rounds (Asking known ls) mid taken e now) host_is
    (subst (λ (k : Known). StopsFrom other m rounds (Asking k ls) mid taken e now) known_is y))

pub unwaited_stops : (host : List ℕ) (known : Known) (m old now : Mirrored) (rounds revision : ℕ) (ls : List Listing) (p : Point) (taken : Option (List ℕ)) (e : FollowError)
    → revision ≡ old.held.revision → (length ls == rounds) ≡ false → old ≡ with_listings m ls → now ≡ old
    → Stops (request_text (want.Update known.session revision) host) (UnexpectedNumber (code "musr") known.rows) p taken e
    → StopsFrom host m rounds (Holding known ls) p taken e now
unwaited_stops host known m old now rounds revision ls p taken e base more is same stops =
    waited_stops host m old now rounds known ls p taken e more is same
    (subst (λ (r : ℕ). Stops (request_text (want.Update known.session r) host) (UnexpectedNumber (code "musr") known.rows) p taken e) base stops)

-- all rounds were done, and it logged out
followed : (host other : List ℕ) (m now : Mirrored) (rounds : ℕ) (known : Known) (ls : List Listing) (p mid there : Point) (taken : Option (List ℕ))
    (applied : List Applied) → other ≡ host → length ls ≡ rounds → Walks host m rounds Begun p (Holding known ls) mid → now ≡ with_listings m ls → applied ≡ all_applied m.held ls
    → ((answer : Reply) × Exchanged (request_text (want.Logout known.session) other) mid there answer × (answer.0 ≡ 204)) → there.taken ≡ taken
    → Followed host m rounds p taken applied now
followed host other m now rounds known ls p mid there taken applied host_is all walks holds told x written = record {
  known = known;
  listings = ls;
  there = there;
  walks =
      walk_on host m rounds Begun (Holding known ls) (Closed known ls) p mid there walks
      (closed_walks host m rounds known ls mid there x.0 (eq-eqb (length ls) rounds all)
      (subst (λ (h : List ℕ). Exchanged (request_text (want.Logout known.session) h) mid there x.0) host_is x.1) x.2);
  written = written;
  one_each = all;
  holds = holds;
  told = told;
}

unclosed : (host other : List ℕ) (m now : Mirrored) (rounds : ℕ) (known : Known) (ls : List Listing) (p mid : Point) (taken : Option (List ℕ)) (e : FollowError)
    → other ≡ host → length ls ≡ rounds → Walks host m rounds Begun p (Holding known ls) mid → now ≡ with_listings m ls
    → Stops (request_text (want.Logout known.session) other) UnexpectedEnd mid taken e → StopsFrom host m rounds Begun p taken e now
unclosed host other m now rounds known ls p mid taken e host_is all walks holds stops =
    stops_on host m rounds Begun (Holding known ls) p mid taken e now walks
    (closed_stops host m now rounds known ls mid taken e (eq-eqb (length ls) rounds all) holds
    (subst (λ (h : List ℕ). Stops (request_text (want.Logout known.session) h) UnexpectedEnd mid taken e) host_is stops))

-- the same of what the logout returned
pub followed_by : {A : Type 0} (host other : List ℕ) (m now : Mirrored) (rounds : ℕ) (known : Known) (ls : List Listing) (p mid : Point) (taken left : Option (List ℕ))
    (applied : List Applied) (r : Result A FollowError) → other ≡ host → length ls ≡ rounds → Walks host m rounds Begun p (Holding known ls) mid → now ≡ with_listings m ls → applied ≡ all_applied m.held ls
    → IfOk r (λ _. (answer : Reply) × (ahead : ReadAhead) × Exchanged (request_text (want.Logout known.session) other) mid (place taken left ahead) answer × (answer.0 ≡ 204))
    → OnOk r (Followed host m rounds p taken applied now)
followed_by host other m now rounds known ls p mid taken left applied (Ok a) host_is all walks holds told x =
    followed host other m now rounds known ls p mid (place taken left x.1) taken applied host_is all walks holds told (x.0, x.2, x.3) refl
followed_by host other m now rounds known ls p mid taken left applied (Err e) host_is all walks holds told x = tt

pub unclosed_by : {A : Type 0} (host other : List ℕ) (m now : Mirrored) (rounds : ℕ) (known : Known) (ls : List Listing) (p mid : Point) (taken : Option (List ℕ)) (r : Result A FollowError)
    → other ≡ host → length ls ≡ rounds → Walks host m rounds Begun p (Holding known ls) mid → now ≡ with_listings m ls
    → IfErr r (λ e. Stops (request_text (want.Logout known.session) other) UnexpectedEnd mid taken e) → IfErr r (λ e. StopsFrom host m rounds Begun p taken e now)
unclosed_by host other m now rounds known ls p mid taken (Ok a) host_is all walks holds stops = tt
unclosed_by host other m now rounds known ls p mid taken (Err e) host_is all walks holds stops =
    unclosed host other m now rounds known ls p mid taken e host_is all walks holds stops

-- ---- a whole run, so far

pub whole_run : (host other : List ℕ) (m : Mirrored) (rounds : ℕ) (known last : Known) (ls : List Listing) (p mid q : Point) → Opened host p mid known → other ≡ host
    → Walks other m rounds (Asking known []) mid (Holding last ls) q → Walks host m rounds Begun p (Holding last ls) q
whole_run host other m rounds known last ls p mid q o host_is walks =
    walk_on host m rounds Begun (Asking known []) (Holding last ls) p mid q (opened_walks host m rounds p mid known o)
    (subst (λ (h : List ℕ). Walks h m rounds (Asking known []) mid (Holding last ls) q) host_is walks)

pub run_stops : (host other : List ℕ) (m now : Mirrored) (rounds : ℕ) (known : Known) (p mid : Point) (taken : Option (List ℕ)) (e : FollowError) → Opened host p mid known
    → other ≡ host → StopsFrom other m rounds (Asking known []) mid taken e now → StopsFrom host m rounds Begun p taken e now
run_stops host other m now rounds known p mid taken e o host_is stops =
    stops_on host m rounds Begun (Asking known []) p mid taken e now (opened_walks host m rounds p mid known o)
    (subst (λ (h : List ℕ). StopsFrom h m rounds (Asking known []) mid taken e now) host_is stops)

pub later_round : (host other : List ℕ) (m : Mirrored) (rounds : ℕ) (first known same : Known) (ls : List Listing) (l : Listing) (p mid q : Point)
    → Walks host m rounds (Asking first []) p (Holding known ls) mid → other ≡ host → same ≡ known
    → Walks other m rounds (Holding known ls) mid (Holding known (ls ++ l ∷ [])) q → Walks host m rounds (Asking first []) p (Holding same (ls ++ l ∷ [])) q
later_round host other m rounds first known same ls l p mid q before host_is known_is walks =
    subst (λ (k : Known). Walks host m rounds (Asking first []) p (Holding k (ls ++ l ∷ [])) q) (sym known_is)
    (walk_on host m rounds (Asking first []) (Holding known ls) (Holding known (ls ++ l ∷ [])) p mid q before
    (subst (λ (h : List ℕ). Walks h m rounds (Holding known ls) mid (Holding known (ls ++ l ∷ [])) q) host_is walks))

pub later_stops : (host other : List ℕ) (m now : Mirrored) (rounds : ℕ) (first known : Known) (ls : List Listing) (p mid : Point) (taken : Option (List ℕ)) (e : FollowError)
    → Walks host m rounds (Asking first []) p (Holding known ls) mid → other ≡ host → StopsFrom other m rounds (Holding known ls) mid taken e now
    → StopsFrom host m rounds (Asking first []) p taken e now
later_stops host other m now rounds first known ls p mid taken e before host_is stops =
    stops_on host m rounds (Asking first []) (Holding known ls) p mid taken e now before
    (subst (λ (h : List ℕ). StopsFrom h m rounds (Holding known ls) mid taken e now) host_is stops)

-- fewer listings than rounds
pub not_last : (n rounds : ℕ) → n < rounds → (n == rounds) ≡ false
not_last n rounds less = ne_eqb n rounds (λ (e : n ≡ rounds). omega (arith, e, less))
