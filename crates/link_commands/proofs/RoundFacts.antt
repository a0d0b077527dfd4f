-- Rounds, one after another, and their lines.
use Rattle.std.proofs.Common.{◌≡◌, ◌==◌, ℕ, Bool, true, false, List, [], ◌∷◌, ◌++◌, length, Option, Some, Result, Ok, Err, IfErr, OnOk, MatchResult, refl, sym, ap, ◌∙◌, subst, append_assoc, append-nil, inl, inr, arith}
use Rattle.dmap_tags.specs.Codes.{code}
use Rattle.share_asks.specs.declared.ask.Want.TheVariants as want
use Rattle.share_history.specs.Listings.{Listing}
use Rattle.mirror_core.specs.declared.mirror.Applied.{Applied}
use Rattle.mirror_core.specs.Mirrored.{Mirrored}
use Rattle.command_core.specs.Endings.{IsWritten}
use Rattle.command_core.specs.Seen.{OutputSeen}
use Rattle.command_core.proofs.Appending.{none_written, written_more}
use Rattle.http_client.specs.Replies.{Reply}
use Rattle.http_client.specs.Requests.{request_text}
use Rattle.mirror_client.specs.declared.refusal.FollowError.{FollowError}
use Rattle.mirror_client.specs.declared.refusal.FollowError.TheVariants.{Memory}
use Rattle.mirror_client.specs.Exchanges.{Exchanged}
use Rattle.mirror_client.specs.Points.{Point}
use Rattle.mirror_client.specs.Stages.{Asking, Begun, Holding, Learned, Stage, StopsFrom, UnexpectedAfter, UnexpectedIn, Walks, behind_round, due, listings_in}
use Rattle.mirror_client.specs.Steps.{FailsToOpen, Known, Opened, TellsListing, UnexpectedEnd, UnexpectedListing, all_applied, applied_by, held_after, rows_want, with_listings}
use Rattle.mirror_client.specs.Stopping.{CountsFault, Stops}
use Rattle.mirror_client.specs.Tellings.{TellsNumber, UnexpectedNumber}
use Rattle.mirror_client.proofs.ExchangeFacts.{unwritten, went_nowhere}
use Rattle.mirror_client.proofs.StageFacts.{listed_one, listed_walks, opened_walks, waited_walks, walk_on, walk_one, with_more}
use Rattle.link_commands.specs.declared.rounds.Stop.{Stop}
use Rattle.link_commands.specs.declared.rounds.Stop.TheVariants.{Output, Link}
use Rattle.link_commands.specs.FollowShare.{lines_of}
use Rattle.link_commands.specs.Linked.{LinkSeen, start_of}
use Rattle.link_commands.specs.RoundLines.{round_line, round_lines}
use Rattle.link_commands.specs.Rounds.{CountsStop, EndsLine, EndsRound, EndsRounds, StopsRound, StopsRounds, WritesRound}

-- ---- results

pub on_ok : {A E : Type 0} (P : A → Type 0) (Q : E → Type 0) {R : Type 0} (r : Result A E) → MatchResult r P Q → ((a : A) → P a → R) → OnOk r R
on_ok P Q (Ok a) h more = more a h
on_ok P Q (Err e) h more = tt

pub on_err : {A E : Type 0} (P : A → Type 0) (Q : E → Type 0) {S : E → Type 0} (r : Result A E) → MatchResult r P Q → ((e : E) → Q e → S e) → IfErr r S
on_err P Q (Ok a) h more = tt
on_err P Q (Err e) h more = more e h

-- ---- a whole run, so far

pub first_round : (host other : List ℕ) (m : Mirrored) (rounds : ℕ) (known same : Known) (l : Listing) (p mid q : Point) → Opened host p mid known → other ≡ host
    → same ≡ known → Walks other m rounds (Asking known []) mid (Holding known (l ∷ [])) q → Walks host m rounds Begun p (Holding same (l ∷ [])) q
first_round host other m rounds known same l p mid q o host_is known_is walks =
    subst (λ (k : Known). Walks host m rounds Begun p (Holding k (l ∷ [])) q) (sym known_is)
    (walk_on host m rounds Begun (Asking known []) (Holding known (l ∷ [])) p mid q (opened_walks host m rounds p mid known o)
    (subst (λ (h : List ℕ). Walks h m rounds (Asking known []) mid (Holding known (l ∷ [])) q) host_is walks))

pub later_round : (host other : List ℕ) (m : Mirrored) (rounds : ℕ) (known same : Known) (ls : List Listing) (l : Listing) (p mid q : Point)
    → Walks host m rounds Begun p (Holding known ls) mid → other ≡ host → same ≡ known
    → Walks other m rounds (Holding known ls) mid (Holding known (ls ++ l ∷ [])) q → Walks host m rounds Begun p (Holding same (ls ++ l ∷ [])) q
later_round host other m rounds known same ls l p mid q before host_is known_is walks =
    subst (λ (k : Known). Walks host m rounds Begun p (Holding k (ls ++ l ∷ [])) q) (sym known_is)
    (walk_on host m rounds Begun (Holding known ls) (Holding known (ls ++ l ∷ [])) p mid q before
    (subst (λ (h : List ℕ). Walks h m rounds (Holding known ls) mid (Holding known (ls ++ l ∷ [])) q) host_is walks))

-- ---- lines

lines_both : (xs ys : List Applied) → round_lines (xs ++ ys) ≡ round_lines xs ++ round_lines ys
lines_both [] ys = refl
lines_both (x ∷ xs) ys = ap (λ (l : List ℕ). round_line x ++ l) (lines_both xs ys) ∙ sym (append_assoc (round_line x) (round_lines xs) (round_lines ys))

lines_more : (m : Mirrored) (ls : List Listing) (l : Listing) (done : Applied) → all_applied m.held ls ++ done ∷ [] ≡ all_applied m.held (ls ++ l ∷ [])
    → lines_of m ls ++ round_line done ≡ lines_of m (ls ++ l ∷ [])
lines_more m ls l done told =
    ap (λ (x : List ℕ). lines_of m ls ++ x) (sym (append-nil (round_line done))) ∙ sym (lines_both (all_applied m.held ls) (done ∷ [])) ∙ ap round_lines told

pub line_written : (m : Mirrored) (ls : List Listing) (l : Listing) (done : Applied) (start before after : OutputSeen)
    → all_applied m.held ls ++ done ∷ [] ≡ all_applied m.held (ls ++ l ∷ []) → IsWritten start before (lines_of m ls) → IsWritten before after (round_line done)
    → IsWritten start after (lines_of m (ls ++ l ∷ []))
line_written m ls l done start before after told w line =
    subst (IsWritten start after) (lines_more m ls l done told) (written_more start before after (lines_of m ls) (round_line done) w line)

-- ---- where it stopped

-- at once, in a stage
abbrev stopped_here : (host : List ℕ) (m : Mirrored) (rounds : ℕ) (s : Stage) (p : Point) (taken : Option (List ℕ)) (e : FollowError) (now : Mirrored) (request : List ℕ)
    → due host m rounds s ≡ Some request → Stops request (UnexpectedIn m rounds s) p taken e → now ≡ with_listings m (listings_in s) → StopsFrom host m rounds s p taken e now
stopped_here host m rounds s p taken e now request asked stops holds =
    record { stage = s; there = p; walks = record { exchanges = []; path = refl; went = went_nowhere p }; request = request; is_due = asked; stops = stops; holds = holds }

-- after other stages
abbrev stopped_on : (host : List ℕ) (m : Mirrored) (rounds : ℕ) (s t : Stage) (p q : Point) (taken : Option (List ℕ)) (e : FollowError) (now : Mirrored)
    → Walks host m rounds s p t q → StopsFrom host m rounds t q taken e now → StopsFrom host m rounds s p taken e now
stopped_on host m rounds s t p q taken e now w k = record {
  stage = k.stage;
  there = k.there;
  walks = walk_on host m rounds s t k.stage p q k.there w k.walks;
  request = k.request;
  is_due = k.is_due;
  stops = k.stops;
  holds = k.holds;
}

-- ---- one listing

abbrev Listed : List ℕ → Known → Mirrored → Mirrored → Point → Point → Applied → Type 0
Listed host known old now p q done =
    (answer : Reply) × (l : Listing) × Exchanged (request_text (rows_want known.session old) host) p q answer × TellsListing known.rows old answer l
    × (now ≡ with_listings old (l ∷ [])) × (done ≡ applied_by old.held l)

pub listing_tells : (host : List ℕ) (known : Known) (m old now : Mirrored) (rounds : ℕ) (ls : List Listing) (p q : Point) (before after : OutputSeen) (done : Applied)
    → Listed host known old now p q done → old ≡ with_listings m ls → IsWritten before after (round_line done)
    → WritesRound host known m now rounds ls (Asking known ls) p q before after
listing_tells host known m old now rounds ls p q before after done x is line =
    let y = listed_one host known m old now rounds ls p q (all_applied m.held ls) (all_applied m.held ls ++ done ∷ []) done x refl is refl in
    record { listing = y.0; done = done; holds = y.1; told = y.2; walks = y.3; line = line }

-- an allocation for its line failed
lost : (host : List ℕ) (known : Known) (m old now : Mirrored) (rounds : ℕ) (ls : List Listing) (p q : Point) (before : OutputSeen) (done : Applied)
    → Listed host known old now p q done → old ≡ with_listings m ls → StopsRound host m now rounds ls (Asking known ls) p q.taken Memory before before
lost host known m old now rounds ls p q before done x is =
    let request : List ℕ = request_text (behind_round (length (ls ++ x.1 ∷ []) == rounds) known (with_listings m (ls ++ x.1 ∷ []))) host in
    record {
      stops = stopped_on host m rounds (Asking known ls) (Holding known (ls ++ x.1 ∷ [])) p q q.taken Memory now (listed_walks host m old rounds known ls x.1 p q x.0 is x.2 x.3)
          (stopped_here host m rounds (Holding known (ls ++ x.1 ∷ [])) q q.taken Memory now request refl (unwritten request (UnexpectedIn m rounds (Holding known (ls ++ x.1 ∷ []))) q)
          (with_more m now ls x.1 (x.4 ∙ ap (λ (n : Mirrored). with_listings n (x.1 ∷ [])) is)));
      behind = record { others = x.1 ∷ []; split = refl; only = λ other. absurd (other refl); few = omega arith };
      untold = refl;
    }

pub line_ends : (host : List ℕ) (known : Known) (m old now : Mirrored) (rounds : ℕ) (ls : List Listing) (p q : Point) (before after : OutputSeen) (done : Applied) (stop : Stop)
    → Listed host known old now p q done → old ≡ with_listings m ls → EndsLine done before after stop
    → EndsRound host known m now rounds ls (Asking known ls) p q.taken before after stop
line_ends host known m old now rounds ls p q before after done Output x is cut =
    let y = listed_one host known m old now rounds ls p q (all_applied m.held ls) (all_applied m.held ls ++ done ∷ []) done x refl is refl in
    record { listing = y.0; done = done; there = q; told = y.2; walks = y.3; written = refl; line = cut }
line_ends host known m old now rounds ls p q before after done (Link e) x is h =
    subst (λ (f : FollowError). StopsRound host m now rounds ls (Asking known ls) p q.taken f before after) (sym h.0)
    (subst (λ (o : OutputSeen). StopsRound host m now rounds ls (Asking known ls) p q.taken Memory before o) (sym h.1) (lost host known m old now rounds ls p q before done x is))

pub listing_ends : (host : List ℕ) (known : Known) (m old now : Mirrored) (rounds : ℕ) (ls : List Listing) (p : Point) (taken : Option (List ℕ)) (before : OutputSeen) (e : FollowError)
    → old ≡ with_listings m ls → now ≡ old → Stops (request_text (rows_want known.session old) host) (UnexpectedListing known.rows old) p taken e
    → StopsRound host m now rounds ls (Asking known ls) p taken e before before
listing_ends host known m old now rounds ls p taken before e is same stops = record {
  stops = stopped_here host m rounds (Asking known ls) p taken e now (request_text (rows_want known.session (with_listings m ls)) host) refl
      (subst (λ (n : Mirrored). Stops (request_text (rows_want known.session n) host) (UnexpectedListing known.rows n) p taken e) is stops) (same ∙ is);
  behind = record { others = []; split = sym (append-nil ls); only = λ other. refl; few = omega arith };
  untold = refl;
}

-- ---- after other exchanges

abbrev Waited : List ℕ → Known → ℕ → ℕ → Point → Point → Type 0
Waited host known revision n p mid =
    (answer : Reply) × Exchanged (request_text (want.Update known.session revision) host) p mid answer × TellsNumber (code "musr") known.rows answer n

waits : (host : List ℕ) (known : Known) (m old : Mirrored) (rounds revision n : ℕ) (ls : List Listing) (p mid : Point) → revision ≡ old.held.revision
    → (length ls == rounds) ≡ false → old ≡ with_listings m ls → Waited host known revision n p mid → Walks host m rounds (Holding known ls) p (Asking known ls) mid
waits host known m old rounds revision n ls p mid base more is x =
    waited_walks host m old rounds n known ls p mid x.0 more is
    (subst (λ (r : ℕ). Exchanged (request_text (want.Update known.session r) host) p mid x.0) base x.1) x.2

tells_on : (host : List ℕ) (known : Known) (m now : Mirrored) (rounds : ℕ) (ls : List Listing) (s t : Stage) (p mid q : Point) (before after : OutputSeen)
    → Walks host m rounds s p t mid → WritesRound host known m now rounds ls t mid q before after → WritesRound host known m now rounds ls s p q before after
tells_on host known m now rounds ls s t p mid q before after w x = record {
  listing = x.listing;
  done = x.done;
  holds = x.holds;
  told = x.told;
  walks = walk_on host m rounds s t (Holding known (ls ++ x.listing ∷ [])) p mid q w x.walks;
  line = x.line;
}

ends_on : (host : List ℕ) (known : Known) (m now : Mirrored) (rounds : ℕ) (ls : List Listing) (s t : Stage) (p mid : Point) (taken : Option (List ℕ)) (before after : OutputSeen)
    (stop : Stop) → Walks host m rounds s p t mid → EndsRound host known m now rounds ls t mid taken before after stop
    → EndsRound host known m now rounds ls s p taken before after stop
ends_on host known m now rounds ls s t p mid taken before after Output w x = record {
  listing = x.listing;
  done = x.done;
  there = x.there;
  told = x.told;
  walks = walk_on host m rounds s t (Holding known (ls ++ x.listing ∷ [])) p mid x.there w x.walks;
  written = x.written;
  line = x.line;
}
ends_on host known m now rounds ls s t p mid taken before after (Link e) w x =
    record { stops = stopped_on host m rounds s t p mid taken e now w x.stops; behind = x.behind; untold = x.untold }

-- after another revision
pub next_tells : (host other : List ℕ) (known same : Known) (m old now : Mirrored) (rounds revision n : ℕ) (ls : List Listing) (p mid q : Point) (before after : OutputSeen)
    → other ≡ host → same ≡ known → revision ≡ old.held.revision → (length ls == rounds) ≡ false → old ≡ with_listings m ls → Waited host known revision n p mid
    → WritesRound other same m now rounds ls (Asking same ls) mid q before after → WritesRound host known m now rounds ls (Holding known ls) p q before after
next_tells host other known same m old now rounds revision n ls p mid q before after host_is known_is base more is x y =
    tells_on host known m now rounds ls (Holding known ls) (Asking known ls) p mid q before after (waits host known m old rounds revision n ls p mid base more is x)
    (subst (λ (h : List ℕ). WritesRound h known m now rounds ls (Asking known ls) mid q before after) host_is
    (subst (λ (k : Known). WritesRound other k m now rounds ls (Asking k ls) mid q before after) known_is y))

pub next_ends : (host other : List ℕ) (known same : Known) (m old now : Mirrored) (rounds revision n : ℕ) (ls : List Listing) (p mid : Point) (taken : Option (List ℕ))
    (before after : OutputSeen) (stop : Stop) → other ≡ host → same ≡ known → revision ≡ old.held.revision → (length ls == rounds) ≡ false → old ≡ with_listings m ls
    → Waited host known revision n p mid → EndsRound other same m now rounds ls (Asking same ls) mid taken before after stop
    → EndsRound host known m now rounds ls (Holding known ls) p taken before after stop
next_ends host other known same m old now rounds revision n ls p mid taken before after stop host_is known_is base more is x y =
    ends_on host known m now rounds ls (Holding known ls) (Asking known ls) p mid taken before after stop (waits host known m old rounds revision n ls p mid base more is x)
    (subst (λ (h : List ℕ). EndsRound h known m now rounds ls (Asking known ls) mid taken before after stop) host_is
    (subst (λ (k : Known). EndsRound other k m now rounds ls (Asking k ls) mid taken before after stop) known_is y))

due_behind : (host : List ℕ) (m : Mirrored) (rounds : ℕ) (known : Known) (ls : List Listing) (last : Bool) → (length ls == rounds) ≡ last
    → due host m rounds (Holding known ls) ≡ Some (request_text (behind_round last known (with_listings m ls)) host)
due_behind host m rounds known ls last is = ap (λ (b : Bool). Some (request_text (behind_round b known (with_listings m ls)) host)) is

-- no other revision came
pub waiting_ends : (host : List ℕ) (known : Known) (m old now : Mirrored) (rounds revision : ℕ) (ls : List Listing) (p : Point) (taken : Option (List ℕ)) (before : OutputSeen)
    (e : FollowError) → revision ≡ old.held.revision → (length ls == rounds) ≡ false → old ≡ with_listings m ls → now ≡ old
    → Stops (request_text (want.Update known.session revision) host) (UnexpectedNumber (code "musr") known.rows) p taken e
    → StopsRound host m now rounds ls (Holding known ls) p taken e before before
waiting_ends host known m old now rounds revision ls p taken before e base more is same stops = record {
  stops = stopped_here host m rounds (Holding known ls) p taken e now (request_text (want.Update known.session (held_after m.held ls).revision) host)
      (due_behind host m rounds known ls false more)
      (subst (λ (b : Bool). Stops (request_text (want.Update known.session (held_after m.held ls).revision) host) (UnexpectedAfter b known) p taken e) (sym more)
      (subst (λ (k : Mirrored). Stops (request_text (want.Update known.session k.held.revision) host) (UnexpectedNumber (code "musr") known.rows) p taken e) is
      (subst (λ (r : ℕ). Stops (request_text (want.Update known.session r) host) (UnexpectedNumber (code "musr") known.rows) p taken e) base stops)))
      (same ∙ is);
  behind = record { others = []; split = sym (append-nil ls); only = λ other. refl; few = omega arith };
  untold = refl;
}

-- ---- all rounds

-- it ended early in a round
pub round_ends : (host : List ℕ) (known : Known) (m now : Mirrored) (rounds : ℕ) (ls : List Listing) (s : Stage) (p : Point) (link : LinkSeen) (start before after : OutputSeen)
    (stop : Stop) → Walks host m rounds Begun (start_of link) s p → IsWritten start before (lines_of m ls)
    → EndsRound host known m now rounds ls s p link.taken before after stop → CountsStop 0 link.faults stop → EndsRounds host m rounds link start after stop
round_ends host known m now rounds ls s p link start before after Output w lines x count = record {
  front = lines_of m ls;
  line = round_line x.done;
  has = record {
    known = known;
    earlier = ls;
    last = x.listing;
    there = x.there;
    walks = walk_on host m rounds Begun s (Holding known (ls ++ x.listing ∷ [])) (start_of link) p x.there w x.walks;
    written = x.written;
    lines = refl;
    all_lines = lines_more m ls x.listing x.done x.told;
  };
  faultless = count;
  cut = record { at_cut = before; written = lines; cut = x.line };
}
round_ends host known m now rounds ls s p link start before after (Link e) w lines x count = record {
  lines = lines_of m ls;
  stops = record {
    now = now;
    stops = stopped_on host m rounds Begun s (start_of link) p link.taken e now w x.stops;
    lines = record { told = ls; others = x.behind.others; split = x.behind.split; only = x.behind.only; few = x.behind.few; lines = refl };
    count = count;
  };
  written = subst (λ (o : OutputSeen). IsWritten start o (lines_of m ls)) (sym x.untold) lines;
}

-- it stopped before the first listing
opening_stops : (host : List ℕ) (m : Mirrored) (rounds : ℕ) (p : Point) (taken : Option (List ℕ)) (e : FollowError) → FailsToOpen host p taken e
    → (x : StopsFrom host m rounds Begun p taken e m) × (listings_in x.stage ≡ [])
opening_stops host m rounds p taken e (inl stops) = (stopped_here host m rounds Begun p taken e m (request_text want.Codes host) refl stops refl, refl)
opening_stops host m rounds p taken e (inr b) = (
  stopped_on host m rounds Begun (Learned b.rows) p b.middle taken e m
      (walk_one host m rounds Begun (Learned b.rows) p b.middle (request_text want.Codes host) b.table refl b.learned (b.rows, b.told, refl))
      (stopped_here host m rounds (Learned b.rows) b.middle taken e m (request_text want.Login host) refl b.stops refl),
  refl,
)

pub opening_ends : (host : List ℕ) (m : Mirrored) (rounds : ℕ) (link : LinkSeen) (before : OutputSeen) (e : FollowError) → FailsToOpen host (start_of link) link.taken e
    → CountsFault 0 link.faults e → StopsRounds host m rounds link e before before
opening_ends host m rounds link before e fails count =
    let x = opening_stops host m rounds (start_of link) link.taken e fails in record {
      lines = [];
      stops = record { now = m; stops = x.0; lines = record { told = []; others = []; split = x.1; only = λ other. refl; few = omega arith; lines = refl }; count = count };
      written = none_written before;
    }

-- it did not log out
pub closing_ends : (host : List ℕ) (m now : Mirrored) (rounds : ℕ) (known : Known) (ls : List Listing) (p : Point) (taken : Option (List ℕ)) (before : OutputSeen) (e : FollowError)
    → (length ls == rounds) ≡ true → now ≡ with_listings m ls → Stops (request_text (want.Logout known.session) host) UnexpectedEnd p taken e
    → StopsRound host m now rounds ls (Holding known ls) p taken e before before
closing_ends host m now rounds known ls p taken before e last holds stops = record {
  stops = stopped_here host m rounds (Holding known ls) p taken e now (request_text (want.Logout known.session) host) (due_behind host m rounds known ls true last)
      (subst (λ (b : Bool). Stops (request_text (want.Logout known.session) host) (UnexpectedAfter b known) p taken e) (sym last) stops) holds;
  behind = record { others = []; split = sym (append-nil ls); only = λ other. refl; few = omega arith };
  untold = refl;
}

-- a follower's host is the one that it was opened with
pub round_on : (other host : List ℕ) (known : Known) (m now : Mirrored) (rounds : ℕ) (ls : List Listing) (s : Stage) (p : Point) (taken : Option (List ℕ)) (before after : OutputSeen)
    (stop : Stop) → other ≡ host → EndsRound other known m now rounds ls s p taken before after stop → EndsRound host known m now rounds ls s p taken before after stop
round_on other host known m now rounds ls s p taken before after stop same x = subst (λ (h : List ℕ). EndsRound h known m now rounds ls s p taken before after stop) same x
