-- How far a client came on its connection, however its run ended: a stage, and a part of its next request.
use Rattle.std.proofs.Common.{◌≡◌, ◌≢◌, ◌≤◌, ◌<◌, ◌==◌, ℕ, Bool, true, false, List, [], ◌∷◌, ◌++◌, length, Option, Some, None, refl, sym, ap, ◌∙◌, subst, append-nil, length-append, ◌⊎◌, inl, inr, arith}
use Rattle.std.proofs.lemmas.Bool.{cases_lt, eqb-false}
use Rattle.std.specs.Prelude.{⊤}
use Rattle.std.specs.Io.KnownBytes.{Appends}
use Rattle.std.proofs.lemmas.List.{append_cancel_left}
use Rattle.outside_net.specs.Places.{Returned, returned}
use Rattle.outside_net.specs.Told.{BeginsEmpty, GrowsByTold}
use Rattle.share_history.specs.Listings.{Listing}
use Rattle.http_client.specs.Replies.{Reply}
use Rattle.mirror_core.specs.declared.mirror.Applied.{Applied}
use Rattle.mirror_core.specs.Mirrored.{Mirrored}
use Rattle.mirror_client.specs.declared.refusal.FollowError.{FollowError}
use Rattle.mirror_client.specs.declared.refusal.FollowError.TheVariants.{Refused, BadReply, Ended, Listing as not_taken, Codes, LinkFault, Memory}
use Rattle.mirror_client.specs.Exchanges.{Exchange}
use Rattle.mirror_client.specs.Points.{Point}
use Rattle.mirror_client.specs.Runs.{Followed}
use Rattle.mirror_client.specs.Stages.{Asking, Begun, Closed, Holding, Leads, LeadsOn, Learned, Path, Stage, StopsFrom, UnexpectedIn, Walks, listings_in}
use Rattle.mirror_client.specs.Steps.{Known}
use Rattle.mirror_client.proofs.StageFacts.{part_written}
use Rattle.command_core.specs.declared.fault.Fault.{Fault}
use Rattle.command_core.specs.declared.fault.Fault.TheVariants as fault
use Rattle.command_core.specs.Faults.{fault_status}
use Rattle.command_core.specs.Seen.{NetSeen}
use Rattle.link_commands.specs.declared.follow.FollowFault.{FollowFault}
use Rattle.link_commands.specs.declared.follow.FollowFault.TheVariants.{Query, Meta, Unreached, Link}
use Rattle.link_commands.specs.FollowShare.{HasRounds, follow_status}
use Rattle.link_commands.specs.Linked.{HasLinked, LinkSeen, start_of}
use Rattle.link_commands.proofs.LinkedFacts.{left_is}
use Rattle.share_meetings.specs.Meetings.{IsMade}

-- ---- what is told of the connection

-- a run that made no connection is none of these
pub not_unwritten : (before after : NetSeen) (sent owed : List ℕ) → IsMade before after sent owed → after.written ≡ before.written → ⊥
not_unwritten before after sent owed made same =
    let both : Some (made.closed ++ (made.others ++ (sent, made.faulted) ∷ [])) ≡ Some made.closed = sym made.written ∙ same ∙ made.closed_are in
    let lists : made.closed ++ (made.others ++ (sent, made.faulted) ∷ []) ≡ made.closed = cc in
    omega (
      arith,
      ap (λ (xs : List Returned). length xs) lists,
      length-append made.closed (made.others ++ (sent, made.faulted) ∷ []),
      length-append made.others ((sent, made.faulted) ∷ []),
    )

last_is : (others : List Returned) (a b : Returned) → others ++ a ∷ [] ≡ b ∷ [] → b ≡ a
last_is [] a b same = cc same
last_is (x ∷ others) a b same =
    absurd (omega (arith, ap (λ (xs : List Returned). length xs) same, length-append (x ∷ others) (a ∷ [])))

taken_is : (taken : Option (List ℕ)) (faults : ℕ) (before after : Option (List Returned)) (closed others : List Returned) (sent : List ℕ) (faulted : Bool) → before ≡ Some closed
    → after ≡ Some (closed ++ (others ++ (sent, faulted) ∷ [])) → GrowsByTold before after (returned taken faults) → taken ≡ Some sent
taken_is None faults before after closed others sent faulted is after_is grows = absurd (let none : after ≡ None = grows in cc)
taken_is (Some bytes) faults before after closed others sent faulted is after_is grows =
    let made : List Returned = closed ++ (others ++ (sent, faulted) ∷ []) in
    let grows' : GrowsByTold (Some closed) (Some (closed ++ (others ++ (sent, faulted) ∷ []))) (returned (Some bytes) faults) =
    subst (λ (w : Option (List Returned)). GrowsByTold (Some closed) w (returned (Some bytes) faults)) after_is
    (subst (λ (w : Option (List Returned)). GrowsByTold w after (returned (Some bytes) faults)) is grows) in
    ap (λ (r : Returned). Some r.0) (last_is others (sent, faulted) _ (append_cancel_left closed (others ++ (sent, faulted) ∷ []) _ grows'))

-- nothing was written before, `sent` was written, and `owed` was there to be read
pub record IsKnown (link : LinkSeen) (sent owed : List ℕ) : Type 0 where
  pub begun : link.begun ≡ Some []
  pub taken : link.taken ≡ Some sent
  pub left : link.left ≡ Some owed

pub known : (host : List ℕ) (before after : NetSeen) (sent owed : List ℕ) (link : LinkSeen) → IsMade before after sent owed → HasLinked host before after link → IsKnown link sent owed
known host before after sent owed link made linked = record {
  begun = subst (λ (w : Option (List Returned)). BeginsEmpty w link.begun) made.closed_are linked.begun;
  taken = taken_is link.taken link.faults before.written after.written made.closed made.others sent made.faulted made.closed_are made.written linked.written;
  left = left_is before.next_input link.left owed made.next linked.input;
}

-- ---- how far it came

pub record HasCome (host : List ℕ) (m : Mirrored) (rounds : ℕ) (link : LinkSeen) : Type 0 where
  pub stage : Stage
  pub there : Point
  pub walks : Walks host m rounds Begun (start_of link) stage there
  pub part : List ℕ
  pub written : Appends there.taken link.taken part

pub none_more : (a b : Option (List ℕ)) → a ≡ b → Appends a b []
none_more None b same = tt
none_more (Some xs) b same = subst (λ (o : Option (List ℕ)). Appends (Some xs) o []) same (sym (append-nil xs))

abbrev pub followed_come : (host : List ℕ) (m : Mirrored) (rounds : ℕ) (link : LinkSeen) (applied : List Applied) (now : Mirrored) → Followed host m rounds (start_of link) link.taken applied now
    → HasCome host m rounds link
followed_come host m rounds link applied now f =
    record { stage = Closed f.known f.listings; there = f.there; walks = f.walks; part = []; written = none_more f.there.taken link.taken f.written }

abbrev pub rounds_come : (host : List ℕ) (m : Mirrored) (rounds : ℕ) (link : LinkSeen) (front line : List ℕ) → HasRounds host m rounds link front line → HasCome host m rounds link
rounds_come host m rounds link front line r =
    record { stage = Holding r.known (r.earlier ++ r.last ∷ []); there = r.there; walks = r.walks; part = []; written = none_more r.there.taken link.taken r.written }

abbrev pub stopped_come : (host : List ℕ) (m : Mirrored) (rounds : ℕ) (link : LinkSeen) (e : FollowError) (now : Mirrored) → StopsFrom host m rounds Begun (start_of link) link.taken e now
    → HasCome host m rounds link
stopped_come host m rounds link e now x =
    let part = part_written x.request (UnexpectedIn m rounds x.stage) x.there link.taken e x.stops in
    record { stage = x.stage; there = x.there; walks = x.walks; part = part.0; written = part.1 }

-- ---- it applied one listing a round at most

abbrev IsFew : ℕ → Stage → Type 0
IsFew rounds Begun = ⊤
IsFew rounds (Learned rows) = ⊤
IsFew rounds (Asking k ls) = length ls < rounds
IsFew rounds (Holding k ls) = length ls ≤ rounds
IsFew rounds (Closed k ls) = length ls ≤ rounds

few_on : (rounds : ℕ) (k : Known) (ls : List Listing) (answer : Reply) (u : Stage) (last : Bool) → (length ls == rounds) ≡ last → length ls ≤ rounds → LeadsOn last k ls answer u → IsFew rounds u
few_on rounds k ls answer u true is few leads = subst (λ (t : Stage). IsFew rounds t) (sym leads.1) few
few_on rounds k ls answer u false is few leads =
    let another : length ls ≢ rounds = eqb-false (length ls) rounds is in
    subst (λ (t : Stage). IsFew rounds t) (sym leads.1) (below (length ls) rounds few another)
  where
    below : (a b : ℕ) → a ≤ b → a ≢ b → a < b
    below a b less another = by_order (cases_lt a b)
      where
        by_order : (a < b) ⊎ (b ≤ a) → a < b
        by_order (inl less') = less'
        by_order (inr more) = absurd (another (omega (arith, less, more)))

few_step : (m : Mirrored) (rounds : ℕ) (t u : Stage) (answer : Reply) → 1 ≤ rounds → IsFew rounds t → Leads m rounds t answer u → IsFew rounds u
few_step m rounds Begun u answer some few leads = subst (λ (t : Stage). IsFew rounds t) (sym leads.2) tt
few_step m rounds (Learned rows) u answer some few leads =
    let less : 0 < rounds = omega (arith, some) in
    subst (λ (t : Stage). IsFew rounds t) (sym leads.2) less
few_step m rounds (Asking k ls) u answer some few leads =
    let more : length (ls ++ leads.0 ∷ []) ≤ rounds = omega (arith, few, length-append ls (leads.0 ∷ [])) in
    subst (λ (t : Stage). IsFew rounds t) (sym leads.2) more
few_step m rounds (Holding k ls) u answer some few leads = few_on rounds k ls answer u (length ls == rounds) refl few leads
few_step m rounds (Closed k ls) u answer some few leads = absurd leads

few_path : (host : List ℕ) (m : Mirrored) (rounds : ℕ) (t u : Stage) (xs : List Exchange) → 1 ≤ rounds → IsFew rounds t → Path host m rounds t xs u → IsFew rounds u
few_path host m rounds t u [] some few path = subst (λ (s : Stage). IsFew rounds s) (sym path) few
few_path host m rounds t u (x ∷ xs) some few path =
    few_path host m rounds path.1.0 u xs some (few_step m rounds t path.1.0 x.answer some few path.1.1) path.1.2

few_in : (rounds : ℕ) (t : Stage) → IsFew rounds t → length (listings_in t) ≤ rounds
few_in rounds Begun few = omega arith
few_in rounds (Learned rows) few = omega arith
few_in rounds (Asking k ls) few = omega (arith, few)
few_in rounds (Holding k ls) few = few
few_in rounds (Closed k ls) few = few

pub few_walked : (host : List ℕ) (m : Mirrored) (rounds : ℕ) (p q : Point) (t : Stage) → 1 ≤ rounds → Walks host m rounds Begun p t q → length (listings_in t) ≤ rounds
few_walked host m rounds p q t some w = few_in rounds t (few_path host m rounds Begun t w.exchanges some tt w.path)

-- ---- no error has the status of a success

link_fails : (e : FollowError) → follow_status (Link e) ≡ 0 → ⊥
link_fails (Refused status) is = omega (arith, is)
link_fails (BadReply at) is = omega (arith, is)
link_fails (Ended at) is = omega (arith, is)
link_fails (not_taken error) is = omega (arith, is)
link_fails (Codes error) is = omega (arith, is)
link_fails LinkFault is = omega (arith, is)
link_fails Memory is = omega (arith, is)

pub faults_fail : (f : Fault FollowFault) → fault_status follow_status f ≡ 0 → ⊥
faults_fail (fault.Own (Query error)) is = omega (arith, is)
faults_fail (fault.Own Meta) is = omega (arith, is)
faults_fail (fault.Own Unreached) is = omega (arith, is)
faults_fail (fault.Own (Link e)) is = link_fails e is
faults_fail fault.Read is = omega (arith, is)
faults_fail fault.Memory is = omega (arith, is)
