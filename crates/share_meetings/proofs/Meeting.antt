-- What a mirror read on a connection is what its server wrote there, so that it holds what the share has.
use Rattle.std.proofs.Common.{◌≡◌, ◌≤◌, ◌⊎◌, ℕ, List, [], ◌∷◌, ◌++◌, take, length, false, Option, Some, None, refl, sym, ap, ◌∙◌, subst, inl, inr, append_assoc, append-nil, length-append, arith}
use Rattle.std.proofs.lemmas.List.{take_at, take-append-le}
use Rattle.std.specs.Io.KnownBytes.{Appends}
use Rattle.item_model.specs.declared.changes.Entry.{Entry}
use Rattle.item_model.specs.declared.query.Query.{Query}
use Rattle.item_model.specs.declared.request.Meta.{Meta}
use Rattle.item_model.specs.declared.request.Target.{Target}
use Rattle.http_front.proofs.ReadingLaws.{joins_stay}
use Rattle.share_asks.specs.declared.ask.Role.{Role}
use Rattle.share_history.specs.Histories.{batches, revision}
use Rattle.share_history.specs.Listings.{Listing}
use Rattle.share_history.specs.Mirror.{Held, mirror_after, mirrored}
use Rattle.share_replies.specs.Settings.{Settings}
use Rattle.share_server.specs.declared.report.Served.{Served}
use Rattle.share_server.specs.Passes.{Rises}
use Rattle.mirror_core.specs.Mirrored.{Mirrored}
use Rattle.mirror_client.specs.Exchanges.{messages, requests}
use Rattle.mirror_client.specs.Laws.{AreAnswers, NeverFall, last_point}
use Rattle.mirror_client.specs.Points.{Point}
use Rattle.mirror_client.specs.Stages.{Begun, Stage, Walks, listings_in}
use Rattle.mirror_client.specs.Steps.{held_after, with_listings}
use Rattle.mirror_client.proofs.FilterFacts.{caught_up, followers_hold_the_filter}
use Rattle.share_meetings.specs.ServedRuns.{Rise}
use Rattle.share_history.specs.Whole.{IsWhole}
use Rattle.link_commands.proofs.FirstReply.{owed_split}
use Rattle.share_meetings.specs.MirrorLaws.{WalkersHoldTheShare}
use Rattle.share_meetings.specs.Links.{ServedLink}
use Rattle.share_meetings.specs.Mirrors.{AreBehindLogin, BeganWell, CanBeAsked, HoldsLast, HoldsTheShare}
use Rattle.share_meetings.proofs.Prefixes.{IsPrefix, listed_still, prefix_both, prefix_taken, rise_falls, rise_short}
use Rattle.share_meetings.proofs.Sends.{Left, link_sends}
use Rattle.share_meetings.proofs.Standing.{Stands, walk}

-- ---- bytes that are known

all_written : (before now : Option (List ℕ)) (bytes sent : List ℕ) → before ≡ Some [] → now ≡ Some sent → Appends before now bytes → sent ≡ bytes
all_written before now bytes sent nothing is appended =
    subst (λ (o : Option (List ℕ)). Appends (Some []) o bytes) is (subst (λ (o : Option (List ℕ)). Appends o now bytes) nothing appended)

-- what was written on and on was written in part
pub written_before : (before there now : Option (List ℕ)) (bytes part input : List ℕ) → before ≡ Some [] → now ≡ Some input → Appends before there bytes → Appends there now part
    → (there ≡ Some bytes) × (input ≡ bytes ++ part)
written_before before None now bytes part input nothing is first second = absurd (subst (λ (o : Option (List ℕ)). Appends o None bytes) nothing first)
written_before before (Some sent) now bytes part input nothing is first second =
    let same : sent ≡ bytes = subst (λ (o : Option (List ℕ)). Appends o (Some sent) bytes) nothing first in
    (ap (λ (bs : List ℕ). Some bs) same, subst (λ (o : Option (List ℕ)). Appends (Some sent) o part) is second ∙ ap (λ (bs : List ℕ). bs ++ part) same)

-- ---- what the mirror holds

-- a mirror that held what the share had at one history
holds_further : (keep : ℕ) (target : Target) (query : Option Query) (meta : Meta) (h : List Entry) (hs : List (List Entry)) (ls : List Listing) (held : Held)
    → held ≡ mirrored (batches h) target query meta → NeverFall h hs → AreAnswers keep target query meta (revision (batches h)) hs ls
    → held_after held ls ≡ mirrored (batches (last_point h hs)) target query meta
holds_further keep target query meta h [] [] held holds fall are = holds
holds_further keep target query meta h [] (l ∷ ls) held holds fall are = absurd are
holds_further keep target query meta h (k ∷ hs) [] held holds fall are = absurd are
holds_further keep target query meta h (k ∷ hs) (l ∷ ls) held holds fall are =
    holds_further keep target query meta k hs ls (mirror_after held l) (caught_up keep target query meta h fall.0.0 k held l fall.0.1 holds are.0) fall.1 are.1

-- The history at which a mirror begins: the empty one if it is new.
record Starts (m : Mirrored) (h : List Entry) (served : List Served) : Type 0 where
  start : List Entry
  begins : IsPrefix start h
  since : Rises (length start) served (length h)
  least : m.held.revision ≤ revision (batches start)
  held : (m.held.revision ≡ 0) ⊎ (m.held ≡ mirrored (batches start) m.target m.query m.meta)

starts : (m : Mirrored) (h : List Entry) (served : List Served) → Rises 0 served (length h) → BeganWell m h served → Starts m h served
starts m h served rises (inl zero) = record { start = []; begins = (h, refl); since = rises; least = omega (arith, zero); held = inl zero }
starts m h served rises (inr before) =
    let same : m.held.revision ≡ revision (batches before.front) = ap (λ (x : Held). x.revision) before.holds in
    record { start = before.front; begins = (before.later, before.begins); since = before.since; least = omega (arith, same); held = inr before.holds }

holds_last : (s : Settings) (h : List Entry) (m now : Mirrored) (ls : List Listing) (start : List Entry) (points : List (List Entry))
    → (m.held.revision ≡ 0) ⊎ (m.held ≡ mirrored (batches start) m.target m.query m.meta) → now.held ≡ held_after m.held ls → Rise (start ∷ points) h
    → AreAnswers s.keep m.target m.query m.meta m.held.revision points ls → HoldsLast m points now
holds_last s h m now [] start [] held holds rise are = holds
holds_last s h m now (l ∷ ls) start [] held holds rise are = absurd are
holds_last s h m now ls start (p ∷ points) (inl zero) holds rise are =
    holds
    ∙ followers_hold_the_filter s.keep m.target m.query m.meta m.held p points ls (rise_falls p points h rise.1)
    (subst (λ (base : ℕ). AreAnswers s.keep m.target m.query m.meta base (p ∷ points) ls) zero are)
holds_last s h m now ls start (p ∷ points) (inr held) holds rise are =
    holds
    ∙ holds_further s.keep m.target m.query m.meta start (p ∷ points) ls m.held held (rise_falls start (p ∷ points) h rise)
    (subst (λ (base : ℕ). AreAnswers s.keep m.target m.query m.meta base (p ∷ points) ls) (ap (λ (x : Held). x.revision) held) are)

-- a server that has more to read serves the same requests first
longer : (s : Settings) (by limit : ℕ) (role : Role) (h : List Entry) (reports : List Served) (low n : ℕ) (input lost bytes : List ℕ)
    → Left s by limit role h reports false low n input bytes → Left s by limit role h reports false low n (input ++ lost) bytes
longer s by limit role h reports low n input lost bytes left = record {
  asks = left.asks;
  rest = left.rest ++ lost;
  served = left.served;
  tail = left.tail;
  joins = joins_stay role input lost left.asks left.rest left.joins;
  are_served = left.are_served;
  rises = left.rises;
  among = left.among;
  front = left.front;
  others = left.others;
  there = left.there;
  count = left.count;
  whole = left.whole;
  nothing = left.nothing;
  complete = λ e. absurd (cc e);
}

-- the history may have grown since
behind_still : (by : ℕ) (h later : List Entry) (served : List Served) (points : List (List Entry)) → AreBehindLogin by h served points → AreBehindLogin by (h ++ later) served points
behind_still by h later served [] are = tt
behind_still by h later served (p ∷ points) b =
    let within = b.within in
    let same : take b.login.point (h ++ later) ≡ take b.login.point h = take-append-le b.login.point h later within in
    record {
      login = b.login;
      is_report = b.is_report;
      within = omega (arith, within, length-append h later);
      added = b.added;
      session = b.session;
      before = b.before;
      entered = same ∙ b.entered;
      since = b.since;
      begins = b.begins ∙ ap (λ (x : List Entry). x ++ b.since) (sym same);
    }

module _ (host : List ℕ) (m : Mirrored) (rounds : ℕ) (s : Settings) (by limit : ℕ) (role : Role) (h later : List Entry) where
  shown : (served : List Served) (start : List Entry) (t : Stage) (input bytes : List ℕ) (now : Mirrored) → Stands host m rounds s by limit role h served start false t input bytes
      → (m.held.revision ≡ 0) ⊎ (m.held ≡ mirrored (batches start) m.target m.query m.meta) → now.held ≡ held_after m.held (listings_in t)
      → HoldsTheShare s by (h ++ later) served m (listings_in t) now
  shown served start t input bytes now st held holds =
      let further : IsPrefix (take st.low h) (h ++ later) = prefix_both (take st.low h) h (h ++ later) (prefix_taken st.low h) (later, refl) in
      let rise : Rise (start ∷ st.points) (h ++ later) = rise_short (start ∷ st.points) (take st.low h) h (h ++ later) further st.rise in
      record {
        points = st.points;
        rise = rise.1;
        listed = listed_still h later served 2 st.points st.listed;
        behind = behind_still by h later served st.points st.behind;
        new = st.new;
        answers = st.answers;
        holds = holds_last s (h ++ later) m now (listings_in t) start st.points held holds rise st.answers;
      }

  begins : (served : List Served) (x : Starts m h served) (input bytes : List ℕ) → Left s by limit role h served false (length x.start) 1 input bytes
      → Stands host m rounds s by limit role h served x.start false Begun input bytes
  begins served x input bytes left =
      let same : take (length x.start) h ≡ x.start = ap (take (length x.start)) x.begins.1 ∙ take_at x.start x.begins.0 (length x.start) refl in
      let least = x.least in
      record {
        low = length x.start;
        n = 1;
        left = left;
        count = refl;
        knows = tt;
        least = subst (λ (p : List Entry). m.held.revision ≤ revision (batches p)) (sym same) least;
        points = [];
        rise = (([], same ∙ sym (append-nil x.start)), (prefix_taken (length x.start) h, tt));
        listed = tt;
        behind = tt;
        new = tt;
        has_new = tt;
        answers = tt;
        base = refl;
      }

  -- After these requests and some bytes more. The server read a prefix of what was written, and the mirror had a prefix
  -- of the output to read.
  walked_from : (p : Point) (t : Stage) (there : Point) (part input lost output owed dropped : List ℕ) (now : Mirrored) (w : Walks host m rounds Begun p t there)
      → (link : ServedLink s by limit role h input output) → Starts m h link.served → CanBeAsked host m → IsWhole h → p.owed ≡ Some owed → requests w.exchanges ++ part ≡ input ++ lost
      → output ≡ owed ++ dropped → now.held ≡ held_after m.held (listings_in t) → HoldsTheShare s by (h ++ later) link.served m (listings_in t) now
  walked_from p t there part input lost output owed dropped now w link x can whole is_owed reached answered holds =
      let sends = link_sends s by limit role h input output link (length x.start) x.since in
      let left = longer s by limit role h link.served (length x.start) 1 input lost (output ++ sends.0) sends.1 in
      let read = owed_split p.owed there.owed owed (messages w.exchanges) is_owed w.went.read in
      let bytes : output ++ sends.0 ≡ messages w.exchanges ++ (read.0 ++ (dropped ++ sends.0)) =
      ap (λ (bs : List ℕ). bs ++ sends.0) (answered ∙ ap (λ (bs : List ℕ). bs ++ dropped) read.1)
      ∙ append_assoc (messages w.exchanges ++ read.0) dropped sends.0 ∙ append_assoc (messages w.exchanges) read.0 (dropped ++ sends.0) in
      shown link.served x.start t part (read.0 ++ (dropped ++ sends.0)) now
      (walk host m rounds s by limit role h link.served x.start false whole can Begun t w.exchanges part (output ++ sends.0) (read.0 ++ (dropped ++ sends.0))
      (begins link.served x (requests w.exchanges ++ part) (output ++ sends.0)
      (subst (λ (bs : List ℕ). Left s by limit role h link.served false (length x.start) 1 bs (output ++ sends.0)) (sym reached) left)) w.path w.went.answered bytes)
      x.held holds

pub walkers_hold_the_share : WalkersHoldTheShare
walkers_hold_the_share host m rounds p t there s by limit role h later sent part input lost output owed dropped w link began can whole nothing is is_owed reached answered =
    let same = all_written p.taken there.taken (requests w.exchanges) sent nothing is w.went.written in
    walked_from host m rounds s by limit role h later p t there part input lost output owed dropped (with_listings m (listings_in t)) w link (starts m h link.served link.rises began) can whole is_owed
    (ap (λ (bs : List ℕ). bs ++ part) (sym same) ∙ reached) answered refl
