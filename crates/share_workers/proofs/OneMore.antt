-- A worker's connections, with one more after the others.
use Rattle.std.proofs.Common.{◌≡◌, ◌≢◌, ◌⊎◌, ℕ, ◌+◌, ◌-◌, ◌≤◌, ◌<◌, min, List, [], ◌∷◌, ◌++◌, length, get_or, refl, sym, ap, ◌∙◌, subst, inl, inr, Bool, true, false, nat_lt, Option, Some, None, MatchOption, append_assoc, append-nil, length-append, arith}
use Rattle.std.proofs.lemmas.List.Concat.{flat_map-append}
use Rattle.std.proofs.lemmas.List.Elements.{Contains-append_left}
use Rattle.item_model.specs.declared.changes.Entry.{Entry}
use Rattle.outside_net.specs.Places.{Accepts, Returned, returned}
use Rattle.outside_net.specs.Told.{BeginsEmpty, Grows, GrowsByTold}
use Rattle.share_asks.specs.declared.ask.Ask.{Ask}
use Rattle.share_asks.specs.declared.ask.Role.{Role}
use Rattle.share_history.specs.Sessions.{is_stopped}
use Rattle.share_lock.specs.Histories.{entries_of, Continues}
use Rattle.share_lock.specs.Known.{numbers_of, after_turn}
use Rattle.share_replies.specs.Laws.{maker}
use Rattle.share_replies.specs.Settings.{Settings}
use Rattle.share_server.specs.declared.report.LinkReport.{LinkReport}
use Rattle.share_server.specs.declared.report.Served.{Served}
use Rattle.share_server.specs.Links.{LinkEnded}
use Rattle.share_server.specs.Losses.{is_loss, ServesBut}
use Rattle.share_server.specs.Passes.{Pass, Serves}
use Rattle.share_server.proofs.Counting.{none_beyond_the_limit}
use Rattle.share_server.proofs.InTurn.{nothing_but, rises_wider, serves_then_but, but_then_quiet, lost_behind, quiet_turns_serve_nothing}
use Rattle.share_server.specs.Serving.{limit_of, LinkServed, CountsEnd}
use Rattle.share_workers.specs.declared.worker.WorkerEnd.{WorkerEnd}
use Rattle.share_workers.specs.declared.worker.WorkerEnd.TheVariants.{Running, Stopped, Spent, NoMoreLinks, AcceptFault, FileFault, Memory}
use Rattle.share_workers.specs.Works.{all_served, loses_any, IsLostBy, LinkAt, LinksAt, ServesThenSyncs, SyncsAfterLast, Syncs, Came, Works}
use Rattle.share_workers.specs.Ends.{GoesOnToLast, CountsAccepts, EndsWorker, IsWithin, WorkerServed, is_worker_loss}
use Rattle.share_workers.specs.Steps.{LinkDone, Underway, GoesOnOrEnds}
use Rattle.share_workers.proofs.Later.{link_later, links_later}
use Rattle.share_workers.proofs.Losses.{link_loses, loses_more, lost_stops, none_lost}
use Rattle.share_workers.proofs.Telling.{came_more, grown_more, is_over, counted}

-- ---- one connection

pub link_within : (role : Role) (budget : ℕ) (k k' : Pass) (left taken taken' : Option (List ℕ)) (report : LinkReport) → LinkServed role budget k k' left taken taken' report → length report.served ≤ budget
link_within role budget k k' left taken taken' report served =
    let most : length report.served ≤ min budget 65536 = none_beyond_the_limit role (limit_of budget) k k' left taken taken' report.served report.end served.ended in omega arith

pub looked : (k j k' : Pass) (h : List Entry) → j ≡ k → Continues maker (numbers_of k) k.seen h → k' ≡ after_turn j h → Syncs k k'
looked k j k' h same on after = record {
  more = on.more;
  none = λ i d less has. on.later i d less (Contains-append_left (k.number ∷ []) k.taken_in (maker (get_or on.more i d)) has);
  after = after ∙ (ap {A = Pass} {B = Pass} (λ p. after_turn p h) same ∙ ap {A = List Entry} {B = Pass} (λ l. after_turn k l) on.begins);
}

pub link_done : (role : Role) (budget : ℕ) (k j k' : Pass) (left taken taken' : Option (List ℕ)) (written written' : Option (List Returned)) (faults faults' : ℕ) (report : LinkReport)
    → LinkServed role budget k j left taken taken' report → faults ≡ 0 → CountsEnd faults faults' report.end → GrowsByTold written written' (returned taken' faults') → Syncs j k'
    → LinkDone role budget k k' left taken written written' report
link_done role budget k j k' left taken taken' written written' faults faults' report served fresh counts given syncs = record {
  before = j;
  taken' = taken';
  faults = faults';
  served = served;
  counted = subst (λ n. CountsEnd n faults' report.end) fresh counts;
  given_back = given;
  syncs = syncs;
}

-- ---- lists of connections

links_more : (settings : Settings) (by : ℕ) (role : Role) (budget : ℕ) (h : List Entry) (inputs : List (List ℕ)) (reports : List LinkReport) (returns : List Returned) (input : List ℕ) (report : LinkReport) (returned : Returned)
    → LinksAt settings by role budget h inputs reports returns → LinkAt settings by (limit_of (budget - length (all_served reports))) role h input report returned
    → LinksAt settings by role budget h (inputs ++ input ∷ []) (reports ++ report ∷ []) (returns ++ returned ∷ [])
links_more settings by role budget h [] [] [] input report returned links link =
    let all : budget - 0 ≡ budget = omega arith in
    (subst (λ b. LinkAt settings by (limit_of b) role h input report returned) all link, tt)
links_more settings by role budget h [] [] (b ∷ returns) input report returned links link = absurd links
links_more settings by role budget h [] (r ∷ reports) returns input report returned links link = absurd links
links_more settings by role budget h (i ∷ inputs) [] returns input report returned links link = absurd links
links_more settings by role budget h (i ∷ inputs) (r ∷ reports) [] input report returned links link = absurd links
links_more settings by role budget h (i ∷ inputs) (r ∷ reports) (b ∷ returns) input report returned links link = (
  links.0,
  links_more settings by role (budget - length r.served) h inputs reports returns input report returned links.1
      (subst (λ left. LinkAt settings by (limit_of left) role h input report returned) (rest (length r.served) (length (all_served reports)) (length-append r.served (all_served reports))) link),
)
  where
    rest : (first others : ℕ) → length (r.served ++ all_served reports) ≡ first + others → budget - length (r.served ++ all_served reports) ≡ (budget - first) - others
    rest first others is = omega arith

all_served_more : (reports : List LinkReport) (report : LinkReport) → all_served (reports ++ report ∷ []) ≡ all_served reports ++ (report.served ++ [])
all_served_more reports report = flat_map-append (λ (r : LinkReport). r.served) reports (report ∷ [])

count_more : (reports : List LinkReport) (report : LinkReport) → length (all_served (reports ++ report ∷ [])) ≡ length (all_served reports) + length report.served
count_more reports report =
    ap length (all_served_more reports report)
    ∙ (length-append (all_served reports) (report.served ++ []) ∙ ap (λ l. length (all_served reports) + length l) (append-nil report.served))

behind : (k k' : Pass) (reports : List LinkReport) (report : LinkReport) (lost : List Entry) → ServesThenSyncs k k' (all_served (reports ++ report ∷ [])) lost
    → SyncsAfterLast k k' (reports ++ report ∷ []) lost
behind k k' [] report lost serves = serves
behind k k' (r ∷ reports) report lost serves = serves

-- if nothing was lost
syncs_whole : (k k' : Pass) (reports : List LinkReport) (lost : List Entry) → lost ≡ [] → SyncsAfterLast k k' reports lost → SyncsAfterLast k k' reports []
syncs_whole k k' reports lost none syncs = subst (λ (l : List Entry). SyncsAfterLast k k' reports l) none syncs

-- what connections lost after others that lost nothing
lost_by_more : (k j k' : Pass) (asks : List Ask) (earlier served : List Served) (lost : List Entry) (loses : Bool) → Serves k j asks earlier → IsLostBy j k' served loses lost
    → IsLostBy k k' (earlier ++ served) loses lost
lost_by_more k j k' asks earlier served lost true serves is = (is.0, lost_behind k j k' asks earlier served is.0 lost serves is.1)
lost_by_more k j k' asks earlier served lost false serves is = is

-- ---- one connection more

-- what one more connection leaves of a worker
pub record HasOneMore (role : Role) (k k' : Pass) (coming coming' : Option (List (List ℕ))) (written written' : Option (List Returned)) (reports : List LinkReport) (budget : ℕ) (lost : Bool) : Type 0 where
  pub works : Works role k k' coming coming' written written' reports
  pub to_last : GoesOnToLast k k' reports
  pub within : IsWithin reports
  pub left : budget + length (all_served reports) ≡ 262144
  pub loses : loses_any reports ≡ lost

module _ {L : Type 0} (left taken : L → Option (List ℕ)) (link : L) (role : Role) (k j k' : Pass) (coming before now : Option (List (List ℕ))) (written wrote written' : Option (List Returned))
    (reports : List LinkReport) (report : LinkReport) (budget : ℕ) (under : Underway role k j coming before written wrote reports budget)
    (done : LinkDone role budget j k' (left link) (taken link) wrote written' report) where
  ended : LinkEnded role (limit_of budget) j done.before (left link) (taken link) done.taken' report.served report.end
  ended = done.served.ended

  settings_stay : j.settings ≡ k.settings
  settings_stay = ap (λ (p : Pass). p.settings) under.works.serves.stays

  number_stays : j.number ≡ k.number
  number_stays = ap (λ (p : Pass). p.number) under.works.serves.stays

  seen_last : k'.seen ≡ done.before.seen ++ done.syncs.more
  seen_last = ap (λ (p : Pass). p.seen) done.syncs.after

  seen_more : k'.seen ≡ j.seen ++ (ended.serves.fresh.more ++ done.syncs.more)
  seen_more = seen_last ∙ (ap (λ h. h ++ done.syncs.more) ended.serves.fresh.grows ∙ append_assoc j.seen ended.serves.fresh.more done.syncs.more)

  link_at : LinkAt k.settings k.number (limit_of (262144 - length (all_served reports))) role k'.seen ended.input report (ended.output, nat_lt 0 done.faults)
  link_at =
      let left_is : budget ≡ 262144 - length (all_served reports) = let all : budget + length (all_served reports) ≡ 262144 = under.left in omega arith in
      subst (λ b. LinkAt k.settings k.number (limit_of b) role k'.seen ended.input report (ended.output, nat_lt 0 done.faults)) left_is
      (subst (λ n. LinkAt k.settings n (limit_of budget) role k'.seen ended.input report (ended.output, nat_lt 0 done.faults)) number_stays
      (subst (λ s. LinkAt s j.number (limit_of budget) role k'.seen ended.input report (ended.output, nat_lt 0 done.faults)) settings_stay
      (subst (λ h. LinkAt j.settings j.number (limit_of budget) role h ended.input report (ended.output, nat_lt 0 done.faults)) (sym seen_last)
      (link_later j.settings j.number (limit_of budget) done.before.seen done.syncs.more role ended.input report (ended.output, nat_lt 0 done.faults)
      (record {
        at_once = ended.at_once;
        number = done.served.number;
        asks = ended.asks;
        rest = ended.rest;
        joins = ended.joins;
        are_served = ended.serves.are_served;
        rises = rises_wider (length j.seen) 0 (length done.before.seen) (length done.before.seen) report.served (omega arith) (omega arith) ended.serves.fresh.rises;
        how = ended.how;
        faulted = counted done.faults report.end done.counted;
        unlost = done.served.unlost;
      })))))

  links : LinksAt k.settings k.number role 262144 k'.seen (under.works.inputs ++ ended.input ∷ []) (reports ++ report ∷ []) (under.works.returns ++ (ended.output, nat_lt 0 done.faults) ∷ [])
  links =
      links_more k.settings k.number role 262144 k'.seen under.works.inputs reports under.works.returns ended.input report (ended.output, nat_lt 0 done.faults)
      (subst (λ h. LinksAt k.settings k.number role 262144 h under.works.inputs reports under.works.returns) (sym seen_more)
      (links_later k.settings k.number role 262144 j.seen (ended.serves.fresh.more ++ done.syncs.more) under.works.inputs reports under.works.returns under.works.links))
      link_at

  -- nothing was lost before
  none_before : under.works.lost ≡ []
  none_before = none_lost k j (all_served reports) under.works.lost (loses_any reports) under.may.whole under.works.loses

  served_before : Serves k j under.works.asks (all_served reports)
  served_before = nothing_but k j under.works.asks (all_served reports) under.works.lost none_before under.works.serves

  all_of : all_served (reports ++ report ∷ []) ≡ all_served reports ++ report.served
  all_of = all_served_more reports report ∙ ap (λ l. all_served reports ++ l) (append-nil report.served)

  quiet : Serves done.before k' [] []
  quiet = subst (λ p. Serves done.before p [] []) (sym done.syncs.after) (quiet_turns_serve_nothing done.before done.syncs.more done.syncs.none)

  looked_on : ServesBut j k' ended.asks report.served ended.lost
  looked_on = but_then_quiet j done.before k' ended.asks report.served ended.lost ended.serves quiet

  serves : ServesBut k k' (under.works.asks ++ ended.asks) (all_served (reports ++ report ∷ [])) ended.lost
  serves = subst (λ l. ServesBut k k' (under.works.asks ++ ended.asks) l ended.lost) (sym all_of)
      (serves_then_but k j k' under.works.asks ended.asks (all_served reports) report.served ended.lost served_before looked_on)

  syncs : SyncsAfterLast k k' (reports ++ report ∷ []) ended.lost
  syncs = behind k k' reports report ended.lost record {
    asks = under.works.asks ++ ended.asks;
    before = done.before;
    serves = subst (λ l. ServesBut k done.before (under.works.asks ++ ended.asks) l ended.lost) (sym all_of)
        (serves_then_but k j done.before under.works.asks ended.asks (all_served reports) report.served ended.lost served_before ended.serves);
    syncs = done.syncs;
  }

  last_loses : IsLostBy j k' report.served (is_loss report.end) ended.lost
  last_loses = link_loses role ended.input ended.asks j done.before k' report.served ended.lost done.syncs.more (is_loss report.end) ended.loses seen_last

  loses : IsLostBy k k' (all_served (reports ++ report ∷ [])) (loses_any (reports ++ report ∷ [])) ended.lost
  loses = subst (λ b. IsLostBy k k' (all_served (reports ++ report ∷ [])) b ended.lost) (sym (loses_more reports report under.may.whole))
      (subst (λ l. IsLostBy k k' l (is_loss report.end) ended.lost) (sym all_of)
      (lost_by_more k j k' under.works.asks (all_served reports) report.served ended.lost (is_loss report.end) served_before last_loses))

  to_last : GoesOnToLast k k' (reports ++ report ∷ [])
  to_last = record {
    earlier = reports;
    last = report;
    are = refl;
    before = j;
    syncs = syncs_whole k j reports under.works.lost none_before under.works.syncs;
    may = under.may;
    lost = ended.lost;
    serves = record { asks = ended.asks; before = done.before; serves = ended.serves; syncs = done.syncs };
    loses = last_loses;
  }

  served_within : length report.served ≤ limit_of budget
  served_within = none_beyond_the_limit role (limit_of budget) j done.before (left link) (taken link) done.taken' report.served report.end ended

  both_within : (length (reports ++ report ∷ []) ≤ 65536) × (length (all_served (reports ++ report ∷ [])) ≤ 262144)
  both_within =
      let links : length (reports ++ report ∷ []) ≡ length reports + 1 = length-append reports (report ∷ []) in
      let few : length reports < 65536 = under.may.links in
      let all : length (all_served (reports ++ report ∷ [])) ≡ length (all_served reports) + length report.served = count_more reports report in
      let sum : budget + length (all_served reports) ≡ 262144 = under.left in
      let most : length report.served ≤ min budget 65536 = served_within in
      (omega arith, omega arith)

  pub one_more : (budget' : ℕ) (lost : Bool) → Accepts left taken before now (Some link) → BeginsEmpty wrote (taken link) → budget' + length report.served ≡ budget
      → is_loss report.end ≡ lost → HasOneMore role k k' coming now written written' (reports ++ report ∷ []) budget' lost
  one_more budget' lost accepts begins rest is_lost = record {
    works = record {
      inputs = under.works.inputs ++ ended.input ∷ [];
      came = came_more left taken link coming before now under.works.inputs ended.input under.works.came accepts ended.told;
      returns = under.works.returns ++ (ended.output, nat_lt 0 done.faults) ∷ [];
      given_back = grown_more written wrote written' (taken link) done.taken' under.works.returns ended.output done.faults under.works.given_back begins ended.written done.given_back;
      links = links;
      asks = under.works.asks ++ ended.asks;
      lost = ended.lost;
      serves = serves;
      loses = loses;
      syncs = syncs;
    };
    loses = loses_more reports report under.may.whole ∙ is_lost;
    to_last = to_last;
    within = both_within;
    left =
        let all : length (all_served (reports ++ report ∷ [])) ≡ length (all_served reports) + length report.served = count_more reports report in
        let sum : budget + length (all_served reports) ≡ 262144 = under.left in
        omega arith;
  }

-- ---- how a worker continues

pub more_at : {L : Type 0} (left taken : L → Option (List ℕ)) (link : L) (role : Role) (k j k' : Pass) (coming before now now' : Option (List (List ℕ))) (written wrote written' written'' : Option (List Returned))
    (reports reports' : List LinkReport) (report : LinkReport) (budget budget' : ℕ) (lost : Bool) → Underway role k j coming before written wrote reports budget
    → LinkDone role budget j k' (left link) (taken link) wrote written' report → Accepts left taken before now (Some link) → BeginsEmpty wrote (taken link) → budget' + length report.served ≡ budget
    → is_loss report.end ≡ lost → reports' ≡ reports ++ report ∷ [] → now' ≡ now → written'' ≡ written' → HasOneMore role k k' coming now' written written'' reports' budget' lost
more_at left taken link role k j k' coming before now now' written wrote written' written'' reports reports' report budget budget' lost under done accepts begins rest is_lost are links bytes =
    subst (λ l. HasOneMore role k k' coming now' written written'' l budget' lost) (sym are)
    (subst (λ l. HasOneMore role k k' coming l written written'' (reports ++ report ∷ []) budget' lost) (sym links)
    (subst (λ l. HasOneMore role k k' coming now written l (reports ++ report ∷ []) budget' lost) (sym bytes)
    (one_more left taken link role k j k' coming before now written wrote written' reports report budget under done budget' lost accepts begins rest is_lost)))

module _ (role : Role) (k k' : Pass) (coming now : Option (List (List ℕ))) (written written' : Option (List Returned)) (reports : List LinkReport) (budget : ℕ) (lost : Bool)
    (more : HasOneMore role k k' coming now written written' reports budget lost) where
  pub fails : lost ≡ true → GoesOnOrEnds role k k' coming now written written' reports budget (Some FileFault)
  fails some =
      let loses : loses_any reports ≡ true = more.loses ∙ some in
      (more.works, (more.to_last, lost_stops k k' (all_served reports) more.works.lost (loses_any reports) loses more.works.loses, loses), more.within)

  pub stops : lost ≡ false → is_stopped k'.seen ≡ true → GoesOnOrEnds role k k' coming now written written' reports budget (Some Stopped)
  stops none stopped = (more.works, (more.to_last, stopped, more.loses ∙ none), more.within)

  pub spends : lost ≡ false → is_stopped k'.seen ≡ false → (length reports ≡ 65536) ⊎ (budget ≡ 0) → GoesOnOrEnds role k k' coming now written written' reports budget (Some Spent)
  spends none going (inl links) = (more.works, (more.to_last, going, inl links, more.loses ∙ none), more.within)
  spends none going (inr nothing) =
      let sum : budget + length (all_served reports) ≡ 262144 = more.left in
      (more.works, (more.to_last, going, inr (omega arith), more.loses ∙ none), more.within)

  pub goes_on : lost ≡ false → is_stopped k'.seen ≡ false → length reports ≢ 65536 → budget ≢ 0 → GoesOnOrEnds role k k' coming now written written' reports budget None
  goes_on none going links some =
      let sum : budget + length (all_served reports) ≡ 262144 = more.left in
      let few : length reports ≤ 65536 = more.within.0 in
      record {
        works = more.works;
        may = record {
          links = below (length reports) 65536 few links;
          requests = less budget (length (all_served reports)) sum some;
          going = λ any. going;
          whole = more.loses ∙ none;
        };
        left = more.left;
      }
    where
      below : (n most : ℕ) → n ≤ most → n ≢ most → n < most
      below n most le other = omega arith

      less : (a n : ℕ) → a + n ≡ 262144 → a ≢ 0 → n < 262144
      less a n is some = omega arith

-- ---- no connection came

module _ (role : Role) (k j : Pass) (coming before now : Option (List (List ℕ))) (written wrote : Option (List Returned)) (reports : List LinkReport) (budget : ℕ)
    (under : Underway role k j coming before written wrote reports budget) where
  may_within : IsWithin reports
  may_within = let few : length reports < 65536 = under.may.links in let some : length (all_served reports) < 262144 = under.may.requests in (omega arith, omega arith)

  pub none_came : {L : Type 0} (left taken : L → Option (List ℕ)) → Accepts left taken before now None → GoesOnOrEnds role k j coming now written wrote reports budget (Some NoMoreLinks)
  none_came left taken accepts =
      let over = is_over left taken coming before now under.works.inputs under.works.came accepts in (
        record {
          inputs = under.works.inputs;
          came = over.1;
          returns = under.works.returns;
          given_back = under.works.given_back;
          links = under.works.links;
          asks = under.works.asks;
          lost = under.works.lost;
          serves = under.works.serves;
          loses = under.works.loses;
          syncs = under.works.syncs;
        },
        (under.may, over.0),
        may_within,
      )

  pub faulted : now ≡ before → GoesOnOrEnds role k j coming now written wrote reports budget (Some AcceptFault)
  faulted same = subst (λ l. GoesOnOrEnds role k j coming l written wrote reports budget (Some AcceptFault)) (sym same) (under.works, under.may, may_within)

  pub wants_memory : GoesOnOrEnds role k j coming before written wrote reports budget (Some Memory)
  wants_memory = (under.works, under.may, may_within)

-- ---- the begin and the end

-- an edit was lost exactly if the end says so
whole_by : (k k' : Pass) (coming coming' : Option (List (List ℕ))) (reports : List LinkReport) (end : WorkerEnd) → EndsWorker k k' coming coming' reports end
    → loses_any reports ≡ is_worker_loss end
whole_by k k' coming coming' reports Running ends = absurd ends
whole_by k k' coming coming' reports Stopped ends = ends.2
whole_by k k' coming coming' reports NoMoreLinks ends = ends.0.whole
whole_by k k' coming coming' reports Spent ends = ends.3
whole_by k k' coming coming' reports AcceptFault ends = ends.whole
whole_by k k' coming coming' reports FileFault ends = ends.2
whole_by k k' coming coming' reports Memory ends = ends.whole

begins_work : (role : Role) (k : Pass) (coming : Option (List (List ℕ))) (written : Option (List Returned)) → Underway role k k coming coming written written [] 262144
begins_work role k coming written = record {
  works = record {
    inputs = [];
    came = all_left coming;
    returns = [];
    given_back = none_back written;
    links = tt;
    asks = [];
    lost = [];
    serves = serves_nothing k;
    loses = refl;
    syncs = refl;
  };
  may = record { links = omega arith; requests = omega arith; going = λ some. absurd (some refl); whole = refl };
  left = omega arith;
}
  where
    all_left : (coming : Option (List (List ℕ))) → Came coming coming []
    all_left None = tt
    all_left (Some all) = refl

    none_back : (written : Option (List Returned)) → Grows written written []
    none_back None = tt
    none_back (Some all) = sym (append-nil all)

    serves_nothing : (k : Pass) → ServesBut k k [] [] []
    serves_nothing k = record {
      fresh = record { more = []; grows = sym (append-nil k.seen); looks = []; looked = sym (append-nil k.looks); rises = omega arith; among = tt; marked = tt };
      stays = refl;
      are_served = tt;
      own = sym (append-nil (entries_of maker k.number k.seen));
    }

pub begins : (role : Role) (k : Pass) (coming : Option (List (List ℕ))) (written : Option (List Returned)) (reports : List LinkReport) → reports ≡ []
    → Underway role k k coming coming written written reports 262144
begins role k coming written reports none = subst (λ l. Underway role k k coming coming written written l 262144) (sym none) (begins_work role k coming written)

pub moved : (role : Role) (k j : Pass) (coming before : Option (List (List ℕ))) (written wrote wrote' : Option (List Returned)) (reports reports' : List LinkReport) (budget : ℕ) → reports' ≡ reports → wrote' ≡ wrote
    → Underway role k j coming before written wrote reports budget → Underway role k j coming before written wrote' reports' budget
moved role k j coming before written wrote wrote' reports reports' budget are bytes under =
    subst (λ l. Underway role k j coming before written wrote' l budget) (sym are) (subst (λ l. Underway role k j coming before written l reports budget) (sym bytes) under)

pub goes : (role : Role) (k j : Pass) (coming before : Option (List (List ℕ))) (written wrote : Option (List Returned)) (reports : List LinkReport) (budget : ℕ) (end : Option WorkerEnd) → end ≡ None
    → GoesOnOrEnds role k j coming before written wrote reports budget end → Underway role k j coming before written wrote reports budget
goes role k j coming before written wrote reports budget end none on = subst (GoesOnOrEnds role k j coming before written wrote reports budget) none on

pub ends : (role : Role) (k j : Pass) (coming before : Option (List (List ℕ))) (written wrote : Option (List Returned)) (faults faults' faults'' : ℕ) (reports : List LinkReport) (budget : ℕ) (end : Option WorkerEnd) (at : WorkerEnd)
    → end ≡ Some at → faults' ≡ faults → MatchOption end (faults'' ≡ faults') (CountsAccepts faults' faults'') → GoesOnOrEnds role k j coming before written wrote reports budget end
    → WorkerServed role k j coming before written wrote faults faults'' reports at
ends role k j coming before written wrote faults faults' faults'' reports budget end at is same counts on =
    let all : GoesOnOrEnds role k j coming before written wrote reports budget (Some at) = subst (GoesOnOrEnds role k j coming before written wrote reports budget) is on in
    record {
      works = all.0;
      ends = all.1;
      counts = subst (λ n. CountsAccepts n faults'' at) same (subst (λ e. MatchOption e (faults'' ≡ faults') (CountsAccepts faults' faults'')) is counts);
      within = all.2;
      whole = whole_by k j coming before reports at all.1;
    }

pub next_on : (role role' : Role) (k j j' : Pass) (coming before now : Option (List (List ℕ))) (written wrote written' : Option (List Returned)) (reports reports' : List LinkReport) (budget budget' : ℕ) (end : Option WorkerEnd) → role' ≡ role
    → (Underway role' k j coming before written wrote reports budget → GoesOnOrEnds role' k j' coming now written written' reports' budget' end) → Underway role k j coming before written wrote reports budget
    → GoesOnOrEnds role k j' coming now written written' reports' budget' end
next_on role role' k j j' coming before now written wrote written' reports reports' budget budget' end same step under =
    subst (λ r. Underway r k j coming before written wrote reports budget → GoesOnOrEnds r k j' coming now written written' reports' budget' end) same step under

pub count_stays : (faults faults' : ℕ) (end : Option WorkerEnd) → end ≡ None → MatchOption end (faults' ≡ faults) (CountsAccepts faults faults') → faults' ≡ faults
count_stays faults faults' end none counts = subst (λ e. MatchOption e (faults' ≡ faults) (CountsAccepts faults faults')) none counts
