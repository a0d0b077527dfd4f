-- Players change nothing: none of the entries of a worker that serves them is an edit, or a stop.
use Rattle.std.proofs.Common.{◌≡◌, ◌⊎◌, ◌==◌, ◌||◌, ◌≤◌, ◌-◌, ℕ, suc, Bool, true, false, cond, List, [], ◌∷◌, ◌++◌, get_or, length, Option, refl, sym, subst, ap, ◌∙◌, inl, inr, arith, append_assoc, append-nil, eq-eqb}
use Rattle.std.proofs.lemmas.Bool.{or_parts}
use Rattle.std.proofs.lemmas.List.Elements.{All-nil, All-cons, All-append}
use Rattle.std.specs.List.{AllByRecursion, list_any}
use Rattle.std.specs.Prelude.{All, Contains}
use Rattle.outside_net.specs.Places.{Returned}
use Rattle.item_model.specs.declared.changes.Entry.{Entry}
use Rattle.http_front.specs.Readings.{Joins}
use Rattle.share_asks.specs.declared.ask.Ask.{Ask}
use Rattle.share_asks.specs.declared.ask.Role.{Role}
use Rattle.share_asks.specs.declared.ask.Role.TheVariants as role
use Rattle.share_history.specs.Sessions.{is_stop}
use Rattle.share_lock.specs.Histories.{entries_of}
use Rattle.share_lock.proofs.Fronts.{all_rest}
use Rattle.share_replies.specs.Settings.{Settings}
use Rattle.share_replies.specs.Laws.{is_edit, maker}
use Rattle.share_server.specs.declared.report.LinkReport.{LinkReport}
use Rattle.share_server.specs.declared.report.Served.{Served}
use Rattle.share_server.specs.Passes.{Pass}
use Rattle.share_server.specs.Served.{AreServed, added_entries, added_part, at_point}
use Rattle.share_server.proofs.Listening.{any_neither, players_change_nothing}
use Rattle.share_workers.specs.Ends.{is_worker_loss}
use Rattle.share_workers.specs.Works.{IsLostBy, LinksAt, Works, all_served, loses_any}
use Rattle.share_crew.specs.WorkerRuns.{WorkerRun, IsPart, numbers_of_all, passes_in}
use Rattle.share_crew.proofs.Numbers.{contains_head, head_or_tail}
use Rattle.share_crew.proofs.OneHistory.{none_of_opening}

-- ---- what players add

-- players add no entry of this kind
abbrev pub IsNoPlayers : (Entry → Bool) → Type 0
IsNoPlayers kind =
    (input : List ℕ) (asks : List Ask) (rest : List ℕ) (settings : Settings) (by : ℕ) (h : List Entry) (served : List Served) → Joins role.Listen input asks rest
    → AreServed settings by h asks served → list_any kind (added_entries h served) ≡ false

pub no_edits : IsNoPlayers is_edit
no_edits input asks rest settings by h served joins are = (players_change_nothing input asks rest settings by h served joins are).0

pub no_stops : IsNoPlayers is_stop
no_stops input asks rest settings by h served joins are = (players_change_nothing input asks rest settings by h served joins are).1

added_joined : (h : List Entry) (served more : List Served) → added_entries h (served ++ more) ≡ added_entries h served ++ added_entries h more
added_joined h [] more = refl
added_joined h (s ∷ served) more =
    ap (λ l. added_part s.added (at_point h s) ++ l) (added_joined h served more) ∙ sym (append_assoc (added_part s.added (at_point h s)) (added_entries h served) (added_entries h more))

quiet_links : (kind : Entry → Bool) → IsNoPlayers kind → (settings : Settings) (by budget : ℕ) (h : List Entry) (inputs : List (List ℕ)) (reports : List LinkReport) (returns : List Returned)
    → LinksAt settings by role.Listen budget h inputs reports returns → list_any kind (added_entries h (all_served reports)) ≡ false
quiet_links kind none settings by budget h [] [] [] links = refl
quiet_links kind none settings by budget h [] [] (returned ∷ returns) links = refl
quiet_links kind none settings by budget h [] (report ∷ reports) returns links = absurd links
quiet_links kind none settings by budget h (input ∷ inputs) [] returns links = refl
quiet_links kind none settings by budget h (input ∷ inputs) (report ∷ reports) [] links = absurd links
quiet_links kind none settings by budget h (input ∷ inputs) (report ∷ reports) (returned ∷ returns) links =
    let one = none input links.0.asks links.0.rest settings by h report.served links.0.joins links.0.are_served in
    let rest = quiet_links kind none settings by (budget - length report.served) h inputs reports returns links.1 in
    ap (list_any kind) (added_joined h report.served (all_served reports)) ∙ any_neither kind (added_entries h report.served) (added_entries h (all_served reports)) one rest

-- if the entries of a number have no edit, no entry with that number is an edit
abbrev pub IsQuiet : ℕ → Entry → Type 0
IsQuiet n e = maker e ≡ n → is_edit e ≡ false

-- the same of entries of any kind
abbrev pub IsQuietIn : (Entry → Bool) → ℕ → Entry → Type 0
IsQuietIn kind n e = maker e ≡ n → kind e ≡ false

quiet_all : (kind : Entry → Bool) (n : ℕ) (es : List Entry) → list_any kind (entries_of maker n es) ≡ false → All (IsQuietIn kind n) es
quiet_all kind n [] none = All-nil (IsQuietIn kind n)
quiet_all kind n (e ∷ es) none =
    All-cons (IsQuietIn kind n) e es (λ is. head (maker e == n) (eq-eqb (maker e) n is) none) (quiet_all kind n es (tail (maker e == n) none))
  where
    head : (b : Bool) → b ≡ true → list_any kind (cond b (e ∷ entries_of maker n es) (entries_of maker n es)) ≡ false → kind e ≡ false
    head true is none = (or_parts (kind e) (list_any kind (entries_of maker n es)) none).0
    head false is none = absurd (cc)

    tail : (b : Bool) → list_any kind (cond b (e ∷ entries_of maker n es) (entries_of maker n es)) ≡ false → list_any kind (entries_of maker n es) ≡ false
    tail true none = (or_parts (kind e) (list_any kind (entries_of maker n es)) none).1
    tail false none = none

no_loss : (k k' : Pass) (served : List Served) (loses : Bool) (lost : List Entry) → loses ≡ false → IsLostBy k k' served loses lost → lost ≡ []
no_loss k k' served true lost is by = absurd (cc)
no_loss k k' served false lost is by = by

-- a player loses no edit
unlost_links : (settings : Settings) (by budget : ℕ) (h : List Entry) (inputs : List (List ℕ)) (reports : List LinkReport) (returns : List Returned) (r : Role)
    → r ≡ role.Listen → LinksAt settings by r budget h inputs reports returns → loses_any reports ≡ false
unlost_links settings by budget h inputs [] returns r is links = refl
unlost_links settings by budget h [] (report ∷ reports) returns r is links = absurd links
unlost_links settings by budget h (input ∷ inputs) (report ∷ reports) [] r is links = absurd links
unlost_links settings by budget h (input ∷ inputs) (report ∷ reports) (returned ∷ returns) r is links =
    ap (λ b. b || loses_any reports) (links.0.unlost is) ∙ unlost_links settings by (budget - length report.served) h inputs reports returns r is links.1

module _ {settings : Settings} {opened : List Entry} where
  pub players_lose_nothing : (worker_run : WorkerRun settings opened) → worker_run.role ≡ role.Listen → is_worker_loss worker_run.end ≡ false
  players_lose_nothing worker_run is =
      let works = worker_run.served.works in
      sym worker_run.served.whole
      ∙ unlost_links settings worker_run.pass.number 262144 worker_run.pass.seen works.inputs worker_run.reports works.returns worker_run.role is works.links

  quiet_works : (kind : Entry → Bool) → IsNoPlayers kind → (number : ℕ) (k' : Pass) (to_come left : Option (List (List ℕ))) (begun written : Option (List Returned)) (reports : List LinkReport)
      (r : Role) → r ≡ role.Listen
      → (works : Works r (record { settings = settings; number = number; taken_in = []; seen = opened; looks = []; is_over = false }) k' to_come left begun written reports)
      → list_any kind (added_entries k'.seen (all_served reports)) ≡ false
  quiet_works kind none number k' to_come left begun written reports r is works =
      quiet_links kind none settings number 262144 k'.seen works.inputs reports works.returns
      (subst (λ (q : Role). LinksAt settings number q 262144 k'.seen works.inputs reports works.returns) is works.links)

  -- a player made no entry of the kind in a history
  player_is_quiet : (kind : Entry → Bool) → IsNoPlayers kind → (history : List Entry) (worker_run : WorkerRun settings opened) → worker_run.role ≡ role.Listen → is_worker_loss worker_run.end ≡ false
      → 1 ≤ worker_run.pass.number → All (λ e. maker e ≡ 0) opened → IsPart history worker_run → All (IsQuietIn kind worker_run.pass.number) history
  player_is_quiet kind none history worker_run listens whole some first part =
      let n = worker_run.pass.number in
      let works = worker_run.served.works in
      let lost : works.lost ≡ [] = no_loss _ worker_run.pass (all_served worker_run.reports) (loses_any worker_run.reports) works.lost (worker_run.served.whole ∙ whole) works.loses in
      let own : entries_of maker n worker_run.pass.seen ≡ added_entries worker_run.pass.seen (all_served worker_run.reports) =
      works.serves.own
      ∙ ap (λ l. l ++ (added_entries worker_run.pass.seen (all_served worker_run.reports) ++ works.lost)) (none_of_opening n opened some first)
      ∙ ap (λ l. added_entries worker_run.pass.seen (all_served worker_run.reports) ++ l) lost
      ∙ append-nil (added_entries worker_run.pass.seen (all_served worker_run.reports)) in
      let quiet = quiet_works kind none n worker_run.pass worker_run.to_come worker_run.left worker_run.begun worker_run.written worker_run.reports worker_run.role listens works in
      subst (All (IsQuietIn kind n)) (sym part.begins)
      (All-append (IsQuietIn kind n) worker_run.pass.seen part.later (quiet_all kind n worker_run.pass.seen (ap (list_any kind) own ∙ quiet))
      (λ i d less is. absurd (part.none i d less (subst (λ m. Contains (n ∷ []) m) (sym is) (contains_head n [])))))

  -- all of them are players who lost nothing
  abbrev pub ArePlayers : List (WorkerRun settings opened) → Type 0
  ArePlayers players = AllByRecursion (λ s. (s.role ≡ role.Listen) × (is_worker_loss s.end ≡ false)) players

  pub quiet_players_in : (kind : Entry → Bool) → IsNoPlayers kind → (history behind : List Entry) (players others : List (WorkerRun settings opened)) (beside : List Pass) (most : ℕ)
      → ArePlayers players → AllByRecursion (IsPart history) (players ++ others)
      → AllByRecursion (λ n. (1 ≤ n) × (n ≤ most)) (numbers_of_all (passes_in (players ++ others) ++ beside)) → All (λ e. maker e ≡ 0) opened → history ≡ opened ++ behind
      → AllByRecursion (λ s. All (IsQuietIn kind s.pass.number) behind) players
  quiet_players_in kind none history behind [] others beside most are parts numbered first begins = tt
  quiet_players_in kind none history behind (s ∷ players) others beside most are parts numbered first begins = (
    all_rest (IsQuietIn kind s.pass.number) opened behind
        (subst (All (IsQuietIn kind s.pass.number)) begins (player_is_quiet kind none history s are.0.0 are.0.1 numbered.0.0 first parts.0)),
    quiet_players_in kind none history behind players others beside most are.1 parts.1 numbered.1 first begins,
  )

  -- an entry of the kind is of no player's number
  pub by_another_in : (kind : Entry → Bool) (e : Entry) (players others : List (WorkerRun settings opened)) (beside : List Pass) → kind e ≡ true
      → AllByRecursion (λ s. IsQuietIn kind s.pass.number e) players → Contains (numbers_of_all (passes_in (players ++ others) ++ beside)) (maker e)
      → Contains (numbers_of_all (passes_in others ++ beside)) (maker e)
  by_another_in kind e [] others beside is quiet has = has
  by_another_in kind e (s ∷ players) others beside is quiet has =
      at (λ there. by_another_in kind e players others beside is quiet.1 there)
      (head_or_tail (maker e) s.pass.number (numbers_of_all (passes_in (players ++ others) ++ beside)) has)
    where
      at : (Contains (numbers_of_all (passes_in (players ++ others) ++ beside)) (maker e) → Contains (numbers_of_all (passes_in others ++ beside)) (maker e))
          → (maker e ≡ s.pass.number) ⊎ Contains (numbers_of_all (passes_in (players ++ others) ++ beside)) (maker e)
          → Contains (numbers_of_all (passes_in others ++ beside)) (maker e)
      at rest (inl same) = absurd (let n = quiet.0 same in let f : true ≡ false = sym is ∙ n in cc)
      at rest (inr there) = rest there

  pub each_at_in : (kind : Entry → Bool) (behind : List Entry) (i : ℕ) (d : Entry) (players : List (WorkerRun settings opened)) → suc i ≤ length behind
      → AllByRecursion (λ s. All (IsQuietIn kind s.pass.number) behind) players → AllByRecursion (λ s. IsQuietIn kind s.pass.number (get_or behind i d)) players
  each_at_in kind behind i d [] less all = tt
  each_at_in kind behind i d (s ∷ players) less all = (all.0 i d less, each_at_in kind behind i d players less all.1)

  -- ---- the same of edits

  pub quiet_players : (history behind : List Entry) (players others : List (WorkerRun settings opened)) (beside : List Pass) (most : ℕ) → ArePlayers players
      → AllByRecursion (IsPart history) (players ++ others) → AllByRecursion (λ n. (1 ≤ n) × (n ≤ most)) (numbers_of_all (passes_in (players ++ others) ++ beside))
      → All (λ e. maker e ≡ 0) opened → history ≡ opened ++ behind → AllByRecursion (λ s. All (IsQuiet s.pass.number) behind) players
  quiet_players = quiet_players_in is_edit no_edits

  pub by_another : (e : Entry) (players others : List (WorkerRun settings opened)) (beside : List Pass) → is_edit e ≡ true → AllByRecursion (λ s. IsQuiet s.pass.number e) players
      → Contains (numbers_of_all (passes_in (players ++ others) ++ beside)) (maker e) → Contains (numbers_of_all (passes_in others ++ beside)) (maker e)
  by_another = by_another_in is_edit

  pub each_at : (behind : List Entry) (i : ℕ) (d : Entry) (players : List (WorkerRun settings opened)) → suc i ≤ length behind → AllByRecursion (λ s. All (IsQuiet s.pass.number) behind) players
      → AllByRecursion (λ s. IsQuiet s.pass.number (get_or behind i d)) players
  each_at = each_at_in is_edit
