-- What the players of a relay can see.
use Rattle.std.proofs.Common.{◌≡◌, ◌⊎◌, ◌+◌, ◌≤◌, ℕ, zero, suc, Bool, List, [], ◌∷◌, ◌++◌, get_or, length, map, replicate, true, refl, sym, subst, inl, inr, arith, append-nil}
use Rattle.std.proofs.lemmas.List.Elements.{All-nil}
use Rattle.std.specs.List.{AllByRecursion}
use Rattle.std.specs.Prelude.{Contains}
use Rattle.item_model.specs.declared.changes.Entry.{Entry}
use Rattle.share_asks.specs.declared.ask.Role.TheVariants as role
use Rattle.share_replies.specs.Settings.{Settings}
use Rattle.share_replies.specs.Laws.{is_edit, maker}
use Rattle.share_server.specs.Passes.{Pass}
use Rattle.share_crew.specs.WorkerRuns.{WorkerRun, IsHistoryOf, IsPart, numbers_of_all, passes_in}
use Rattle.share_crew.proofs.Numbers.{head_or_tail}
use Rattle.share_crew.proofs.Players.{ArePlayers, IsNoPlayers, IsQuietIn, by_another_in, each_at_in, no_edits, players_lose_nothing, quiet_players_in}
use Rattle.relay_share.proofs.LeftFacts.{relays_leave_steps, relays_show_what_they_read, shares_make_steps}
use Rattle.relay_command.specs.Laws.{RunsShowWhatTheyRead}

-- each entry of the kind is of this number
abbrev pub MadeAlone : (Entry → Bool) → ℕ → List Entry → Type 0
MadeAlone kind number h = AllByRecursion (λ e. kind e ≡ true → maker e ≡ number) h

each_alone : (kind : Entry → Bool) (number : ℕ) (h : List Entry) → ((i : ℕ) (d : Entry) → suc i ≤ length h → kind (get_or h i d) ≡ true → maker (get_or h i d) ≡ number)
    → MadeAlone kind number h
each_alone kind number [] each = tt
each_alone kind number (e ∷ h) each = (each 0 e (omega arith), each_alone kind number h (λ i d less. each (suc i) d (omega (arith, less))))

module _ {settings : Settings} where
  pub are_players : (n : ℕ) (crew : List (WorkerRun settings [])) → map (λ worker_run. worker_run.role) crew ≡ replicate n role.Listen → ArePlayers crew
  are_players n [] are = tt
  are_players zero (s ∷ crew) are = absurd (cc)
  are_players (suc n) (s ∷ crew) are =
      let one : s.role ≡ role.Listen = cc in
      let more : map (λ worker_run. worker_run.role) crew ≡ replicate n role.Listen = cc in
      ((one, players_lose_nothing s one), are_players n crew more)

  -- an entry of a kind that players do not add is of the relay's number
  by_relay : (kind : Entry → Bool) (e : Entry) (crew : List (WorkerRun settings [])) (relay : Pass) → kind e ≡ true → AllByRecursion (λ s. IsQuietIn kind s.pass.number e) crew
      → Contains (numbers_of_all (passes_in crew ++ relay ∷ [])) (maker e) → maker e ≡ relay.number
  by_relay kind e crew relay is quiet has =
      at
      (head_or_tail (maker e) relay.number []
      (by_another_in kind e crew [] (relay ∷ []) is quiet
      (subst (λ (worker_runs : List (WorkerRun settings [])). Contains (numbers_of_all (passes_in worker_runs ++ relay ∷ [])) (maker e)) (sym (append-nil crew)) has)))
    where
      at : (maker e ≡ relay.number) ⊎ Contains [] (maker e) → maker e ≡ relay.number
      at (inl same) = same
      at (inr none) = let h = none.1 in absurd (omega arith)

  pub made_alone : (kind : Entry → Bool) → IsNoPlayers kind → (passes : ℕ) (history : List Entry) (crew : List (WorkerRun settings [])) (relay : Pass) → ArePlayers crew
      → IsHistoryOf passes history crew (relay ∷ []) → MadeAlone kind relay.number history
  made_alone kind none passes history crew relay are one =
      let parts : AllByRecursion (IsPart history) (crew ++ []) =
      subst (λ (worker_runs : List (WorkerRun settings [])). AllByRecursion (IsPart history) worker_runs) (sym (append-nil crew)) one.parts in
      let numbered : AllByRecursion (λ n. (1 ≤ n) × (n ≤ passes)) (numbers_of_all (passes_in (crew ++ []) ++ relay ∷ [])) =
      subst (λ (worker_runs : List (WorkerRun settings [])). AllByRecursion (λ n. (1 ≤ n) × (n ≤ passes)) (numbers_of_all (passes_in worker_runs ++ relay ∷ []))) (sym (append-nil crew)) one.numbered in
      let quiet = quiet_players_in kind none history one.later crew [] (relay ∷ []) passes are parts numbered (All-nil (λ e. maker e ≡ 0)) one.begins in
      subst (MadeAlone kind relay.number) (sym one.begins)
      (each_alone kind relay.number one.later
      (λ i d less is. by_relay kind (get_or one.later i d) crew relay is (each_at_in kind one.later i d crew less quiet) (one.made i d less)))

pub runs_show_what_they_read : RunsShowWhatTheyRead
runs_show_what_they_read relaying front net net' output output' left r =
    let x = relays_leave_steps relaying.upstream relaying.rounds _ r.relay.link.taken _ r.relay.pass r.relay.report refl r.relayed in
    let own = r.one.other_parts.0.own in
    let alone = made_alone is_edit no_edits (relaying.workers + 1) r.history r.crew r.relay.pass (are_players relaying.workers r.crew r.roles) r.one in (
      x,
      shares_make_steps relaying.upstream relaying.rounds _ r.relay.link.taken r.relay.pass r.history x own alone,
      λ first middle rest is. relays_show_what_they_read relaying.upstream relaying.rounds _ r.relay.link.taken r.relay.pass r.history first middle rest x own alone is,
    )
