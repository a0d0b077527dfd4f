-- Nobody but the relay stops its share.
use Rattle.std.proofs.Common.{◌≡◌, ◌==◌, ◌+◌, ◌||◌, ◌&&◌, ℕ, List, [], ◌∷◌, Bool, true, false, not, true≢false, refl, sym, ap, ◌∙◌, eq-eqb}
use Rattle.std.proofs.lemmas.List.Folds.{list_any-append}
use Rattle.std.specs.List.{list_any}
use Rattle.item_model.specs.declared.changes.Entry.{Entry}
use Rattle.share_history.specs.Sessions.{is_stop}
use Rattle.share_replies.specs.Laws.{maker}
use Rattle.share_crew.proofs.Players.{no_stops}
use Rattle.relay_share.specs.Laws.{is_stop_beside}
use Rattle.relay_share.proofs.LeftFacts.{stopped_relays_saw_a_stop}
use Rattle.relay_command.specs.Laws.{RunsAreNotStopped}
use Rattle.relay_command.proofs.Shown.{MadeAlone, are_players, made_alone}

none_beside : (number : ℕ) (h : List Entry) → MadeAlone is_stop number h → list_any (is_stop_beside number) h ≡ false
none_beside number [] alone = refl
none_beside number (e ∷ h) alone = by_stop (is_stop e) alone.0 (none_beside number h alone.1)
  where
    by_stop : (stops : Bool) → (stops ≡ true → maker e ≡ number) → list_any (is_stop_beside number) h ≡ false
        → ((stops && not (maker e == number)) || list_any (is_stop_beside number) h) ≡ false
    by_stop true own rest = ap (λ (b : Bool). not b || list_any (is_stop_beside number) h) (eq-eqb (maker e) number (own refl)) ∙ rest
    by_stop false own rest = rest

pub runs_are_not_stopped : RunsAreNotStopped
runs_are_not_stopped relaying front net net' output output' left r is =
    let number : ℕ = r.relay.pass.number in
    let seen = stopped_relays_saw_a_stop relaying.upstream relaying.rounds _ r.relay.link.taken _ r.relay.pass r.relay.report refl r.relayed is in
    let other = r.one.other_parts.0 in
    let some : list_any (is_stop_beside number) r.history ≡ true =
    ap (list_any (is_stop_beside number)) other.begins ∙ list_any-append (is_stop_beside number) r.relay.pass.seen other.later
    ∙ ap (λ (b : Bool). b || list_any (is_stop_beside number) other.later) seen in
    let none : list_any (is_stop_beside number) r.history ≡ false =
    none_beside number r.history (made_alone is_stop no_stops (relaying.workers + 1) r.history r.crew r.relay.pass (are_players relaying.workers r.crew r.roles) r.one) in
    true≢false (sym some ∙ none)
