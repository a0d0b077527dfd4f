-- After status 0 of `relay` all rounds were made.
use Rattle.std.proofs.Common.{◌≡◌, map, None, refl}
use Rattle.share_crew.specs.Verdicts.{verdict_of}
use Rattle.relay_share.specs.declared.report.RelayEnd.{RelayEnd}
use Rattle.relay_share.specs.declared.report.RelayEnd.TheVariants as end
use Rattle.relay_command.specs.Faults.{crew_fault, end_fault}
use Rattle.relay_command.specs.Laws.{SuccessesMakeAllRounds}
use Rattle.relay_command.proofs.Success.{end_none, other_none}
use Rattle.relay_command.proofs.Unstopped.{runs_are_not_stopped}

end_done : (e : RelayEnd) → end_fault e ≡ None → (e ≡ end.Stopped → ⊥) → e ≡ end.Done
end_done end.Done is going = refl
end_done (end.Row index) is going = absurd (cc)
end_done end.Full is going = absurd (cc)
end_done end.Stopped is going = absurd (going refl)
end_done (end.Peer error) is going = absurd (cc)
end_done end.Memory is going = absurd (cc)

pub successes_make_all_rounds : SuccessesMakeAllRounds
successes_make_all_rounds relaying front net net' output output' left r success =
    let crew = crew_fault (verdict_of (map (λ worker_run. worker_run.end) r.crew)) in
    end_done r.relay.report.end (other_none crew (end_fault r.relay.report.end) (end_none _ _ r.at_line output' left.status r.told success))
    (runs_are_not_stopped relaying front net net' output output' left r)
