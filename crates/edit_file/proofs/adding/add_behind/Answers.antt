-- The closing byte stays until what follows it is safe.
use Rattle.std.proofs.Common.{rules, ◌≡◌, ℕ, ◌+◌, List, [], ◌∷◌, ◌++◌, length, ap, ◌∙◌, option_map, Some, append_assoc, length-append, arith}
use Rattle.outside_disks.specs.Disks.{overlaid, Torn}
use Rattle.edit_file.specs.Adding.{IsClosedOrFramed}
use Rattle.edit_file.proofs.Behind.{behind_closed, at_closing, overlaid_end}
use Rattle.edit_file.proofs.Moments.{run_does, run_goes_on, held_follows, now_held}
use Rattle.edit_file.proofs.adding.add_behind.Goals as goal

pub returns-in_err-write_safely-clause-crash : goal.returns-in_err-write_safely-clause-crash
returns-in_err-write_safely-clause-crash g c front shut place held =
    run_does g.D.Disk g.met.D.Disk.now_alone _ _ _ (IsClosedOrFramed front shut c.args.frame.now) c.write_safely.ensures.does
    (λ image follows. behind_closed front shut c.args.closing (length c.args.frame.now) c.args.frame.now image place (held_follows g.D.Disk (Torn (c.args.closing + 1) (length c.args.frame.now)) _ (front ++ shut ∷ []) image held follows))

pub returns-clause-crash : goal.returns-clause-crash
returns-clause-crash g c front shut place held =
    let first = run_does g.D.Disk g.met.D.Disk.now_alone _ _ _ (IsClosedOrFramed front shut c.args.frame.now) c.write_safely.ensures.does
    (λ image follows. behind_closed front shut c.args.closing (length c.args.frame.now) c.args.frame.now image place (held_follows g.D.Disk (Torn (c.args.closing + 1) (length c.args.frame.now)) _ (front ++ shut ∷ []) image held follows)) in
    let bytes : g.D.Disk.bytes c.write_safely.new.disk ≡ Some (front ++ shut ∷ c.args.frame.now) =
    c.in_ok-write_safely.ensures.written
    ∙ ap (λ b. option_map (λ l. overlaid l (c.args.closing + 1) c.args.frame.now) b) held.told
    ∙ ap (λ (l : List ℕ). Some l)
    (overlaid_end (front ++ shut ∷ []) c.args.frame.now (c.args.closing + 1) (omega (arith, place, length-append front (shut ∷ []))) ∙ append_assoc front (shut ∷ []) c.args.frame.now) in
    let mid = now_held g.D.Disk _ (front ++ shut ∷ c.args.frame.now) bytes c.in_ok-write_safely.ensures.safe in
    run_goes_on g.D.Disk g.met.D.Disk.now_alone _ _ _ _ (IsClosedOrFramed front shut c.args.frame.now) first c.write_safely-2.ensures.does
    (λ image follows. at_closing front shut c.args.closing c.args.frame.now image place (held_follows g.D.Disk (Torn c.args.closing 1) _ (front ++ shut ∷ c.args.frame.now) image mid follows))

pub returns-in_err-write_safely-clause-added : goal.returns-in_err-write_safely-clause-added
returns-in_err-write_safely-clause-added g c = search rules

pub returns-in_err-write_safely-clause-near : goal.returns-in_err-write_safely-clause-near
returns-in_err-write_safely-clause-near g c = search rules

pub returns-in_err-write_safely-clause-inside : goal.returns-in_err-write_safely-clause-inside
returns-in_err-write_safely-clause-inside g c = search rules

pub returns-in_err-write_safely-clause-named : goal.returns-in_err-write_safely-clause-named
returns-in_err-write_safely-clause-named g c = search rules

pub returns-in_err-write_safely-clause-count : goal.returns-in_err-write_safely-clause-count
returns-in_err-write_safely-clause-count g c = search rules

pub returns-clause-near : goal.returns-clause-near
returns-clause-near g c = search rules

pub returns-clause-named : goal.returns-clause-named
returns-clause-named g c = search rules

pub returns-clause-count : goal.returns-clause-count
returns-clause-count g c = search rules
