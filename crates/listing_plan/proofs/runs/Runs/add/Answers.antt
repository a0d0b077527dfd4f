use Rattle.std.proofs.Common.{◌≡◌, ◌<◌, ◌+◌, ◌-◌, ◌++◌, [], ◌∷◌, length, take, get_or, slice_set, sym, ap, subst, ◌∙◌, length-take-le, arith, rules}
use Rattle.std.proofs.lemmas.List.{take_more, take_more_set}
use Rattle.listing_plan.specs.declared.runs.Run.{Run}
use Rattle.listing_plan.specs.Runs.{Joins}
use Rattle.listing_plan.proofs.RunFacts.{joins_own, joins_last}
use Rattle.listing_plan.proofs.runs.Runs.add.Goals as goal

pub returns-then-self-run-clause-joins : goal.returns-then-self-run-clause-joins
returns-then-self-run-clause-joins c =
    let room = c.self.inside.room in
    let len = c.self.inside.len in
    let n = len - 1 in
    let run = c.args.run in
    let last : Run = get_or room n (record { from = 0; to = 0 }) in
    let longer : Run = record { from = last.from; to = run.to } in
    let full : length room ≡ 26 = search rules in
    let one : len ≡ n + 1 = omega (arith, c.if-self-gt0.true) in
    let lt : n < length room = omega (arith, full, one, c.self.invariant) in
    let old : c.args.self.now ≡ take n room ++ last ∷ [] =
    sym c.self.view_is ∙ ap (λ m. take m room) one ∙ take_more room n (record { from = 0; to = 0 }) lt in
    let new : take len (slice_set room n longer) ≡ take n room ++ longer ∷ [] =
    ap (λ m. take m (slice_set room n longer)) one ∙ take_more_set room n longer lt in
    subst (λ runs. Joins run runs (take len (slice_set room n longer))) (sym old)
    (subst (Joins run (take n room ++ last ∷ [])) (sym new) (joins_last (take n room) last run c.if-self-run.true))

pub returns-clause-joins : goal.returns-clause-joins
returns-clause-joins c =
    let room = c.self.inside.room in
    let len = c.self.inside.len in
    let run = c.args.run in
    let full : length room ≡ 26 = search rules in
    let lt : len < length room = omega (arith, full, c.self.invariant, c.requires, ap length c.self.view_is, length-take-le len room (omega (arith, full, c.self.invariant))) in
    let new : take (len + 1) (slice_set room len run) ≡ c.args.self.now ++ run ∷ [] =
    take_more_set room len run lt ∙ ap (λ runs. runs ++ run ∷ []) c.self.view_is in
    subst (Joins run c.args.self.now) (sym new) (joins_own c.args.self.now run)
