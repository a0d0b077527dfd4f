use Rattle.std.proofs.Common.{rules, ◌≡◌, List, [], ◌∷◌, ◌++◌, sym, ap, ◌∙◌, subst, append_assoc, append-nil}
use Rattle.std.proofs.lemmas.List.{nil_from_length}
use Rattle.share_lock.specs.Passes.{known}
use Rattle.lock_trials.specs.Gathered.{AreApart}
use Rattle.lock_trials.proofs.Joining.{covers_more, apart_more}
use Rattle.lock_trials.proofs.gather.join_others.Goals as goal

pub loop-other-preserved : goal.loop-other-preserved
loop-other-preserved c =
    let inv = c.loop-other.invariant in
    let passes = c.args.first ∷ c.loop-other.yielded in record {
      ready = c.join.ensures.ready;
      covered = covers_more c.loop-other.pass c.join.new.pass c.in-Some.other passes c.join.ensures.pass c.join.ensures.first c.join.ensures.second inv.covered;
      apart = apart_more c.loop-other.pass c.in-Some.other passes inv.covered c.join.ensures.apart inv.apart;
      items = append_assoc c.loop-other.yielded (c.in-Some.other ∷ []) _ ∙ (ap (λ l. c.loop-other.yielded ++ l) (sym c.in-Some.ensures.steps.0) ∙ inv.items);
    }

pub returns-clause-apart : goal.returns-clause-apart
returns-clause-apart c =
    let none = nil_from_length _ (sym c.loop-other.other-iterator.rest.ok.0 ∙ c.in-None.ensures.steps.0) in
    let all = sym (append-nil c.loop-other.yielded) ∙ (ap (λ l. c.loop-other.yielded ++ l) (sym none) ∙ c.loop-other.invariant.items) in
    subst (λ l. AreApart (c.args.first ∷ l)) all c.loop-other.invariant.apart
