-- The spaces of 32 levels, and then those of the levels that are left.
use Rattle.std.proofs.Common.{◌≡◌, ◌+◌, ◌-◌, ◌++◌, ℕ, List, sym, ap, ◌∙◌, subst, arith, append_assoc}
use Rattle.dmap_tags.specs.Begins.{Begins}
use Rattle.dmap_tags.proofs.Fronts.{begins_more, begins_append}
use Rattle.dmap_show.specs.Shown.{indent}
use Rattle.std.proofs.lemmas.Result.{IfOk-from_err}
use Rattle.dmap_show.proofs.Pushed.{on_any_err}
use Rattle.dmap_show.proofs.EventLines.{indent_sum}
use Rattle.dmap_show.proofs.adding.push_indent.Goals as goal

pub returns-in_err-push_ascii : goal.returns-in_err-push_ascii
returns-in_err-push_ascii c = record {
  shown = IfOk-from_err _ _ c.from_residual.ensures.0;
  text = λ h. IfOk-from_err _ _ c.from_residual.ensures.0;
  front = on_any_err _ (begins_more _ _ _ c.loop-left.invariant.kept c.in_err-push_ascii.ensures.front);
}

pub loop-left-preserved : goal.loop-left-preserved
loop-left-preserved c =
    let out : List ℕ = c.loop-left.out.items in
    let left = c.loop-left.left in
    let inv = c.loop-left.invariant in
    let added = c.in_ok-push_ascii.ensures.shown in
    let whole : 32 + (left - 32) ≡ left = omega (arith, c.loop-left-test.true) in
    record {
      shown = ap (λ (s : List ℕ). s ++ indent (left - 32)) (added ∙ ap (λ (s : List ℕ). out ++ s) c.spaces.ensures.shown)
          ∙ append_assoc out (indent 32) (indent (left - 32))
          ∙ ap (λ (s : List ℕ). out ++ s) (sym (indent_sum 32 (left - 32)) ∙ ap indent whole)
          ∙ inv.shown;
      text = λ h. c.in_ok-push_ascii.ensures.text (inv.text h);
      kept = begins_more _ _ _ inv.kept (subst (Begins _) (sym added) (begins_append _ _));
    }
