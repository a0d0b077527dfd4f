use Rattle.std.proofs.Common.{◌≡◌, ◌+◌, ℕ, length, drop, sym, ap, ◌∙◌, subst, Err, arith}
use Rattle.std.proofs.lemmas.List.{length-drop}
use Rattle.std.proofs.lemmas.Str.{drop_past_char}
use Rattle.song_query.specs.Seen.{state_of}
use Rattle.song_query.specs.Answers.{Answers}
use Rattle.song_query.proofs.Reached.{Reached, char_reached, refusal_answer, whole_ran}
use Rattle.song_query.proofs.reading.take_all.Goals as goal

pub loop-c-preserved : goal.loop-c-preserved
loop-c-preserved c =
    let text = c.args.text.now in
    let e = c.loop-c.invariant.left ∙ c.in-Some.ensures.steps.0 in
    record {
      next = tt;
      finite = tt;
      left = ap (λ (n : ℕ). drop (c.loop-c.place + n) text) c.len_utf8.ensures.value ∙ drop_past_char _ _ _ _ e;
      reached =
          subst (λ (n : ℕ). Reached text (c.loop-c.place + n) (state_of c.take.new.self)) (sym c.len_utf8.ensures.len)
          (char_reached _ _ _ _ _ _ c.loop-c.invariant.reached e c.in-Ok.ensures c.take.new.self.shallow);
    }

pub returns-in-Err-clause-err : goal.returns-in-Err-clause-err
returns-in-Err-clause-err c =
    let e = c.loop-c.invariant.left ∙ c.in-Some.ensures.steps.0 in
    subst (λ x. Answers c.args.text.now (Err x)) (sym c.refused.ensures)
    (refusal_answer _ _ _ _ _ (state_of c.take.new.self) _ c.loop-c.invariant.reached e c.in-Err.ensures c.requires.short)

-- nothing is left behind the offset
pub returns : goal.returns
returns c =
    let left : length (drop c.loop-c.place c.args.text.now) ≡ 0 = ap length c.loop-c.invariant.left ∙ c.in_default.ensures.steps.0.0 in
    let whole = whole_ran _ _ _ c.loop-c.invariant.reached (omega (arith, length-drop c.loop-c.place c.args.text.now)) in
    record { ok = whole.0; shallow = whole.1; err = tt }
