use Rattle.std.proofs.Common.{◌≡◌, ℕ, replicate, None, ap, ◌∙◌, arith}
use Rattle.share_replay.proofs.reaching.nobody.Goals as goal

pub returns : goal.returns
returns c =
    let all : c.loop-place.place ≡ 64 = omega (arith, c.loop-place.auto.place-end, c.loop-place-test.false) in
    c.loop-place.invariant ∙ ap (λ (n : ℕ). replicate n None) all
