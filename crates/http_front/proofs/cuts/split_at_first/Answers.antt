use Rattle.std.proofs.Common.{◌==◌, ◌+◌, ◌∙◌, ap, sym, take, drop}
use Rattle.http_front.proofs.FirstOffset.{at_position, any_position, nothing_before, nothing_behind, none_position}
use Rattle.http_front.proofs.cuts.split_at_first.Goals as goal

pub returns-in-Some-clause-before : goal.returns-in-Some-clause-before
returns-in-Some-clause-before c =
    c.split_at.ensures.front
    ∙ ap (λ n. take n c.args.bytes.now) (sym (at_position (λ b. b == c.args.at) c.args.bytes.now c.in-Some.i (sym c.in-Some.ensures)))

pub returns-in-Some-clause-found : goal.returns-in-Some-clause-found
returns-in-Some-clause-found c = sym (any_position (λ b. b == c.args.at) c.args.bytes.now c.in-Some.i (sym c.in-Some.ensures))

pub returns-in-Some-clause-behind : goal.returns-in-Some-clause-behind
returns-in-Some-clause-behind c =
    c.split_at-in-Some.ensures.back
    ∙ ap (λ n. drop (n + 1) c.args.bytes.now) (sym (at_position (λ b. b == c.args.at) c.args.bytes.now c.in-Some.i (sym c.in-Some.ensures)))

pub returns-in-None-clause-before : goal.returns-in-None-clause-before
returns-in-None-clause-before c = sym (nothing_before (λ b. b == c.args.at) c.args.bytes.now (sym c.in-None.ensures))

pub returns-in-None-clause-found : goal.returns-in-None-clause-found
returns-in-None-clause-found c = sym (none_position (λ b. b == c.args.at) c.args.bytes.now (sym c.in-None.ensures))

pub returns-in-None-clause-behind : goal.returns-in-None-clause-behind
returns-in-None-clause-behind c = sym (nothing_behind (λ b. b == c.args.at) c.args.bytes.now (sym c.in-None.ensures))
