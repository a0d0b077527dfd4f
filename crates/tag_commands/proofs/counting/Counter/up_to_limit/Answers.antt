use Rattle.std.proofs.Common.{◌++◌, drop, sym, ap, ◌∙◌}
use Rattle.std.proofs.lemmas.List.{take-append-drop}
use Rattle.tag_commands.proofs.counting.Counter.up_to_limit.Goals as goal

pub returns-clause-split : goal.returns-clause-split
returns-clause-split c =
    let n = c.min.result in
    sym (take-append-drop n c.args.piece.now) ∙ ap (λ l. l ++ drop n c.args.piece.now) (sym c.split_at.ensures.front)
    ∙ ap (λ l. c.split_at.result.0.now ++ l) (sym c.split_at.ensures.back)
