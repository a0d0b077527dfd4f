use Rattle.std.proofs.Common.{[], ◌∷◌, ◌++◌, codes, decimal, ap, ◌∙◌}
use Rattle.serve_command.proofs.opening.first_line_of.Goals as goal

pub returns : goal.returns
returns c =
    c.in_ok-push.ensures.items
    ∙ ap (λ l. l ++ 10 ∷ []) (c.in_ok-push_number.ensures.text
    ∙ ap (λ n. c.extend_from_slice.new.self.items ++ (codes " at revision " ++ decimal n)) c.from.ensures
    ∙ ap (λ l. l ++ (codes " at revision " ++ decimal c.args.revision)) (c.in_ok-extend_from_slice.ensures.items
    ∙ (λ i. c.in_ok-line.ensures.items i ++ (c.as_bytes.ensures.value ∙ c.as_str.ensures) i)))
