-- A line is its first part and its rest.
use Rattle.std.proofs.Common.{◌≡◌, ◌++◌, subst}
use Rattle.std.proofs.lemmas.Result.{on_ok_weaker}
use Rattle.dmap_show.specs.Shown.{indent, shown_code}
use Rattle.dmap_show.proofs.EventLines.{line_by_parts}
use Rattle.dmap_show.proofs.values.push_line.Goals as goal

pub returns-clause-shown : goal.returns-clause-shown
returns-clause-shown c =
    let code = c.args.code in
    let front = subst (λ w. c.push_front.new.out.items ≡ c.args.out.now.items ++ (indent c.args.level ++ shown_code code ++ w)) (c.word.ensures code) c.in_ok-push_front.ensures.shown in
    on_ok_weaker c.push_rest.result (line_by_parts c.args.level code c.args.value.now _ _ _ front) (c.push_rest.ensures.shown code)

pub returns-clause-held : goal.returns-clause-held
returns-clause-held c = on_ok_weaker c.push_rest.result (λ v. (c.in_ok-push_front.ensures.held, v)) (c.push_rest.ensures.held c.args.code)
