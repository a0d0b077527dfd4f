use Rattle.std.proofs.Common.{◌∙◌, arith, ap}
use Rattle.share_history.specs.Histories.{all_edits}
use Rattle.share_history.specs.LastSaid.{list_at}
use Rattle.share_core.proofs.ListNames.{members_counted, members_are}
use Rattle.share_core.proofs.containers.member_count.Goals as goal

pub overflow_cast-result : goal.overflow_cast-result
overflow_cast-result c =
    let held = c.requires.held.1 in
    let es = all_edits c.requires.held.0 in
    omega (
      arith,
      c.count_of-count.ensures,
      members_counted (λ members. members.items) es c.args.id c.in_ok-found.found (list_at es c.args.id) (c.in_ok-found.ensures _ held.stand.lists held.stand.items),
      held.few_edits,
    )

pub returns : goal.returns
returns c = λ h held there.
    let es = all_edits h in
    c.count_of-count.ensures
    ∙ members_are (λ members. members.items) es c.args.id c.in_ok-found.found (list_at es c.args.id) (c.in_ok-found.ensures _ held.stand.lists held.stand.items) there
