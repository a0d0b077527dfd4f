use Rattle.std.proofs.Common.{option_copied, sym, ap, ◌∙◌}
use Rattle.share_core.specs.Ticks.{starts}
use Rattle.share_history.specs.Histories.{all_edits}
use Rattle.share_history.specs.Rows.{library}
use Rattle.share_history.proofs.RowFacts.{ascending-library}
use Rattle.share_core.proofs.Results.{if_ok}
use Rattle.share_core.proofs.listings.candidates.Goals as goal

pub returns-in-Some-clause-found : goal.returns-in-Some-clause-found
returns-in-Some-clause-found c =
    if_ok c.candidates.result (λ found told h held. told (library (all_edits h)) (ascending-library (all_edits h)) held.stand.index ∙ sym (ap (λ q. starts (all_edits h) (option_copied q)) c.in-Some.is)) c.candidates.ensures.found
