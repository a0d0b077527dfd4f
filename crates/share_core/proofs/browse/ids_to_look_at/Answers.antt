use Rattle.share_history.specs.Histories.{all_edits, batches}
use Rattle.share_core.proofs.Results.{if_ok}
use Rattle.share_core.proofs.ValuesAt.{library_starts}
use Rattle.share_core.proofs.browse.ids_to_look_at.Goals as goal

pub returns-in-None-clause-start : goal.returns-in-None-clause-start
returns-in-None-clause-start c = if_ok c.ids.result (λ ids told h held. library_starts (all_edits h) _ ids.items (told (batches h) held.stand.items)) c.ids.ensures
