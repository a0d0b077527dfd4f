use Rattle.std.proofs.Common.{subst, ◌∙◌, arith, ap, ◌+◌, ◌≤◌, length, option_copied}
use Rattle.dmap_tags.specs.Codes.{code}
use Rattle.dmap_tags.specs.Tree.{Tree}
use Rattle.share_history.specs.Databases.{whole_body}
use Rattle.share_history.specs.Histories.{all_edits, batches}
use Rattle.share_replies.specs.Replies.{Tagged}
use Rattle.share_core.specs.Contents.{IsContent}
use Rattle.share_core.proofs.ValuesAt.{values_short, few_values}
use Rattle.share_core.proofs.Results.{if_ok}
use Rattle.share_core.proofs.browse.browse.Goals as goal

pub whole-requires-clause-few : goal.whole-requires-clause-few
whole-requires-clause-few g c =
    let h = c.requires.held.0 in
    let held = c.requires.held.1 in
    omega (arith, few_values (all_edits h) c.args.by (option_copied c.args.query) c.in_ok-entries.entries (c.in_ok-entries.ensures.tags h held), held.few_edits)

pub whole-requires-clause-short : goal.whole-requires-clause-short
whole-requires-clause-short g c =
    let h = c.requires.held.0 in
    let held = c.requires.held.1 in
    values_short (all_edits h) c.args.by (option_copied c.args.query) c.in_ok-entries.entries (c.in_ok-entries.ensures.tags h held) held.stand.short

pub returns-clause-content : goal.returns-clause-content
returns-clause-content g c =
    if_ok c.whole.result
    (λ content told h held.
    let revision = c.revision-revision.ensures ∙ held.stand.items.revision in
    let entries = c.in_ok-entries.ensures.tags h held in
    subst (λ (t : Tree). IsContent (200, Tagged t) content) (λ i. whole_body (code "abro") (c.browse_code.ensures i) (revision i) (entries i)) told)
    c.whole.ensures
