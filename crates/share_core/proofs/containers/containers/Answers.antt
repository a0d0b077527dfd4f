use Rattle.std.proofs.Common.{subst, ◌∙◌, arith, ap, ◌+◌, ◌≤◌, length}
use Rattle.dmap_tags.specs.Codes.{code}
use Rattle.dmap_tags.specs.Tree.{Tree}
use Rattle.share_history.specs.Databases.{whole_body}
use Rattle.share_history.specs.Histories.{all_edits, batches}
use Rattle.share_replies.specs.Replies.{Tagged}
use Rattle.share_core.specs.Contents.{IsContent}
use Rattle.share_core.proofs.ListNames.{containers_short, few_containers}
use Rattle.share_core.proofs.Results.{if_ok}
use Rattle.share_core.proofs.containers.containers.Goals as goal

pub whole-requires-clause-few : goal.whole-requires-clause-few
whole-requires-clause-few c =
    let h = c.requires.held.0 in
    let held = c.requires.held.1 in
    omega (arith, few_containers c.args.name.now (all_edits h) c.in_ok-entries.entries (c.in_ok-entries.ensures h held), held.few_lists)

pub whole-requires-clause-short : goal.whole-requires-clause-short
whole-requires-clause-short c =
    let h = c.requires.held.0 in
    let held = c.requires.held.1 in
    containers_short c.args.name.now (all_edits h) c.in_ok-entries.entries (c.in_ok-entries.ensures h held) held.stand.lists.valid c.requires.name

pub returns : goal.returns
returns c =
    if_ok c.whole.result
    (λ content told h held.
    let revision = c.revision-revision.ensures ∙ held.stand.items.revision in
    let entries = c.in_ok-entries.ensures h held in
    subst (λ (t : Tree). IsContent (200, Tagged t) content) (λ i. whole_body (code "aply") (code "mlcl") (revision i) (entries i)) told)
    c.whole.ensures
