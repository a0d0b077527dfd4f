use Rattle.std.proofs.Common.{◌+◌, ◌++◌, ◌∷◌, [], List, subst, ◌∙◌}
use Rattle.dmap_tags.specs.Codes.{code}
use Rattle.dmap_tags.specs.Tree.{Tree, leaf, U32, Text}
use Rattle.share_history.specs.Databases.{whole_body, entry_tag}
use Rattle.share_history.specs.Histories.{batches}
use Rattle.share_replies.specs.Replies.{Tagged}
use Rattle.share_core.specs.Contents.{IsContent}
use Rattle.share_core.proofs.Results.{if_ok}
use Rattle.share_core.proofs.containers.databases.Goals as goal

pub returns : goal.returns
returns c =
    if_ok c.whole.result
    (λ content told h held.
    let items = c.count-items.ensures (batches h) held.stand.items in
    let lists = c.count-containers.ensures (batches h) held.stand.lists in
    let entry = c.in_ok-entry.ensures
    ∙ (λ i. entry_tag (leaf (code "miid") (U32 1) ∷ leaf (code "minm") (Text c.args.name.now) ∷ leaf (code "mimc") (U32 (items i)) ∷ leaf (code "mctc") (U32 (lists i + 1)) ∷ [])) in
    let revision = c.revision-revision.ensures ∙ held.stand.items.revision in
    let entries = c.in_ok-push.ensures.ok ∙ (λ i. c.new-entries.ensures i ++ entry i ∷ []) in
    subst (λ (t : Tree). IsContent (200, Tagged t) content) (λ i. whole_body (code "avdb") (code "mlcl") (revision i) (entries i)) told)
    c.whole.ensures
