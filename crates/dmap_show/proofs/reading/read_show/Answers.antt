-- The draft after all lines has the only list of tags that the text shows.
use Rattle.std.proofs.Common.{sym, ◌∙◌, subst}
use Rattle.std.proofs.lemmas.Result.{err_from_is_err_and}
use Rattle.dmap_show.specs.Readable.{Shows}
use Rattle.dmap_show.specs.TextLines.{Explains}
use Rattle.dmap_show.specs.Follows.{Follows}
use Rattle.dmap_show.proofs.Following.{follows_shows, follows_only, explains_memory}
use Rattle.dmap_show.proofs.reading.read_show.Goals as goal

pub returns-in_err-draft-clause-complete : goal.returns-in_err-draft-clause-complete
returns-in_err-draft-clause-complete c = λ ts s.
    let p = err_from_is_err_and c.from_residual.result c.from_residual.ensures.1 in
    let why = subst (λ x. Explains c.args.table.now x c.in_err-draft.field-0.0) c.as_bytes.ensures.value c.in_err-draft.ensures in
    rw (p.1, p.2) (explains_memory c.args.table.now c.args.text.now ts c.in_err-draft.field-0.0 why s)

pub returns-clause-read : goal.returns-clause-read
returns-clause-read c =
    let d = c.in_ok-draft.draft in
    let f = subst (λ x. Follows c.args.table.now x d.around d.here) c.as_bytes.ensures.value c.in_ok-draft.ensures in
    subst (λ ts. Shows c.args.table.now c.args.text.now ts) (sym c.in_ok-finished.ensures) (follows_shows c.args.table.now c.args.text.now d.around d.here f)

pub returns-clause-complete : goal.returns-clause-complete
returns-clause-complete c = λ ts s.
    let d = c.in_ok-draft.draft in
    let f = subst (λ x. Follows c.args.table.now x d.around d.here) c.as_bytes.ensures.value c.in_ok-draft.ensures in
    c.in_ok-finished.ensures ∙ follows_only c.args.table.now c.args.text.now d.around d.here ts f s
