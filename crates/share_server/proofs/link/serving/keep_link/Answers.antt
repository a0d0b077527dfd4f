use Rattle.std.proofs.Common.{rules, ◌≡◌, ◌++◌, List, sym, subst}
use Rattle.share_history.specs.Histories.{batches}
use Rattle.share_lock.specs.Passes.{known}
use Rattle.share_server.specs.declared.report.Served.{Served}
use Rattle.share_server.specs.Served.{added_entries}
use Rattle.share_server.proofs.Linking.{kept_served, reported}
use Rattle.share_server.proofs.link.serving.keep_link.Goals as goal

pub returns-clause-served : goal.returns-clause-served
returns-clause-served g c =
    reported c.args.role c.args.budget _ (known c.args.pass.now) (known c.serve_to_end-served.new.pass) (g.K.Source.left c.args.link.now) (g.K.Sink.taken c.args.link.now)
    (g.K.Sink.taken c.serve_to_end-served.new.link) _ _ (search rules) (search rules) (search rules) c.serve_to_end-served.ensures.ended

-- what was kept are the edits that were served
pub returns-clause-kept : goal.returns-clause-kept
returns-clause-kept g c = λ bs before.
    let same : c.of.result ≡ c.serve_to_end-served.result.0.items = search rules in
    subst
    (λ (served : List Served). g.F.Keeps.keeps c.serve_to_end-served.new.keeper (bs ++ batches (added_entries (known c.serve_to_end-served.new.pass).seen served)))
    (sym same)
    (kept_served (g.F.Keeps.keeps c.args.keeper.now) (g.F.Keeps.keeps c.serve_to_end-served.new.keeper) (g.F.Keeps.is_lost c.serve_to_end-served.new.keeper)
    (g.F.Keeps.faults c.args.keeper.now) (g.F.Keeps.faults c.serve_to_end-served.new.keeper) c.args.role _ (known c.args.pass.now)
    (known c.serve_to_end-served.new.pass) (g.K.Source.left c.args.link.now) (g.K.Sink.taken c.args.link.now) (g.K.Sink.taken c.serve_to_end-served.new.link) _ _
    c.serve_to_end-served.ensures.keeping c.serve_to_end-served.ensures.ended bs before)
