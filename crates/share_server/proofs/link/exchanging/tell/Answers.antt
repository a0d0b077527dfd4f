use Rattle.std.proofs.Common.{◌≡◌, ℕ, ◌+◌, List, [], ◌∷◌, ◌++◌, length, sym, ap, ◌∙◌, subst, length-append, arith}
use Rattle.share_server.specs.declared.report.Served.{Served}
use Rattle.share_server.specs.Replies.{end_behind}
use Rattle.share_server.specs.Progress.{ExchangeDone}
use Rattle.share_server.proofs.Requests.{exchanged}
use Rattle.share_server.proofs.link.exchanging.tell.Goals as goal

pub returns-clause-exchanges : goal.returns-clause-exchanges
returns-clause-exchanges g c = λ start before after asks goes is.
    let pushed : c.push_reserved.new.self.items ≡ c.args.served.now.items ++ c.args.answered.served ∷ [] = c.push_reserved.ensures.items in
    let count : c.len.result ≡ length c.args.served.now.items + 1 =
    omega (arith, c.len.ensures, c.push_reserved.new.self.ok.0, ap length pushed, length-append c.args.served.now.items (c.args.answered.served ∷ [])) in
    let due : c.end_behind-due.result ≡ end_behind c.args.context.now.limit (length c.args.served.now.items + 1) c.args.ask.now.close c.args.answered.stopped =
    c.end_behind-due.ensures.end ∙ ap (λ (n : ℕ). end_behind c.args.context.now.limit n c.args.ask.now.close c.args.answered.stopped) count in
    subst
    (λ (served : List Served). ExchangeDone c.args.context.now.limit start.pass after start.taken (g.K.Sink.taken c.reply.new.link) asks c.args.ask.now served c.reply.result)
    (sym pushed)
    (exchanged c.args.context.now.limit start.pass before after start.taken (g.K.Sink.taken c.args.link.now)
    (g.K.Sink.taken c.reply.new.link) asks c.args.ask.now c.args.served.now.items c.args.answered.served c.args.answered.said
    c.args.answered.stopped c.end_behind-due.result c.reply.result goes is.serves is.said is.stopped due c.reply.ensures.written)
