use Rattle.std.proofs.Common.{◌≤◌, ◌+◌, ℕ, List, length, ap, subst, sym, ◌∙◌, option_copied}
use Rattle.share_history.specs.Databases.{databases_body, containers_body}
use Rattle.share_history.specs.BrowseListings.{browse_body}
use Rattle.item_model.specs.declared.changes.Entry.{Entry}
use Rattle.share_replies.specs.Answers.{Shared}
use Rattle.share_replies.specs.Replies.{Tagged}
use Rattle.share_replies.specs.SmallBodies.{server_info_body}
use Rattle.std.proofs.Common.{IfOk}
use Rattle.share_core.specs.Contents.{IsContent}
use Rattle.share_core.specs.Listed.{rows_content}
use Rattle.share_core.specs.Ticks.{want_ticks, row_ticks}
use Rattle.share_asks.specs.declared.ask.Want.{Want}
use Rattle.share_core.proofs.Looked.{info_content, codes_content, bad_content, databases_content, lists_content, values_content, rows_told}
use Rattle.share_core.proofs.Results.{if_ok}
use Rattle.share_core.proofs.share.Share.content_for.Goals as goal

pub returns-in-ServerInfo-clause-content : goal.returns-in-ServerInfo-clause-content
returns-in-ServerInfo-clause-content g c =
    let name = c.name-name.ensures ∙ ap (λ (s : Shared). s.settings.name) c.self.view_is in
    info_content c.args.self.now.settings c.args.self.now.history c.args.want.now c.server_info.result c.in-ServerInfo.is c.requires.going
    (subst (λ (n : List ℕ). IfOk c.server_info.result (λ content. IsContent (200, Tagged (server_info_body n)) content)) name c.server_info.ensures)

pub returns-in-Codes-clause-content : goal.returns-in-Codes-clause-content
returns-in-Codes-clause-content g c = codes_content c.args.self.now.settings c.args.self.now.history c.args.want.now c.codes.result c.in-Codes.is c.requires.going c.codes.ensures

pub returns-in-Databases-clause-content : goal.returns-in-Databases-clause-content
returns-in-Databases-clause-content g c =
    let a = c.self.inside in
    let name = c.name-name.ensures ∙ ap (λ (s : Shared). s.settings.name) c.self.view_is in
    databases_content c.args.self.now.settings c.args.self.now.history c.args.want.now _ c.databases.result c.in-Databases.is c.requires.going c.requires.live
    (subst (λ (n : List ℕ × List Entry). IfOk c.databases.result (λ content. IsContent (200, Tagged (databases_body n.0 n.1)) content)) (λ i. (name i, ap (λ (s : Shared). s.history) c.self.view_is i))
    (if_ok c.databases.result (λ content told. told a.register.history c.self.invariant.held) c.databases.ensures))

pub returns-in-Lists-clause-content : goal.returns-in-Lists-clause-content
returns-in-Lists-clause-content g c =
    let a = c.self.inside in
    let name = c.name-name.ensures ∙ ap (λ (s : Shared). s.settings.name) c.self.view_is in
    lists_content c.args.self.now.settings c.args.self.now.history c.args.want.now _ c.containers.result c.in-Lists.is c.requires.going c.requires.live
    (subst (λ (n : List ℕ × List Entry). IfOk c.containers.result (λ content. IsContent (200, Tagged (containers_body n.0 n.1)) content)) (λ i. (name i, ap (λ (s : Shared). s.history) c.self.view_is i))
    (if_ok c.containers.result (λ content told. told a.register.history c.self.invariant.held) c.containers.ensures))

pub returns-in-Rows-clause-content : goal.returns-in-Rows-clause-content
returns-in-Rows-clause-content g c =
    let a = c.self.inside in
    let same = c.self.invariant.items_keep ∙ ap (λ (s : Shared). s.settings.keep) c.self.view_is in
    rows_told c.args.self.now.settings c.args.self.now.history c.args.want.now _ a.stores.items.keep c.in-Rows.target c.in-Rows.look c.rows.result c.in-Rows.is c.requires.going c.requires.live same
    (subst (λ (h : List Entry). IfOk c.rows.result (λ content. IsContent (rows_content a.stores.items.keep h c.in-Rows.target c.in-Rows.look) content)) (ap (λ (s : Shared). s.history) c.self.view_is)
    (if_ok c.rows.result (λ content told. told a.register.history c.self.invariant.held) c.rows.ensures.content))

pub returns-in-Rows-clause-cost : goal.returns-in-Rows-clause-cost
returns-in-Rows-clause-cost g c =
    let a = c.self.inside in
    let same = c.self.invariant.items_keep ∙ ap (λ (s : Shared). s.settings.keep) c.self.view_is in
    let s = c.args.self.now in
    subst (λ (w : Want). c.rows.new.steps ≤ c.args.steps.now + want_ticks s.settings.keep s.history w) (sym c.in-Rows.is)
    (subst (λ (p : ℕ × List Entry). c.rows.new.steps ≤ c.args.steps.now + row_ticks p.0 p.1 c.in-Rows.target c.in-Rows.look) (λ i. (same i, ap (λ (t : Shared). t.history) c.self.view_is i))
    (c.rows.ensures.cost a.register.history c.self.invariant.held))
