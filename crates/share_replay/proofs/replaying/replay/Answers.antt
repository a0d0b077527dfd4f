use Rattle.std.proofs.Common.{◌≡◌, ◌≤◌, ℕ, List, Option, Some, OnErr, slice_get, take, sym, ap, ◌∙◌, subst}
use Rattle.std.proofs.lemmas.Option.{slice_get-get_or}
use Rattle.outside_net.specs.Told.{AppendsPrefix}
use Rattle.share_replies.specs.Settings.{Settings}
use Rattle.share_replay.specs.Connections.{Connection}
use Rattle.share_replay.specs.Machine.{Desk, answers, after_delivery, last_lines, line_place, most_left, script_bytes, script_run}
use Rattle.share_replay.specs.Played.{IsAt, IsBrokenOff, IsPart}
use Rattle.share_replay.specs.declared.delivery.Delivery.{Delivery}
use Rattle.share_replay.proofs.ResultFacts.{on_err_always, on_err_then}
use Rattle.share_replay.proofs.ScriptFacts.{broken_before, broken_behind, broken_within, ended_at, front_of}
use Rattle.share_replay.proofs.replaying.replay.Goals as goal

pub returns-in_err-connections-clause-part : goal.returns-in_err-connections-clause-part
returns-in_err-connections-clause-part g c =
    let a = c.args in
    let t = g.W.Sink.taken a.sink.now in
    on_err_always (IsBrokenOff a.share.now.settings a.share.now.history a.script.now a.share.now.history t t) c.from_residual.result
    (broken_before a.share.now.settings a.share.now.history a.script.now t)

pub returns-in-Err-clause-part : goal.returns-in-Err-clause-part
returns-in-Err-clause-part g c =
    let a = c.args in
    let l = c.loop-line in
    let lines = c.lines-lines.result.now in
    let line = c.line-item.result in
    let now = c.play.new in
    let s = a.share.now.settings in
    let h = a.share.now.history in
    let t = g.W.Sink.taken a.sink.now in
    let t1 = g.W.Sink.taken l.sink in
    let t' = g.W.Sink.taken now.sink in
    let is : slice_get lines l.line-index ≡ Some line = slice_get-get_or lines l.line-index line c.loop-line-test.true ∙ ap (λ (x : Delivery). Some x) (sym c.line-item.is) in
    let d : Desk = script_run s h (take l.line-index lines) in
    let at : IsAt d l.share.history c.as_mut_slice.result.now t t1 =
    subst (λ (cs : List (Option Connection)). IsAt d l.share.history cs t t1) (sym c.as_mut_slice.ensures.value) l.invariant.at in
    let part = c.in-Err.ensures.part d t at in
    let same =
    subst (λ (x : Settings). (k : ℕ) × (k ≤ most_left (after_delivery line d).connections) × IsPart (answers x (line_place line) k (after_delivery line d)) now.share.history t t') l.invariant.settings part in
    subst (λ (ls : List Delivery). IsBrokenOff s h ls now.share.history t t') c.lines-lines.ensures.lines
    (broken_within s h now.share.history lines l.line-index line t t' is same)

pub returns-in-Err-clause-front : goal.returns-in-Err-clause-front
returns-in-Err-clause-front g c =
    let a = c.args in
    let now = c.play.new in
    front_of a.share.now.settings a.share.now.history now.share.history a.script.now (g.W.Sink.taken a.sink.now) (g.W.Sink.taken now.sink)
    (returns-in-Err-clause-part g c)

pub returns-clause-part : goal.returns-clause-part
returns-clause-part g c =
    let a = c.args in
    let l = c.loop-line in
    let lines = c.lines-lines.result.now in
    let s = a.share.now.settings in
    let h = a.share.now.history in
    let h' = l.share.history in
    let cs = l.connections.items in
    let t = g.W.Sink.taken a.sink.now in
    let u = g.W.Sink.taken l.sink in
    let v = g.W.Sink.taken c.tell_last_ends.new.sink in
    let at : IsAt (script_run s h a.script.now) h' cs t u =
    subst (λ (ls : List Delivery). IsAt (script_run s h ls) h' cs t u) c.lines-lines.ensures.lines (ended_at s h h' cs lines l.line-index t u c.loop-line-test.false l.invariant.at) in
    let told = subst (λ (xs : List (Option Connection)). OnErr c.tell_last_ends.result (AppendsPrefix u v (last_lines 1 xs))) c.as_slice.ensures.value c.tell_last_ends.ensures.part in
    on_err_then (AppendsPrefix u v (last_lines 1 cs)) (IsBrokenOff s h a.script.now h' t v) c.tell_last_ends.result (λ cut. broken_behind s h h' cs a.script.now t u v at cut) told

pub returns-clause-front : goal.returns-clause-front
returns-clause-front g c =
    let a = c.args in
    let before = a.share.now in
    let h' = c.loop-line.share.history in
    let t = g.W.Sink.taken a.sink.now in
    let v = g.W.Sink.taken c.tell_last_ends.new.sink in
    on_err_then (IsBrokenOff before.settings before.history a.script.now h' t v) (AppendsPrefix t v (script_bytes before.settings before.history a.script.now))
    c.tell_last_ends.result (front_of before.settings before.history h' a.script.now t v) (returns-clause-part g c)
