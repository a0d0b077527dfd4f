use Rattle.std.proofs.Common.{◌≡◌, ◌+◌, length, drop, sym, ap, ◌∙◌, subst, arith, rules}
use Rattle.std.proofs.lemmas.List.{drop_all}
use Rattle.std.proofs.lemmas.Result.{on_ok_weaker, IfErr-weaker, err_from_is_err_and}
use Rattle.serde_json.specs.Data.{no_items}
use Rattle.serde_json.specs.View.{view, items_view}
use Rattle.dmap_json.specs.Places.{below, IsListObject, IsTagObject}
use Rattle.dmap_json.specs.Walk.{IsHead, Stops, HasNoObject}
use Rattle.dmap_json.proofs.Walked.{IsAt, at_next, at_stop, at_end, left_item, head_object, no_tag_object, stops_below, list_below}
use Rattle.dmap_json.proofs.reading.+read.Goals as goal

pub read_held-returns-in_err-tags-in-List-clause-refused : goal.read_held-returns-in_err-tags-in-List-clause-refused
read_held-returns-in_err-tags-in-List-clause-refused t c = λ parent d h.
    let items = items_view c.in-List.members.now in
    let said : IsListObject c.args.table.now parent d c.args.head.code items = (rw c.in-List.is at h) in
    let p = err_from_is_err_and c.from_residual.result c.from_residual.ensures.1 in
    rw (p.1, p.2) (subst (λ ps. Stops c.args.table.now c.args.count.now ps c.in_err-tags-in-List.field-0.0)
    (sym (list_below c.args.table.now parent c.args.level d c.args.head.code items said)) c.in_err-tags-in-List.ensures.refused)

pub read_held-returns-in_ok-tags-in-List-clause-counted : goal.read_held-returns-in_ok-tags-in-List-clause-counted
read_held-returns-in_ok-tags-in-List-clause-counted t c = λ parent d h.
    let items = items_view c.in-List.members.now in
    let said : IsListObject c.args.table.now parent d c.args.head.code items = (rw c.in-List.is at h) in
    c.in_ok-tags-in-List.ensures.counted
    ∙ ap (λ ps. c.args.count.now + length ps) (sym (list_below c.args.table.now parent c.args.level d c.args.head.code items said))

pub read_tag-returns-in-Some-clause-counted : goal.read_tag-returns-in-Some-clause-counted
read_tag-returns-in-Some-clause-counted t c =
    let d = view c.args.json.now in
    let said : IsHead c.args.table.now c.args.parent d c.in-Some.head = (rw c.in-Some.is at c.in_ok-head.ensures) in
    let next : c.in_ok-count.field-0 ≡ c.args.count.now + 1 = search rules in
    on_ok_weaker c.read_held.result
    (λ e. let after : c.read_held.new.count ≡ c.in_ok-count.field-0 + length (below c.args.level d) = e in omega (arith, after, next))
    (c.read_held.ensures.counted c.args.parent d said)

pub read_tag-returns-in-Some-clause-refused : goal.read_tag-returns-in-Some-clause-refused
read_tag-returns-in-Some-clause-refused t c =
    let d = view c.args.json.now in
    let said : IsHead c.args.table.now c.args.parent d c.in-Some.head = (rw c.in-Some.is at c.in_ok-head.ensures) in
    let next : c.in_ok-count.field-0 ≡ c.args.count.now + 1 = search rules in
    let place : IsTagObject c.args.table.now (record { level = c.args.level; parent = c.args.parent; value = d }) =
    record { shallow = omega (arith, c.if-level-gt-MOST_LEVELS.false); object = head_object c.args.table.now c.args.parent d c.in-Some.head.code c.in-Some.head.held said } in
    IfErr-weaker c.read_held.result _ _
    (λ e h. stops_below c.args.table.now c.args.count.now c.in_ok-count.field-0 (record { level = c.args.level; parent = c.args.parent; value = d }) (below c.args.level d) e next place h)
    (c.read_held.ensures.refused c.args.parent d said)

pub read_tag-returns-in-None-clause-refused : goal.read_tag-returns-in-None-clause-refused
read_tag-returns-in-None-clause-refused t c =
    let d = view c.args.json.now in
    let nothing : HasNoObject c.args.table.now c.args.parent d = (rw c.in-None.is at c.in_ok-head.ensures) in
    (0, omega arith, λ h. no_tag_object c.args.table.now c.args.level c.args.parent d nothing h)

pub read_tags-returns-in_err-read_tag-clause-refused : goal.read_tags-returns-in_err-read_tag-clause-refused
read_tags-returns-in_err-read_tag-clause-refused t c =
    let vs = c.args.members.now in
    let i = c.loop-member.member-index in
    let v = c.member-item.result in
    let rest = items_view (drop (i + 1) vs) in
    let at = subst (λ left. IsAt c.args.table.now c.args.parent c.args.level c.args.count.now c.loop-member.count (items_view vs) left c.loop-member.tags.items)
    (left_item vs i v c.loop-member-test.true c.member-item.is) c.loop-member.invariant in
    let p = err_from_is_err_and c.from_residual-in_err-read_tag.result c.from_residual-in_err-read_tag.ensures.1 in
    rw (p.1, p.2) (at_stop c.args.table.now c.args.parent c.args.level c.args.count.now c.loop-member.count (items_view vs) rest (view v) c.loop-member.tags.items
    c.in_err-read_tag.field-0.0 at c.in_err-read_tag.ensures.refused)

pub read_tags-loop-member-preserved : goal.read_tags-loop-member-preserved
read_tags-loop-member-preserved t c =
    let vs = c.args.members.now in
    let i = c.loop-member.member-index in
    let v = c.member-item.result in
    let rest = items_view (drop (i + 1) vs) in
    let at = subst (λ left. IsAt c.args.table.now c.args.parent c.args.level c.args.count.now c.loop-member.count (items_view vs) left c.loop-member.tags.items)
    (left_item vs i v c.loop-member-test.true c.member-item.is) c.loop-member.invariant in
    subst (λ done. IsAt c.args.table.now c.args.parent c.args.level c.args.count.now c.read_tag.new.count (items_view vs) rest done) (sym c.in_ok-push.ensures.items)
    (at_next c.args.table.now c.args.parent c.args.level c.args.count.now c.loop-member.count c.read_tag.new.count (items_view vs) rest (view v) c.in_ok-read_tag.field-0
    c.loop-member.tags.items at c.in_ok-read_tag.ensures.read c.in_ok-read_tag.ensures.counted)

pub read_tags-returns-clause-read : goal.read_tags-returns-clause-read
read_tags-returns-clause-read t c =
    let vs = c.args.members.now in
    let nothing : items_view (drop c.loop-member.member-index vs) ≡ no_items = ap items_view (drop_all c.loop-member.member-index vs (omega (arith, c.loop-member-test.false))) in
    (at_end c.args.table.now c.args.parent c.args.level c.args.count.now c.loop-member.count (items_view vs) c.loop-member.tags.items c.requires
    (subst (λ left. IsAt c.args.table.now c.args.parent c.args.level c.args.count.now c.loop-member.count (items_view vs) left c.loop-member.tags.items) nothing c.loop-member.invariant)).0
