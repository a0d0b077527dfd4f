use Rattle.std.proofs.Common.{◌≡◌, ◌+◌, not, true, false, sym, subst, ◌∙◌, arith}
use Rattle.dmap_tags.specs.Tree.{trees_of}
use Rattle.dmap_stream.specs.Walk.{is_empty, is_short, closes, open_after}
use Rattle.dmap_stream.specs.WholeTag.{RefusesTag, ReadsRest, RefusesRest}
use Rattle.dmap_stream.proofs.Members.{IsDue, due, stepped, left_over, all_passed, short_refused, tag_refused}
use Rattle.dmap_stream.proofs.Values.{AreBytes, bytes_take, bytes_drop}
use Rattle.dmap_stream.proofs.WholeTags.{Opens, opening, Enters, no_head, faulty, cut_short, value_read, list_read, list_refused}
use Rattle.dmap_stream.proofs.whole_tag.+whole.Goals as goal

pub members_at-returns-then-is_short-clause-tells : goal.members_at-returns-then-is_short-clause-tells
members_at-returns-then-is_short-clause-tells t c =
    let l = c.loop-around in
    short_refused c.args.rules.now.table.now c.args.rules.now.top c.args.rules.now.total c.args.at c.args.around.now c.args.bytes.now l.members l.here l.rest.now l.invariant.passed
    (subst (λ a. not (is_empty (closes l.here a)) ≡ false) l.invariant.same (sym c.ends_at.ensures ∙ c.loop-around-test.true))
    (subst (λ a. is_short l.here (open_after l.here a) ≡ true) l.invariant.same (sym c.is_short.ensures ∙ c.if-is_short.true))

pub members_at-loop-around-preserved : goal.members_at-loop-around-preserved
members_at-loop-around-preserved t c =
    let l = c.loop-around in
    let is : IsDue l.here c.args.around.now = due l.here l.around c.args.around.now c.ends_at.result c.is_short.result l.invariant.same c.ends_at.ensures c.loop-around-test.true c.is_short.ensures c.if-is_short.false in
    let less = left_over l.rest.now c.in-Ok.tag c.in-Ok.later.now c.in-Ok.ensures.tells.spelled in
    record {
      passed = stepped c.args.rules.now.table.now c.args.rules.now.top c.args.at c.args.around.now l.around c.args.bytes.now l.members c.push.new.self l.here l.rest.now c.in-Ok.tag c.in-Ok.later.now
          l.invariant.same c.in_ok-push-in-Ok.ensures.ok l.invariant.passed is c.in-Ok.ensures.tells;
      same = c.in-Ok.ensures.same ∙ l.invariant.same;
      within = let w = l.invariant.within in omega arith;
      fewer = let f = l.invariant.fewer in omega arith;
    }

pub members_at-returns-in-Err-clause-tells : goal.members_at-returns-in-Err-clause-tells
members_at-returns-in-Err-clause-tells t c =
    let l = c.loop-around in
    let is : IsDue l.here c.args.around.now = due l.here l.around c.args.around.now c.ends_at.result c.is_short.result l.invariant.same c.ends_at.ensures c.loop-around-test.true c.is_short.ensures c.if-is_short.false in
    tag_refused c.args.rules.now.table.now c.args.rules.now.top c.args.rules.now.total c.args.at c.args.around.now c.args.bytes.now l.members l.here l.rest.now c.in-Err.error l.invariant.passed is
    (subst (λ a. RefusesTag c.args.rules.now.table.now c.args.rules.now.top c.args.rules.now.total l.here a l.rest.now c.in-Err.error) l.invariant.same c.in-Err.ensures.tells)

pub members_at-returns-clause-tells : goal.members_at-returns-clause-tells
members_at-returns-clause-tells t c =
    let l = c.loop-around in
    all_passed c.args.rules.now.table.now c.args.rules.now.top c.args.at c.args.around.now c.args.bytes.now l.members l.here l.rest.now l.invariant.passed
    (subst (λ a. not (is_empty (closes l.here a)) ≡ true) l.invariant.same (sym c.ends_at.ensures ∙ c.loop-around-test.false))

pub tag_at-returns-then-bytes-lt8-clause-tells : goal.tag_at-returns-then-bytes-lt8-clause-tells
tag_at-returns-then-bytes-lt8-clause-tells t c = no_head c.args.rules.now.table.now c.args.rules.now.top c.args.rules.now.total c.args.at c.args.around.now c.args.bytes.now (omega arith)

pub tag_at-returns-in-Some-clause-tells : goal.tag_at-returns-in-Some-clause-tells
tag_at-returns-in-Some-clause-tells t c =
    let head = c.split_at.result.0.now in
    let rest = c.split_at.result.1.now in
    let o : Opens c.args.bytes.now head rest c.head_of-code.result.0 c.head_of-code.result.1 = opening c.args.bytes.now head rest _ _ c.split_at.ensures.front c.split_at.ensures.back (omega arith) (λ k. (c.type_inv.bytes k).fits) c.head_of-code.ensures.code c.head_of-code.ensures.len in
    faulty c.args.rules.now.table.now c.args.rules.now.top c.args.rules.now.total c.args.at c.args.around.now c.args.bytes.now head rest c.head_of-code.result.0 c.head_of-code.result.1 c.in-Some.error o c.in-Some.ensures

pub tag_at-returns-in-Ok-clause-tells : goal.tag_at-returns-in-Ok-clause-tells
tag_at-returns-in-Ok-clause-tells t c =
    let head = c.split_at.result.0.now in
    let rest = c.split_at.result.1.now in
    let o : Opens c.args.bytes.now head rest c.head_of-code.result.0 c.head_of-code.result.1 = opening c.args.bytes.now head rest _ _ c.split_at.ensures.front c.split_at.ensures.back (omega arith) (λ k. (c.type_inv.bytes k).fits) c.head_of-code.ensures.code c.head_of-code.ensures.len in
    let i : Enters c.args.rules.now.table.now c.args.rules.now.top c.args.at c.args.around.now c.head_of-code.result.0 c.head_of-code.result.1 c.parent.result c.kind_of-kind.result = record { fault = c.in_default.ensures; inside = c.parent.ensures; told = c.kind_of-kind.ensures } in
    list_read c.args.rules.now.table.now c.args.rules.now.top c.args.at c.args.around.now c.args.bytes.now head rest c.in-Ok.later.now c.head_of-code.result.0 c.head_of-code.result.1 c.parent.result c.kind_of-kind.result (trees_of c.in-Ok.members)
    o i (sym c.is_list.ensures ∙ c.if-is_list.true)
    (subst (λ a. ReadsRest c.args.rules.now.table.now c.args.rules.now.top (c.args.at + 8) a rest (trees_of c.in-Ok.members) c.in-Ok.later.now) c.in_ok-push.ensures.ok c.in-Ok.ensures.tells)

pub tag_at-returns-in-Err-clause-tells : goal.tag_at-returns-in-Err-clause-tells
tag_at-returns-in-Err-clause-tells t c =
    let head = c.split_at.result.0.now in
    let rest = c.split_at.result.1.now in
    let o : Opens c.args.bytes.now head rest c.head_of-code.result.0 c.head_of-code.result.1 = opening c.args.bytes.now head rest _ _ c.split_at.ensures.front c.split_at.ensures.back (omega arith) (λ k. (c.type_inv.bytes k).fits) c.head_of-code.ensures.code c.head_of-code.ensures.len in
    let i : Enters c.args.rules.now.table.now c.args.rules.now.top c.args.at c.args.around.now c.head_of-code.result.0 c.head_of-code.result.1 c.parent.result c.kind_of-kind.result = record { fault = c.in_default.ensures; inside = c.parent.ensures; told = c.kind_of-kind.ensures } in
    list_refused c.args.rules.now.table.now c.args.rules.now.top c.args.rules.now.total c.args.at c.args.around.now c.args.bytes.now head rest c.head_of-code.result.0 c.head_of-code.result.1 c.parent.result c.kind_of-kind.result c.in-Err.error
    o i (sym c.is_list.ensures ∙ c.if-is_list.true)
    (subst (λ a. RefusesRest c.args.rules.now.table.now c.args.rules.now.top c.args.rules.now.total (c.args.at + 8) a rest c.in-Err.error) c.in_ok-push.ensures.ok c.in-Err.ensures.tells)

pub tag_at-returns-then-rest-len-clause-tells : goal.tag_at-returns-then-rest-len-clause-tells
tag_at-returns-then-rest-len-clause-tells t c =
    let head = c.split_at.result.0.now in
    let rest = c.split_at.result.1.now in
    let o : Opens c.args.bytes.now head rest c.head_of-code.result.0 c.head_of-code.result.1 = opening c.args.bytes.now head rest _ _ c.split_at.ensures.front c.split_at.ensures.back (omega arith) (λ k. (c.type_inv.bytes k).fits) c.head_of-code.ensures.code c.head_of-code.ensures.len in
    let i : Enters c.args.rules.now.table.now c.args.rules.now.top c.args.at c.args.around.now c.head_of-code.result.0 c.head_of-code.result.1 c.parent.result c.kind_of-kind.result = record { fault = c.in_default.ensures; inside = c.parent.ensures; told = c.kind_of-kind.ensures } in
    cut_short c.args.rules.now.table.now c.args.rules.now.top c.args.rules.now.total c.args.at c.args.around.now c.args.bytes.now head rest c.head_of-code.result.0 c.head_of-code.result.1 c.parent.result c.kind_of-kind.result
    o i (sym c.is_list.ensures ∙ c.if-is_list.false) (omega arith)

pub tag_at-returns-clause-tells : goal.tag_at-returns-clause-tells
tag_at-returns-clause-tells t c =
    let head = c.split_at.result.0.now in
    let rest = c.split_at.result.1.now in
    let o : Opens c.args.bytes.now head rest c.head_of-code.result.0 c.head_of-code.result.1 = opening c.args.bytes.now head rest _ _ c.split_at.ensures.front c.split_at.ensures.back (omega arith) (λ k. (c.type_inv.bytes k).fits) c.head_of-code.ensures.code c.head_of-code.ensures.len in
    let i : Enters c.args.rules.now.table.now c.args.rules.now.top c.args.at c.args.around.now c.head_of-code.result.0 c.head_of-code.result.1 c.parent.result c.kind_of-kind.result = record { fault = c.in_default.ensures; inside = c.parent.ensures; told = c.kind_of-kind.ensures } in
    let small : AreBytes c.split_at-2.result.0.now = subst AreBytes (sym c.split_at-2.ensures.front) (bytes_take c.head_of-code.result.1 rest (subst AreBytes (sym c.split_at.ensures.back) (bytes_drop 8 c.args.bytes.now (λ k. (c.type_inv.bytes k).fits)))) in
    value_read c.args.rules.now.table.now c.args.rules.now.top c.args.at c.args.around.now c.args.bytes.now head rest c.split_at-2.result.0.now c.split_at-2.result.1.now c.head_of-code.result.0 c.head_of-code.result.1 c.parent.result c.kind_of-kind.result c.in_ok-value.value
    o i (sym c.is_list.ensures ∙ c.if-is_list.false) c.split_at-2.ensures.front c.split_at-2.ensures.back (omega arith) small c.in_ok-value.ensures
