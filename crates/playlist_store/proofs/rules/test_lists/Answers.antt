use Rattle.std.proofs.Common.{◌+◌, subst, sym, ◌≤◌}
use Rattle.std.specs.Option.{option_map_or}
use Rattle.share_history.specs.Histories.{edits}
use Rattle.key_versions.specs.Held.{behind}
use Rattle.playlist_store.specs.Changes.{TestsRule, LeavesRule, ticks_in, allowed, now_of}
use Rattle.playlist_store.proofs.BackFacts.{passed_more, rest_more, passed_all, everywhere_then, none_of}
use Rattle.playlist_store.proofs.RuleFacts.{rule_leaves_same, rule_leaves_then}
use Rattle.playlist_store.proofs.TickFacts.{tick_next, tick_end}
use Rattle.playlist_store.proofs.rules.test_lists.Goals as goal

pub returns-in-Err-clause-cost : goal.returns-in-Err-clause-cost
returns-in-Err-clause-cost g c = λ bs most h few.
    let id = c.in-Some.id in
    tick_end most (id + 1) c.args.steps.now c.test_list.new.steps
    (tick_next most (behind c.loop-id.last) id c.args.steps.now c.loop-id.steps c.test_list.new.steps _ c.in-Some.ensures.behind (c.loop-id.invariant.cost bs most h few) (c.test_list.ensures.cost bs h)
    (subst (λ x. option_map_or (ticks_in c.args.revision (edits bs) c.args.ids.now) (now_of x) 0 ≤ allowed id most) (sym (c.loop-id.invariant.rest id c.in-Some.ensures.behind)) (few id)))

pub loop-id-preserved : goal.loop-id-preserved
loop-id-preserved g c =
    let id = c.in-Some.id in
    let old = c.args.lists.now.entries in
    let mid = c.loop-id.lists.entries in
    let new = c.test_list.new.lists.entries in
    let inv = c.loop-id.invariant in
    record {
      passed = λ bs h.
          passed_more (TestsRule c.args.revision (edits bs) c.args.ids.now) old mid c.loop-id.last (inv.passed bs h) inv.rest new id c.in-Some.ensures.behind c.in-Some.ensures.between
          (c.in-Ok.ensures.tests bs h);
      rest = rest_more (LeavesRule c.args.revision c.args.ids.now) old mid c.loop-id.last (λ q lt. inv.leaves q) inv.rest new id c.in-Some.ensures.behind c.test_list.ensures.leaves;
      leaves = everywhere_then (LeavesRule c.args.revision c.args.ids.now) (rule_leaves_same c.args.revision c.args.ids.now) (rule_leaves_then c.args.revision c.args.ids.now) id old mid new inv.leaves c.test_list.ensures.leaves;
      cost = λ bs most h few.
          tick_next most (behind c.loop-id.last) id c.args.steps.now c.loop-id.steps c.test_list.new.steps _ c.in-Some.ensures.behind (inv.cost bs most h few) (c.test_list.ensures.cost bs h)
          (subst (λ x. option_map_or (ticks_in c.args.revision (edits bs) c.args.ids.now) (now_of x) 0 ≤ allowed id most) (sym (inv.rest id c.in-Some.ensures.behind)) (few id));
    }

pub returns-clause-tests : goal.returns-clause-tests
returns-clause-tests g c = λ bs h.
    passed_all (TestsRule c.args.revision (edits bs) c.args.ids.now) c.args.lists.now.entries c.loop-id.lists.entries c.loop-id.last (c.loop-id.invariant.passed bs h) c.loop-id.invariant.rest
    (none_of c.next_key.result _ c.in_default.not-Some c.next_key.ensures.none)

pub returns-clause-cost : goal.returns-clause-cost
returns-clause-cost g c = λ bs most h few. tick_end most (behind c.loop-id.last) c.args.steps.now c.loop-id.steps (c.loop-id.invariant.cost bs most h few)
