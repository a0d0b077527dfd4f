use Rattle.std.proofs.Common.{sym, subst, ◌∙◌}
use Rattle.item_store.specs.Stands.{StandsFor}
use Rattle.share_history.specs.Histories.{edits}
use Rattle.playlist_store.specs.Changes.{Tells, TestsRule, Everywhere}
use Rattle.playlist_store.proofs.FrameFacts.{frames_then, rule_frames}
use Rattle.playlist_store.proofs.RuleFacts.{unlooked_all, no_length, all_taken}
use Rattle.playlist_store.proofs.batches.take_in_all.Goals as goal

pub returns-then-not-has_rule_put-clause-taken : goal.returns-then-not-has_rule_put-clause-taken
returns-then-not-has_rule_put-clause-taken g c = λ bs es h is early start.
    let mid = c.take_in.new.lists.entries in
    let told = subst (λ ds. Tells c.args.revision ds c.args.batch.now c.args.lists.now.entries mid) (sym is) (c.in-Ok.ensures.tells es start) in
    record {
      mid = mid;
      tells = told;
      tests = subst (λ ids. Everywhere (TestsRule c.args.revision (edits bs) ids) mid mid) c.requires.ids
          (unlooked_all c.args.revision (edits bs) c.args.batch.now c.args.ids.now c.args.lists.now.entries mid (no_length c.args.ids.now (sym c.is_empty.ensures ∙ c.if-is_empty.true))
          (sym c.has_rule_put.ensures ∙ c.if-not-has_rule_put.true) early told);
    }

pub returns-clause-taken : goal.returns-clause-taken
returns-clause-taken g c =
    all_taken c.test_lists.result (λ bs. StandsFor bs c.args.items.now) c.args.revision c.args.batch.now c.args.ids.now c.args.lists.now.entries c.take_in.new.lists.entries c.test_lists.new.lists.entries
    c.requires.ids c.in-Ok.ensures.tells c.test_lists.ensures.tests

pub returns-clause-frames : goal.returns-clause-frames
returns-clause-frames g c =
    frames_then c.args.revision c.args.batch.now c.args.lists.now.entries c.take_in.new.lists.entries c.test_lists.new.lists.entries c.take_in.ensures.frames
    (rule_frames c.args.revision c.args.ids.now c.args.batch.now c.take_in.new.lists.entries c.test_lists.new.lists.entries c.requires.some c.requires.ids c.test_lists.ensures.leaves)
