use Rattle.std.proofs.Common.{◌+◌, ◌++◌, get_or, drop, flat_map, refl}
use Rattle.std.proofs.lemmas.List.{at_drop_more}
use Rattle.std.proofs.lemmas.Result.{IfOk-from_err}
use Rattle.dmap_tags.proofs.Fronts.{begins_more}
use Rattle.dmap_show.specs.Shown.{escaped}
use Rattle.dmap_show.proofs.Pushed.{added_more, added_all, begins_same, begins_added, on_any_err}
use Rattle.dmap_show.proofs.adding.push_all_escaped.Goals as goal

pub returns-in_err-push_escaped-clause-shown : goal.returns-in_err-push_escaped-clause-shown
returns-in_err-push_escaped-clause-shown c = IfOk-from_err _ _ c.from_residual.ensures.0

pub returns-in_err-push_escaped-clause-front : goal.returns-in_err-push_escaped-clause-front
returns-in_err-push_escaped-clause-front c = on_any_err _ (begins_more _ _ _ c.loop-byte.invariant.kept c.in_err-push_escaped.ensures.front)

pub loop-byte-init : goal.loop-byte-init
loop-byte-init c = record { shown = refl; kept = begins_same _ }

pub loop-byte-preserved : goal.loop-byte-preserved
loop-byte-preserved c =
    let bytes = c.args.bytes.now in
    let i = c.loop-byte.byte-index in
    let at = at_drop_more (flat_map escaped) bytes i 0 c.loop-byte-test.true in
    record {
      shown =
          added_more escaped (get_or bytes i 0) (drop (i + 1) bytes) c.loop-byte.out.items c.push_escaped.new.out.items (c.args.out.now.items ++ flat_map escaped bytes) c.in_ok-push_escaped.ensures.shown
          (rw at at c.loop-byte.invariant.shown);
      kept = begins_added _ _ _ _ c.in_ok-push_escaped.ensures.shown c.loop-byte.invariant.kept;
    }

pub returns-clause-shown : goal.returns-clause-shown
returns-clause-shown c = added_all escaped c.args.bytes.now _ _ c.loop-byte.byte-index c.loop-byte-test.false c.loop-byte.invariant.shown
