use Rattle.std.proofs.Common.{flat_map, refl}
use Rattle.std.proofs.lemmas.List.{at_drop_more}
use Rattle.std.proofs.lemmas.Result.{IfOk-from_err}
use Rattle.dmap_tags.proofs.Fronts.{begins_more}
use Rattle.dmap_show.specs.Shown.{hex}
use Rattle.dmap_show.proofs.Pushed.{added_more, added_all, begins_same, begins_added, on_any_err}
use Rattle.dmap_show.proofs.adding.push_hex_digits.Goals as goal

pub returns-in_err-push_hex-clause-shown : goal.returns-in_err-push_hex-clause-shown
returns-in_err-push_hex-clause-shown c = IfOk-from_err _ _ c.from_residual.ensures.0

pub returns-in_err-push_hex-clause-front : goal.returns-in_err-push_hex-clause-front
returns-in_err-push_hex-clause-front c = on_any_err _ (begins_more _ _ _ c.loop-byte.invariant.kept c.in_err-push_hex.ensures.front)

pub loop-byte-init : goal.loop-byte-init
loop-byte-init c = record { shown = refl; text = λ h. h; kept = begins_same _ }

pub loop-byte-preserved : goal.loop-byte-preserved
loop-byte-preserved c =
    let at = at_drop_more (flat_map hex) c.args.bytes.now c.loop-byte.byte-index 0 c.loop-byte-test.true in
    record {
      shown = added_more hex _ _ _ _ _ c.in_ok-push_hex.ensures.shown (rw at at c.loop-byte.invariant.shown);
      text = λ h. c.in_ok-push_hex.ensures.text (c.loop-byte.invariant.text h);
      kept = begins_added _ _ _ _ c.in_ok-push_hex.ensures.shown c.loop-byte.invariant.kept;
    }

pub returns-clause-shown : goal.returns-clause-shown
returns-clause-shown c = added_all hex c.args.bytes.now _ _ c.loop-byte.byte-index c.loop-byte-test.false c.loop-byte.invariant.shown
