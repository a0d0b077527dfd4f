use Rattle.std.proofs.Common.{◌∙◌, ◌+◌, ◌++◌, ap, sym, subst, refl, drop, get_or, append-nil}
use Rattle.std.proofs.lemmas.List.{at_drop_more, at_drop_all}
use Rattle.dmap_tags.specs.Tree.{trees_of}
use Rattle.dmap_show.specs.Readable.{IsTag}
use Rattle.dmap_show.proofs.Alone.{alone_shown, alone_held}
use Rattle.std.proofs.lemmas.Result.{IfOk-from_err, on_ok_weaker, on_err_weaker}
use Rattle.dmap_tags.specs.declared.tree.Value.TheVariants as value
use Rattle.dmap_tags.proofs.Fronts.{begins_more}
use Rattle.dmap_show.proofs.Pushed.{begins_same, begins_added, begins_then, on_any_err}
use Rattle.dmap_show.proofs.Members.{members_shown, members_held, level_below, tag_added}
use Rattle.dmap_show.proofs.lines.+push_tag.Goals as goal

pub push_tag-returns-in_err-push_line : goal.push_tag-returns-in_err-push_line
push_tag-returns-in_err-push_line t c = record {
  shown = IfOk-from_err _ _ c.from_residual.ensures.0;
  held = IfOk-from_err _ _ c.from_residual.ensures.0;
  text = λ h. IfOk-from_err _ _ c.from_residual.ensures.0;
  front = on_any_err _ c.in_err-push_line.ensures.front;
}

pub push_tag-returns-in_err-below-in-List : goal.push_tag-returns-in_err-below-in-List
push_tag-returns-in_err-below-in-List t c = record {
  shown = IfOk-from_err _ _ c.from_residual-in_err-below-in-List.ensures.0;
  held = IfOk-from_err _ _ c.from_residual-in_err-below-in-List.ensures.0;
  text = λ h. IfOk-from_err _ _ c.from_residual-in_err-below-in-List.ensures.0;
  front = on_any_err _ (begins_added _ _ _ _ c.in_ok-push_line.ensures.shown (begins_same _));
}

pub push_tag-returns-in_ok-below-in-List : goal.push_tag-returns-in_ok-below-in-List
push_tag-returns-in_ok-below-in-List t c =
    let members = c.push_tags.result in
    let line = c.in_ok-push_line.ensures in
    let seen = c.args.value.now in
    let below = level_below _ _ _ _ c.in_ok-below-in-List.ensures.ok_part c.checked_add.ensures in
    let list = c.in-List.is ∙ ap value.List (sym c.as_slice.ensures) in
    record {
      shown = on_ok_weaker members (members_shown c.args.level _ c.args.code seen c.as_slice.result.now _ _ _ list below line.shown) c.push_tags.ensures.shown;
      held = on_ok_weaker members (members_held c.args.code seen c.as_slice.result.now list line.held) c.push_tags.ensures.held;
      text = λ h. c.push_tags.ensures.text (line.text h);
      front = on_err_weaker members (begins_then _ _ _ _ line.shown) c.push_tags.ensures.front;
    }

pub push_tags-returns-in_err-push_tag : goal.push_tags-returns-in_err-push_tag
push_tags-returns-in_err-push_tag t c = record {
  shown = IfOk-from_err _ _ c.from_residual.ensures.0;
  held = IfOk-from_err _ _ c.from_residual.ensures.0;
  text = λ h. IfOk-from_err _ _ c.from_residual.ensures.0;
  front = on_any_err _ (begins_more _ _ _ c.loop-tag.invariant.kept c.in_err-push_tag.ensures.front);
}

pub push_tags-loop-tag-init : goal.push_tags-loop-tag-init
push_tags-loop-tag-init t c = record { shown = refl; text = λ h. h; held = λ h. h; kept = begins_same _ }

pub push_tags-loop-tag-preserved : goal.push_tags-loop-tag-preserved
push_tags-loop-tag-preserved t c =
    let tags = c.args.tags.now in
    let i = c.loop-tag.tag-index in
    let put = c.in_ok-push_tag.ensures in
    let so_far = c.loop-tag.invariant in
    let at = at_drop_more trees_of tags i c.tag-item.result c.loop-tag-test.true in
    let same = sym c.tag-item.is ∙ sym c.tag.view_is in
    record {
      shown = tag_added c.args.level (get_or tags i c.tag-item.result) (trees_of (drop (i + 1) tags)) _ _ _ (rw same put.shown) (rw at at so_far.shown);
      text = λ h. put.text (so_far.text h);
      held = λ h. so_far.held (rw at (subst IsTag (sym same) put.held, h));
      kept = begins_added _ _ _ _ put.shown so_far.kept;
    }

pub push_tags-returns : goal.push_tags-returns
push_tags-returns t c =
    let so_far = c.loop-tag.invariant in
    let end = at_drop_all trees_of c.args.tags.now c.loop-tag.tag-index c.loop-tag-test.false in
    record {
      shown = sym (append-nil _) ∙ rw end at so_far.shown;
      held = so_far.held (rw end tt);
      text = so_far.text;
      front = tt;
    }

pub push_tag-returns-in_default : goal.push_tag-returns-in_default
push_tag-returns-in_default t c = record {
  shown = c.in_ok-push_line.ensures.shown ∙ ap (λ xs. c.args.out.now.items ++ xs) (alone_shown c.args.level c.args.code c.args.value.now c.in_default.not-List);
  held = alone_held c.args.code c.args.value.now c.in_default.not-List c.in_ok-push_line.ensures.held;
  text = c.in_ok-push_line.ensures.text;
  front = tt;
}
