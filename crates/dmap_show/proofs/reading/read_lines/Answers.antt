-- Each line leads on to a longer draft, or stops the text.
use Rattle.std.proofs.Common.{◌≡◌, ◌<◌, ◌+◌, ◌++◌, ◌∷◌, [], false, length, refl, sym, ap, ◌∙◌, subst, arith}
use Rattle.dmap_show.specs.declared.draft.Draft.{Draft}
use Rattle.dmap_show.specs.TextLines.{has, first_lines}
use Rattle.dmap_show.specs.Follows.{Follows}
use Rattle.dmap_show.proofs.Following.{follows_start, follows_line, lines_more, behind_more, before_free, behind_shorter, lines_all, stops_line, stops_end}
use Rattle.dmap_show.proofs.reading.read_lines.Goals as goal

pub loop-left-init : goal.loop-left-init
loop-left-init c = record {
  left = refl;
  count = omega arith;
  follows = subst (λ (d : Draft). Follows c.args.table.now [] d.around d.here) (sym c.new-draft.ensures) (follows_start c.args.table.now);
}

pub returns-in_default : goal.returns-in_default
returns-in_default c =
    let inv = c.loop-left.invariant in
    let d = c.loop-left.draft in
    (c.loop-left.line, (refl, stops_end c.args.table.now c.args.text.now c.loop-left.line c.loop-left.left.now d.around d.here (sym c.is_empty.ensures ∙ c.loop-left-test.true) inv.left c.in_default.ensures inv.follows))

pub returns-in_default-2 : goal.returns-in_default-2
returns-in_default-2 c =
    let inv = c.loop-left.invariant in
    let d = c.loop-left.draft in
    let split = c.in-Some.ensures in (
      c.loop-left.line,
      (
        refl,
        stops_line c.args.table.now c.args.text.now c.loop-left.line c.loop-left.left.now d.around d.here inv.left split.0
            (λ level t h e. rw c.in_default-2.is at (c.in_ok-longer.ensures.only level t h (split.1.0 ∙ e))) inv.follows,
      ),
    )

pub loop-left-smaller : goal.loop-left-smaller
loop-left-smaller c =
    let split = c.in-Some.ensures in
    subst (λ x. length x < length c.loop-left.left.now) (sym split.1.1) (behind_shorter 10 c.loop-left.left.now split.0)

pub loop-left-preserved : goal.loop-left-preserved
loop-left-preserved c =
    let inv = c.loop-left.invariant in
    let n = c.loop-left.line in
    let rows = c.args.table.now in
    let text = c.args.text.now in
    let left = c.loop-left.left.now in
    let d = c.loop-left.draft in
    let longer = c.in-Some-2.longer in
    let bare = c.in-Some.bare.now in
    let split = c.in-Some.ensures in
    let shorter : length c.in-Some.rest.now < length left = subst (λ x. length x < length left) (sym split.1.1) (behind_shorter 10 left split.0) in
    let free : has 10 bare ≡ false = ap (has 10) split.1.0 ∙ before_free 10 left in
    let took = rw c.in-Some-2.is at c.in_ok-longer.ensures.took in
    let on = follows_line rows (first_lines n text) d.around d.here bare (record { around = longer.around; here = longer.here }) free took
    (λ level t h e. rw c.in-Some-2.is at (c.in_ok-longer.ensures.only level t h e)) inv.follows in
    let lines : first_lines n text ++ (bare ++ 10 ∷ []) ≡ first_lines (n + 1) text = ap (λ x. first_lines n text ++ (x ++ 10 ∷ [])) split.1.0 ∙ sym (lines_more n text left inv.left split.0) in
    record {
      left = split.1.1 ∙ behind_more n text left inv.left;
      count = omega (arith, inv.count, shorter);
      follows = subst (λ x. Follows rows x longer.around longer.here) lines on;
    }

pub returns : goal.returns
returns c =
    let inv = c.loop-left.invariant in
    let d = c.loop-left.draft in
    subst (λ x. Follows c.args.table.now x d.around d.here) (lines_all c.loop-left.line c.args.text.now c.loop-left.left.now (sym c.is_empty.ensures ∙ c.loop-left-test.false) inv.left) inv.follows
