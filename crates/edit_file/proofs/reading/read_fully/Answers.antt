-- One more read returns the next bytes.
use Rattle.std.proofs.Common.{ℕ, ◌+◌, List, ◌++◌, take, drop, ap, sym, ◌∙◌, length-drop, arith}
use Rattle.std.proofs.lemmas.Grind.{common_steps}
use Rattle.std.proofs.lemmas.List.{drop-drop}
use Rattle.edit_file.proofs.Fronts.{read_more}
use Rattle.edit_file.proofs.Quiet.{if_told, told_of, quiet_then, quiet_read}
use Rattle.edit_file.proofs.reading.read_fully.Goals as goal

pub loop-done-preserved : goal.loop-done-preserved
loop-done-preserved g c = record {
  within = grind (arith, common_steps);
  size = grind (arith, common_steps);
  front = if_told _ _ (λ b e.
      let before = told_of _ _ b e c.loop-done.invariant.front in
      let read = told_of _ _ b (c.loop-done.invariant.bytes ∙ e) c.in_ok-n.ensures.reads in
      let next = read.taken ∙ ap (λ (l : List ℕ). take c.in_ok-n.n l) (sym (drop-drop c.loop-done.done c.args.at b)) in (
        ap (λ (l : List ℕ). take (c.loop-done.done + c.in_ok-n.n) (l ++ c.read_at.new.room)) c.split_at_mut-rest.ensures.front
            ∙ read_more (drop c.args.at b) c.loop-done.room c.read_at.new.room c.loop-done.done c.in_ok-n.n c.loop-done.invariant.within before.1 before.0 next,
        omega (arith, before.1, read.within, length-drop (c.args.at + c.loop-done.done) b, length-drop c.args.at b),
      ));
  bytes = c.in_ok-n.ensures.bytes_stay ∙ c.loop-done.invariant.bytes;
  quiet = quiet_then g.D.Disk _ _ _ c.loop-done.invariant.quiet
      (quiet_read g.D.Disk _ _ c.read_at.ensures.time c.read_at.ensures.images_stay);
  told = c.read_at.ensures.told_stays ∙ c.loop-done.invariant.told;
  name = c.read_at.ensures.name_stays ∙ c.loop-done.invariant.name;
  faultless = c.in_ok-n.ensures.count ∙ c.loop-done.invariant.faultless;
}
