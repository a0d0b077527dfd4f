-- Bytes that begin with the head are read whole, and as the head.
use Rattle.std.proofs.Common.{rules, ◌≢◌, ℕ, ◌∷◌, take, ap, ◌∙◌, arith}
use Rattle.edit_file.specs.Standing.{opened, signature}
use Rattle.edit_file.proofs.Opened.{head_read}
use Rattle.edit_file.proofs.Quiet.{told_of}
use Rattle.edit_file.proofs.opening.has_head.Goals as goal

pub returns-then-n-ne9-clause-exact : goal.returns-then-n-ne9-clause-exact
returns-then-n-ne9-clause-exact g c b told is =
    let fills = told_of _ _ b told c.in_ok-n.ensures.reads in
    let other : c.in_ok-n.n ≢ 9 = search rules in
    other (head_read b c.read_fully.new.room c.in_ok-n.n (omega (arith, fills.within, c.in_ok-n.ensures.size)) c.in_ok-n.ensures.size
    (fills.taken ∙ ap (λ (n : ℕ). take n b) c.in_ok-n.ensures.size) is).0

pub returns-then-ne-clause-exact : goal.returns-then-ne-clause-exact
returns-then-ne-clause-exact g c b told is =
    let fills = told_of _ _ b told c.in_ok-n.ensures.reads in
    let other : c.read_fully.new.room ≢ opened ∷ signature = search rules in
    other (head_read b c.read_fully.new.room c.in_ok-n.n (omega (arith, fills.within, c.in_ok-n.ensures.size)) c.in_ok-n.ensures.size
    (fills.taken ∙ ap (λ (n : ℕ). take n b) c.in_ok-n.ensures.size) is).1
