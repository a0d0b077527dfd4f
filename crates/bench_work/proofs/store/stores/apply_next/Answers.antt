use Rattle.std.proofs.Common.{ℕ, length, sym, subst, arith}
use Rattle.share_listings.specs.Answers.{HaveEdits}
use Rattle.share_listings.proofs.Samples.{more_in_both}
use Rattle.bench_work.proofs.store.stores.apply_next.Goals as goal

pub returns : goal.returns
returns g c =
    subst (λ (n : ℕ). HaveEdits n c.apply.new.self c.apply-2.new.self) (sym c.in_ok-edits.ensures)
    (more_in_both c.args.stores.now.edits (length c.args.batch.now) c.args.batch.now c.args.stores.now.items c.apply.new.self c.args.stores.now.lists c.apply-2.new.self c.requires.few (omega arith)
    c.in_ok-apply.ensures.stands c.in_ok-apply-2.ensures.stands c.in_ok-apply.ensures.keep c.in_ok-apply-2.ensures.keep)
