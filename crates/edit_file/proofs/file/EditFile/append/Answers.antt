-- What the disk holds and what a crash may leave, as batches.
use Rattle.std.proofs.Common.{rules, ◌≡◌, ℕ, ◌+◌, length, List, [], ◌∷◌, ◌++◌, Bool, IfSome, MatchBool, sym, subst}
use Rattle.edit_file.specs.Files.{AtRest, StandsForOrOneMore}
use Rattle.edit_file.specs.Moments.{Holds}
use Rattle.edit_file.specs.Standing.{opened}
use Rattle.edit_file.proofs.Appended.{sound_file, append_crash, append_rest, broken_images}
use Rattle.edit_file.proofs.file.EditFile.append.Goals as goal

pub returns-then-is_err-clause-crash : goal.returns-then-is_err-clause-crash
returns-then-is_err-clause-crash g c batches sound has =
    append_crash g.D.Disk _ _ _ _ batches c.args.frame c.as_slice-text.ensures c.add_behind.ensures.crash (sound_file g.D.Disk c.args.self.now batches sound has)

pub returns-then-is_err-clause-kept : goal.returns-then-is_err-clause-kept
returns-then-is_err-clause-kept g c batches has =
    broken_images g.D.Disk _ _ batches c.args.frame c.add_behind.ensures.named.told_stays
    (append_crash g.D.Disk _ _ _ _ batches c.args.frame c.as_slice-text.ensures c.add_behind.ensures.crash (sound_file g.D.Disk c.args.self.now batches c.if-self.false has))

pub returns-clause-crash : goal.returns-clause-crash
returns-clause-crash g c batches sound has =
    append_crash g.D.Disk _ _ _ _ batches c.args.frame c.as_slice-text.ensures c.add_behind.ensures.crash (sound_file g.D.Disk c.args.self.now batches sound has)

pub returns-clause-acknowledged : goal.returns-clause-acknowledged
returns-clause-acknowledged g c batches has =
    let added : (front : List ℕ) (shut : ℕ) → length front ≡ c.args.self.now.closing → Holds g.D.Disk c.args.self.now.disk (front ++ shut ∷ [])
    → Holds g.D.Disk c.add_behind.new.disk (front ++ opened ∷ c.as_slice-text.result.now) =
    λ front shut place held. let one = c.add_behind.ensures.added front shut place held in search rules in
    let whole = append_rest g.D.Disk _ _ c.args.self.now.closing c.as_slice-text.result.now batches c.args.frame c.as_slice-text.ensures added c.add_behind.ensures.named.told_stays
    (sound_file g.D.Disk c.args.self.now batches c.if-self.false has) in
    subst (λ (b : Bool). MatchBool b
    (IfSome (g.D.Disk.bytes c.add_behind.new.disk) (λ _. (image : List ℕ) → g.D.Disk.images c.add_behind.new.disk image → StandsForOrOneMore (batches ++ c.args.frame ∷ []) image))
    (IfSome (g.D.Disk.bytes c.add_behind.new.disk) (λ bytes. AtRest bytes (c.args.self.now.closing + length c.as_slice-text.result.now) (batches ++ c.args.frame ∷ []) × Holds g.D.Disk c.add_behind.new.disk bytes)))
    (sym c.if-self.false) whole

pub returns-then-is_err-clause-acknowledged : goal.returns-then-is_err-clause-acknowledged
returns-then-is_err-clause-acknowledged g c = search rules

pub returns-then-is_err-clause-broken : goal.returns-then-is_err-clause-broken
returns-then-is_err-clause-broken g c = search rules

pub returns-then-is_err-clause-unchanged : goal.returns-then-is_err-clause-unchanged
returns-then-is_err-clause-unchanged g c = search rules

pub returns-then-is_err-clause-breaks : goal.returns-then-is_err-clause-breaks
returns-then-is_err-clause-breaks g c = search rules

pub returns-then-is_err-clause-told_stays : goal.returns-then-is_err-clause-told_stays
returns-then-is_err-clause-told_stays g c = search rules

pub returns-then-is_err-clause-name_stays : goal.returns-then-is_err-clause-name_stays
returns-then-is_err-clause-name_stays g c = search rules

pub returns-then-is_err-clause-count : goal.returns-then-is_err-clause-count
returns-then-is_err-clause-count g c = search rules

pub returns-clause-kept : goal.returns-clause-kept
returns-clause-kept g c = search rules

pub returns-clause-broken : goal.returns-clause-broken
returns-clause-broken g c = search rules

pub returns-clause-unchanged : goal.returns-clause-unchanged
returns-clause-unchanged g c = search rules

pub returns-clause-breaks : goal.returns-clause-breaks
returns-clause-breaks g c = search rules

pub returns-clause-told_stays : goal.returns-clause-told_stays
returns-clause-told_stays g c = search rules

pub returns-clause-name_stays : goal.returns-clause-name_stays
returns-clause-name_stays g c = search rules

pub returns-clause-count : goal.returns-clause-count
returns-clause-count g c = search rules

pub returns-then-self : goal.returns-then-self
returns-then-self g c = search rules
