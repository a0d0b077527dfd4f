-- The first byte closes until what follows it is safe, and either value of it leaves no batches.
use Rattle.std.proofs.Common.{◌≡◌, ℕ, List, [], ◌∷◌, ◌++◌, get_or, ap, ◌∙◌, option_map, Some}
use Rattle.outside_disks.specs.Disks.{overlaid, Torn}
use Rattle.edit_file.specs.Standing.{signature, FileStands}
use Rattle.edit_file.proofs.Moments.{run_does, run_goes_on, held_follows, now_held}
use Rattle.edit_file.proofs.Unfinished.{head_unmade, head_written, open_empty, unmade_stands}
use Rattle.edit_file.proofs.making.make_begun.Goals as goal

pub returns-in_err-write_safely-clause-crash : goal.returns-in_err-write_safely-clause-crash
returns-in_err-write_safely-clause-crash g c bytes begun held =
    run_does g.D.Disk g.met.D.Disk.now_alone _ _ _ (λ image. FileStands image []) c.write_safely.ensures.does
    (λ image follows. unmade_stands image (head_unmade bytes image begun (held_follows g.D.Disk (Torn 1 9) _ bytes image held follows)))

pub returns-clause-crash : goal.returns-clause-crash
returns-clause-crash g c bytes begun held =
    let first = run_does g.D.Disk g.met.D.Disk.now_alone _ _ _ (λ image. FileStands image []) c.write_safely.ensures.does
    (λ image follows. unmade_stands image (head_unmade bytes image begun (held_follows g.D.Disk (Torn 1 9) _ bytes image held follows))) in
    let written : g.D.Disk.bytes c.write_safely.new.disk ≡ Some (get_or bytes 0 0 ∷ signature ++ 0 ∷ []) =
    c.in_ok-write_safely.ensures.written
    ∙ ap (λ b. option_map (λ l. overlaid l 1 (signature ++ 0 ∷ [])) b) held.told
    ∙ ap (λ (l : List ℕ). Some l) (head_written bytes begun) in
    let mid = now_held g.D.Disk _ (get_or bytes 0 0 ∷ signature ++ 0 ∷ []) written c.in_ok-write_safely.ensures.safe in
    run_goes_on g.D.Disk g.met.D.Disk.now_alone _ _ _ _ (λ image. FileStands image []) first c.write_safely-2.ensures.does
    (λ image follows. open_empty (get_or bytes 0 0) image (held_follows g.D.Disk (Torn 0 1) _ (get_or bytes 0 0 ∷ signature ++ 0 ∷ []) image mid follows))
