use Rattle.std.proofs.Common.{◌≡◌, ◌∷◌, [], ◌++◌, ◌∙◌}
use Rattle.edit_file.specs.Files.{HasBatches, place_of}
use Rattle.serve_command.proofs.Returning.{ok_and}
use Rattle.serve_command.proofs.placed.NamedFileKeeps.keep.Goals as goal

pub returns-clause-acknowledged : goal.returns-clause-acknowledged
returns-clause-acknowledged g c = λ batches batch keeps is_for.
    ok_and c.keep.result (HasBatches g.D.Disk c.keep.new.self (batches ++ batch ∷ [])) (place_of g.D.Disk c.keep.new.self ≡ g.P.Placed.place)
    (c.keep.ensures.acknowledged batches batch keeps.0 is_for) (c.keep.ensures.place_stays ∙ keeps.1)
