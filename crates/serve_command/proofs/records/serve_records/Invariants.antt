use Rattle.edit_file.specs.Files.{place_of}
use Rattle.serve_command.proofs.records.serve_records.Given as goal

-- the name of the file that was opened
abbrev pub ghosts-serve_kept : goal.ghosts-serve_kept
ghosts-serve_kept g a = record { place = place_of g.F.D.Disk a.file }
