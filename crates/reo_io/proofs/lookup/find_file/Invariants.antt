use Rattle.std.proofs.Common.{◌≡◌, drop}
use Rattle.reo_io.specs.Fetches.{first_of}
use Rattle.reo_io.proofs.lookup.find_file.Given as goal

abbrev pub invariant-loop-file : goal.invariant-loop-file
invariant-loop-file l = first_of l.files l.name ≡ first_of (drop l.file-index l.files) l.name
