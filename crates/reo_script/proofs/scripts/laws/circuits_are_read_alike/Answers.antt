-- Reading a rule of circuits in scripts.
use Rattle.reo_script.specs.scripts.Alike.{reads_alike}
use Rattle.reo_script.proofs.scripts.laws.circuits_are_read_alike.Goals as goal

pub returns : goal.returns
returns c = reads_alike
