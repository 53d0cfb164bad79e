use Rattle.std.proofs.Common.{sym, subst}
use Rattle.reo_script.specs.Places.{ArePortsOf}
use Rattle.reo_script_tests.proofs.Known.{are_ports}
use Rattle.reo_script_tests.proofs.reading.script_of.Goals as goal

-- src/reading.rt:31:9
pub read_script-requires-clause-ports : goal.read_script-requires-clause-ports
read_script-requires-clause-ports c = subst ArePortsOf (sym c.in_ok-ports.ensures) are_ports
