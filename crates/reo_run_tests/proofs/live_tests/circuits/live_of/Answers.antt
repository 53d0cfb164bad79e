use Rattle.std.proofs.Common.{refl}
use Rattle.reo_flat.specs.Flat.{ports_of}
use Rattle.reo_runs.proofs.at_ports.Begun.{just_ports}
use Rattle.reo_run_tests.proofs.live_tests.circuits.live_of.Goals as goal

pub new-requires-clause-just : goal.new-requires-clause-just
new-requires-clause-just c =
    let program = c.in_ok-program.program in
    let fit = c.flat_ports_fit.ensures program c.in_ok-program.ensures.spelled c.in-Ok.ensures.exact.no_break in
    rw c.in-Ok.ensures.circuit (just_ports _ _ (ports_of program.declarations) refl fit.ports)
