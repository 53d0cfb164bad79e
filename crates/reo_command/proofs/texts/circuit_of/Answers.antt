use Rattle.reo_command.proofs.PortLemmas.{its_ports}
use Rattle.reo_command.proofs.texts.circuit_of.Goals as goal

pub returns-in-Ok-flatten-clause-ports : goal.returns-in-Ok-flatten-clause-ports
returns-in-Ok-flatten-clause-ports c =
    let are = c.flat_ports_fit.ensures c.in-Ok.program c.in-Ok.ensures.spelled c.in-Ok-flatten.ensures.exact.no_break in
    let told = c.ports_are_told.ensures c.in-Ok.program (record { spelled = c.in-Ok.ensures.spelled; plain = c.in-Ok.ensures.plain; accepted = c.in-Ok-flatten.ensures.exact }) in
    its_ports c.in-Ok.program c.in-Ok-flatten.flat.circuit c.in-Ok-flatten.flat.ports.list are told c.in-Ok-flatten.ensures.circuit c.in-Ok-flatten.ensures.ports
