use Rattle.std.proofs.Common.{sym, subst}
use Rattle.std.specs.List.{All}
use Rattle.reo_net_base.specs.declared.port.Port.{Port}
use Rattle.reo_rules.specs.literals.Items.{HasFewNames}
use Rattle.reo_script_tests.proofs.Known.{are_ports}
use Rattle.reo_script_tests.proofs.reading.event_of.Goals as goal

pub read_event-requires-clause-ports : goal.read_event-requires-clause-ports
read_event-requires-clause-ports c = subst (All (λ (p : Port). HasFewNames p.kindred)) (sym c.in_ok-ports.ensures) are_ports.few
