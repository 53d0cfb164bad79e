-- A round that is made is the round of the circuit.
use Rattle.std.proofs.Common.{refl, ap}
use Rattle.reo_net_base.specs.Net.{net_of}
use Rattle.reo_trace.specs.declared.line.RoundLine.{RoundLine}
use Rattle.reo_trace.specs.Entries.{line_for}
use Rattle.reo_rounds.specs.Rules.{Rules}
use Rattle.reo_engine.specs.MadeRounds.{MadeRoundsAreRounds}

pub round_is : {P : Type 0} (r : Rules P) → MadeRoundsAreRounds r
round_is r budget turn w s is = record {
  rows = s.colouring.rows;
  items = s.colouring.items;
  suits = (is.within, is.is_made.first);
  shown = ap (λ (l : RoundLine). line_for (net_of r.behaviour w) turn s.colouring.rows l.moves) is.is_made.line;
  circuit = refl;
}
