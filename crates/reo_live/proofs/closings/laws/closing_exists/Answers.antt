use Rattle.std.proofs.Common.{[], take, refl}
use Rattle.reo_rounds.specs.Rules.{rules_of}
use Rattle.reo_rounds.specs.Lasting.{KeepsShape}
use Rattle.reo_live.specs.base.Live.{beginning}
use Rattle.reo_live.specs.closings.Sources.{most_events}
use Rattle.reo_live.proofs.closings.ClosingLemmas.{goes_on, after_none}
use Rattle.reo_live.proofs.closings.laws.closing_exists.Goals as goal

pub returns : goal.returns
returns g c =
    let r = rules_of g.P.Primitive.behaviour g.P.Primitive.settled g.P.Ported.port_state g.P.Ported.placed g.P.Ported.withdrawn in
    let shape : KeepsShape r = record { lawful = g.met.P.Primitive.lawful; settled = g.met.P.Primitive.settled_shape; placed = g.met.P.Ported.placed_shape; withdrawn = g.met.P.Ported.withdrawn_shape } in
    λ ports budget w events order.
    goes_on r ports budget c.cuts_change_nothing.ensures w c.hearing_exists.ensures shape order events [] (take most_events events.bytes) (beginning w) [] refl (after_none r ports budget w)
