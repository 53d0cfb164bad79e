use Rattle.reo_rounds.specs.RoundOn.{first_within}
use Rattle.reo_rounds.specs.Rules.{rules_of}
use Rattle.reo_rounds.proofs.RoundLemmas.{round_by}
use Rattle.reo_rounds.proofs.laws.planned_rounds_are_made.Goals as goal

pub returns : goal.returns
returns g c =
    let r = rules_of g.P.Primitive.behaviour g.P.Primitive.settled g.P.Ported.port_state g.P.Ported.placed g.P.Ported.withdrawn in
    λ budget turn w p planned. round_by r turn w (first_within budget) p.plan p.line (planned.plan.within, planned.plan.first) planned.plan.shows planned.line_is
