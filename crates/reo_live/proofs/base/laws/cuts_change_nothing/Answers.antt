use Rattle.reo_rounds.specs.Rules.{rules_of}
use Rattle.reo_live.proofs.base.SumLemmas.{after-sum}
use Rattle.reo_live.proofs.base.laws.cuts_change_nothing.Goals as goal

pub returns : goal.returns
returns g c =
    let r = rules_of g.P.Primitive.behaviour g.P.Primitive.settled g.P.Ported.port_state g.P.Ported.placed g.P.Ported.withdrawn in
    λ ports budget s t u a b x y h k. after-sum r ports budget s t u a b x y h k
