use Rattle.reo_rounds.specs.Rules.{rules_of}
use Rattle.reo_engine.proofs.MadeLemmas.{round_is}
use Rattle.reo_engine.proofs.laws.made_rounds_are_rounds.Goals as goal

pub returns : goal.returns
returns g c = round_is (rules_of g.P.Primitive.behaviour g.P.Primitive.settled g.P.Ported.port_state g.P.Ported.placed g.P.Ported.withdrawn)
