use Rattle.std.proofs.Common.{refl}
use Rattle.reo_rounds.specs.Rules.{rules_of}
use Rattle.reo_runs.proofs.verdicts.VerifiedLemmas.{run_kept}
use Rattle.reo_runs.proofs.verdicts.laws.runs_are_verified.Goals as goal

pub returns : goal.returns
returns g c =
    let r = rules_of g.P.Primitive.behaviour g.P.Primitive.settled g.P.Ported.port_state g.P.Ported.placed g.P.Ported.withdrawn in
    λ budget limit nodes homes start t run. (run_kept r budget limit start t.rounds t.ending run, refl, refl)
