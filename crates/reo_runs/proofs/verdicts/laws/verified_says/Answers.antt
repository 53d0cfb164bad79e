use Rattle.std.proofs.Common.{refl}
use Rattle.reo_rounds.specs.Rules.{rules_of}
use Rattle.reo_runs.specs.Run.{start_of}
use Rattle.reo_runs.proofs.verdicts.ReplayLemmas.{run_replayed, replay_run}
use Rattle.reo_runs.proofs.verdicts.laws.verified_says.Goals as goal

pub returns : goal.returns
returns g c =
    let r = rules_of g.P.Primitive.behaviour g.P.Primitive.settled g.P.Ported.port_state g.P.Ported.placed g.P.Ported.withdrawn in
    λ nodes homes w components t. (
      λ verified. run_replayed r (start_of w components) refl t verified.0,
      λ replay. (replay_run r (start_of w components) refl t replay, refl, refl),
    )
