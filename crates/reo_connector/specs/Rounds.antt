-- Rounds that connectors make.
use Rattle.std.specs.Prelude.{ℕ, ◌≡◌, ◌+◌}
use Rattle.reo_kinds.specs.Kinds.{behaviour_of, settled_kind}
use Rattle.reo_net_base.specs.Step.{stepped}
use Rattle.reo_rounds.specs.Plans.{IsPlan}
use Rattle.reo_rounds.specs.declared.plan.Done.{Done}
use Rattle.reo_rounds.specs.declared.plan.Plan.{Plan}
use Rattle.reo_connector.specs.Held.{Held, net_in, with_primitives}

-- The connector behind a round by these rows and items.
abbrev pub after_round : Held → Plan → Held
after_round c plan = record (with_primitives c
    (stepped behaviour_of settled_kind c.circuit plan.colouring.rows plan.colouring.items)) {
      rounds = c.rounds + 1;
    }

-- What is said of a round is what its plan shows.
pub record IsToldOf (plan : Plan) (done : Done) : Type 0 where
  pub moves : done.moves ≡ plan.moves
  pub idle : done.idle ≡ plan.idle
  pub jammed : done.jammed ≡ plan.jammed

-- The round that comes next was made: by the first colouring, where no part is over the budget.
pub record IsMade (budget : ℕ) (old new : Held) (done : Done) : Type 0 where
  pub plan : Plan
  pub planned : IsPlan budget (net_in old) old.circuit.ports (old.rounds + 1) plan
  pub made : new ≡ after_round old plan
  pub told : IsToldOf plan done
