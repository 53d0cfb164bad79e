-- Classes in other rounds.
use Rattle.std.specs.Prelude.{ℕ, ◌<◌, ◌≤◌, ◌≡◌}
use Rattle.reo_net_base.specs.Behaviour.{Behaviour, IsPlainRow, FlowsWithin}
use Rattle.reo_net_base.specs.Lawful.{IsLawful}

-- Two rows of a side that are no jam rows.
pub record ArePlain (b : Behaviour) (side row other : ℕ) : Type 0 where
  pub of_side : side < b.sides
  pub plain_row : IsPlainRow b side row
  pub plain_other : IsPlainRow b side other

-- In each round: a row by which everything flows that flows by another has no greater class.
abbrev pub MoreFlowIsNoLater : Type 0
MoreFlowIsNoLater = (b : Behaviour) → IsLawful b → (side row other turn : ℕ)
    → ArePlain b side row other → FlowsWithin b side other row
    → b.class side row turn ≤ b.class side other turn

-- Rows of one class in a round are of one class in every round.
abbrev pub OneClassStaysOne : Type 0
OneClassStaysOne = (b : Behaviour) → IsLawful b → (side row other turn later : ℕ)
    → ArePlain b side row other → b.class side row turn ≡ b.class side other turn
    → b.class side row later ≡ b.class side other later
