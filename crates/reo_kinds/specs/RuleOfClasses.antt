-- The rule of classes.
use Rattle.std.specs.Prelude.{ℕ, ◌+◌, ◌-◌, ◌%◌, ◌<◌, ◌≡◌}
use Rattle.reo_net_base.specs.Behaviour.{Behaviour, IsPlainRow, FlowsWithin}
use Rattle.reo_kinds.specs.declared.kind.Kind.{Kind}
use Rattle.reo_kinds.specs.declared.kind.Kind.TheVariants.{Merger}
use Rattle.reo_kinds.specs.Kinds.{behaviour_of}

-- Two rows with the same flow set: the same ends flow.
abbrev pub HaveOneFlow : Behaviour → ℕ → ℕ → ℕ → Type 0
HaveOneFlow b side row other = FlowsWithin b side row other × FlowsWithin b side other row

-- A row that is no jam row, and before which no row has its flow set.
pub record IsFirstOfItsFlow (b : Behaviour) (side row : ℕ) : Type 0 where
  pub plain : IsPlainRow b side row
  pub none_before : (other : ℕ) → other < row → ¬ HaveOneFlow b side other row

-- The class of a row is the place of its flow set among the distinct flow sets, in the order of the first row of each.
-- The jam row's class is how many there are.
pub record IsByRule (b : Behaviour) (side turn : ℕ) : Type 0 where
  pub sets : ℕ
  pub first : ℕ → ℕ
  pub in_order : (before set : ℕ) → before < set → set < sets → first before < first set
  pub is_first : (set : ℕ) → set < sets → IsFirstOfItsFlow b side (first set)
  pub place : (row : ℕ) → IsPlainRow b side row → b.class side row turn < sets
  pub of_set : (row : ℕ) → IsPlainRow b side row → HaveOneFlow b side (first (b.class side row turn)) row
  pub jam : (row : ℕ) → row + 1 ≡ b.rows side → b.class side row turn ≡ sets

-- A merger with m inputs begins with another input in each round: by its row i the item of input i flows.
pub record IsInTurn (b : Behaviour) (m side turn : ℕ) : Type 0 where
  pub inputs : (row : ℕ) → row < m → b.class side row turn ≡ (row + m - (turn - 1) % m) % m
  pub output_rests : b.class side m turn ≡ m
  pub inputs_rest : b.class side (m + 1) turn ≡ m
  pub jam : b.class side (m + 2) turn ≡ m + 1

abbrev pub IsClassed : Kind → ℕ → ℕ → Type 0
IsClassed (Merger branches) side turn = IsInTurn (behaviour_of (Merger branches)) branches.count side turn
IsClassed kind side turn = IsByRule (behaviour_of kind) side turn

-- The classes of each side of each kind, in each state and round, are by the rule, but for those of mergers, whose
-- inputs take turns.
abbrev pub ClassesByRule : Type 0
ClassesByRule = (kind : Kind) (side turn : ℕ) → side < (behaviour_of kind).sides → IsClassed kind side turn
