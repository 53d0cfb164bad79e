-- Gates by their tables.
use Rattle.std.specs.Prelude.{true, false, Some, None, [], ◌∷◌}
use Rattle.reo_values.specs.declared.value.Value.TheVariants.{Unit}
use Rattle.reo_net_base.specs.declared.mark.Mark.TheVariants.{F, G, R}
use Rattle.reo_net_base.specs.Behaviour.{Behaviour}
use Rattle.reo_net_base.specs.Lasting.{Lasting}
use Rattle.reo_net_base.specs.Rows.{Rows, row_count, mark_in, class_in}
use Rattle.reo_open.specs.declared.gate.GateRows.{GateRows}
use Rattle.reo_open.specs.declared.gate.GateRows.TheVariants.{All, Flow, Given, Required}
use Rattle.reo_open.specs.declared.gate.Gate.{Gate}

-- The rows of a gate: flow, the surroundings give a reason, they require one.
abbrev pub gate_rows : GateRows → Rows
gate_rows All = (F ∷ []) ∷ (G ∷ []) ∷ (R ∷ []) ∷ []
gate_rows Flow = (F ∷ []) ∷ []
gate_rows Given = (G ∷ []) ∷ []
gate_rows Required = (R ∷ []) ∷ []

-- A gate has one end, at one side. Where items come into the circuit it gives unit.
abbrev pub gate_behaviour : Gate → Behaviour
gate_behaviour g = record {
  ends = 1;
  sides = 1;
  side_of = λ _. 0;
  takes_in = λ _. g.takes;
  leads = λ _. false;
  rows = λ _. row_count (gate_rows g.allowed);
  mark = λ _ row _. mark_in (gate_rows g.allowed) row 0;
  class = λ _ row _. class_in (gate_rows g.allowed) row;
  groups = λ _. row_count (gate_rows g.allowed);
  group = λ _ row. row;
  common = λ _ group _. mark_in (gate_rows g.allowed) group 0;
  apart = λ _ _. None;
  from = λ _ _ _. None;
  passes = λ _ _ _ _. true;
  given = λ _ _ _ _. Some Unit;
}

-- A round leaves a gate as it is; which rows it has may be changed between rounds.
abbrev pub gate_lasting : Lasting
gate_lasting = record { varies = λ _. true; is_open = λ _. true; keeps = false; carries = true; origin = None }

-- The gate with these rows alone.
abbrev pub with_allowed : GateRows → Gate → Gate
with_allowed allowed g = record g { allowed = allowed }
