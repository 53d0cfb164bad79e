-- A circuit that is talked to, as contracts see it.
use Rattle.std.specs.Prelude.{ℕ, Bool, Option, List}
use Rattle.reo_net_base.specs.declared.port.Port.{Port}
use Rattle.reo_engine.specs.Engine.{Running}
use Rattle.reo_live.specs.declared.base.answer.Answer.{Answer}
use Rattle.reo_live.specs.base.Held.{Held}
use Rattle.reo_live.specs.base.Live.{Stand, Live}
use Rattle.reo_live.specs.base.Events.{Told}
use Rattle.reo_live.specs.talk.Outcomes.{is_over, outcome_if, list_of}

-- How far an engine has come behind so many lines.
abbrev pub stand_of : {P : Type 0} → Running P → ℕ → Bool → Stand P
stand_of e lines over = record {
  circuit = e.circuit;
  rounds = e.rounds;
  lines = lines;
  over = over;
}

abbrev pub live_of : {P : Type 0} → Running P → ℕ → Bool → Held → Live P
live_of e lines over line = record { stand = stand_of e lines over; line = line }

-- What a line has come to that has this answer or none.
abbrev pub told_by : {P : Type 0} → Running P → ℕ → Option Answer → Told P
told_by e lines answer = record {
  stand = stand_of e lines (is_over (outcome_if answer));
  answers = list_of answer;
}

-- How far it has come, its ports and its budget.
pub record Talk (P : Type 0) : Type 0 where
  pub live : Live P
  pub ports : List Port
  pub budget : ℕ
