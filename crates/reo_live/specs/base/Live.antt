-- How far a circuit that is talked to has come.
use Rattle.std.specs.Prelude.{ℕ, ◌+◌, Bool, true, false, cond, List, []}
use Rattle.reo_net_base.specs.Net.{Wiring}
use Rattle.reo_live.specs.base.Held.{Held, short, joined}

-- The circuit with what is pending at its ports, how many rounds were made, how many lines have
-- ended, and whether it is over.
pub record Stand (P : Type 0) : Type 0 where
  pub circuit : Wiring P
  pub rounds : ℕ
  pub lines : ℕ
  pub over : Bool

-- The same, and what is known of the line that has not ended.
pub record Live (P : Type 0) : Type 0 where
  pub stand : Stand P
  pub line : Held

-- Before the first byte of a line.
abbrev pub fresh : {P : Type 0} → Stand P → Live P
fresh a = record { stand = a; line = short [] }

-- Before the first byte of all.
abbrev pub beginning : {P : Type 0} → Wiring P → Live P
beginning w = fresh (record { circuit = w; rounds = 0; lines = 0; over = false })

-- A line more has ended, and this is the circuit now.
abbrev pub with_circuit : {P : Type 0} → Stand P → Wiring P → Stand P
with_circuit a w = record a { circuit = w; lines = a.lines + 1 }

-- A round more was made besides.
abbrev pub after_round : {P : Type 0} → Stand P → Wiring P → Stand P
after_round a w = record a { circuit = w; rounds = a.rounds + 1; lines = a.lines + 1 }

-- It is over with the line that has ended.
abbrev pub closed : {P : Type 0} → Stand P → Stand P
closed a = record a { lines = a.lines + 1; over = true }

-- More bytes of the line that has not ended; once it is over, nothing.
abbrev pub held_open : {P : Type 0} → Live P → List ℕ → Live P
held_open s bytes = cond s.stand.over s (record s { line = joined s.line bytes })
