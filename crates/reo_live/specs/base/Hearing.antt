-- What is heard, line by line.
use Rattle.std.specs.Prelude.{ℕ, ◌≡◌, ◌⊎◌, ◌==◌, true, false, cond, List, [], ◌∷◌, ◌++◌, Result}
use Rattle.reo_net_base.specs.declared.port.Port.{Port}
use Rattle.reo_script.specs.declared.scripts.event.Event.{Event}
use Rattle.reo_script.specs.declared.scripts.event.EventFault.{EventFault}
use Rattle.reo_script.specs.scripts.Events.{AnswersEvent}
use Rattle.reo_rounds.specs.Rules.{Rules}
use Rattle.reo_live.specs.declared.base.answer.Answer.{Answer}
use Rattle.reo_live.specs.declared.base.answer.Answer.TheVariants.{Ended}
use Rattle.reo_live.specs.declared.base.fault.LineRefusal.TheVariants as faults
use Rattle.reo_live.specs.base.Lines.{ended_lines, open_line}
use Rattle.reo_live.specs.base.Held.{Held, short, long, joined}
use Rattle.reo_live.specs.base.Live.{Stand, Live, fresh, held_open}
use Rattle.reo_live.specs.base.Events.{Told, Does, refusing}

abbrev pub carriage_return : ℕ
carriage_return = 13

-- Bytes without a carriage return at their end.
abbrev pub without_return : List ℕ → List ℕ
without_return [] = []
without_return (b ∷ []) = cond (b == carriage_return) [] (b ∷ [])
without_return (b ∷ (c ∷ bs)) = b ∷ without_return (c ∷ bs)

-- A line that a line feed has ended.
abbrev pub cleaned : Held → Held
cleaned (short bytes) = short (without_return bytes)
cleaned long = long

module _ {P : Type 0} (r : Rules P) (ports : List Port) (budget : ℕ) where
  -- A line is judged: as too long, or as the event that it says.
  abbrev pub Judges : Stand P → Held → Told P → Type 0
  Judges a long told = told ≡ refusing r a faults.Long
  Judges a (short bytes) told = (answer : Result Event EventFault)
      × AnswersEvent bytes ports answer × Does r budget a answer told

  -- These lines, one behind the other; once it is over, nothing is judged.
  abbrev pub HearsAll : Live P → List (List ℕ) → Live P → List Answer → Type 0
  HearsAll s [] t answers = (t ≡ s) × (answers ≡ [])
  HearsAll s (line ∷ lines) t answers =
      ((s.stand.over ≡ true) × (t ≡ s) × (answers ≡ []))
      ⊎ ((s.stand.over ≡ false) × (told : Told P) × (rest : List Answer)
      × Judges s.stand (cleaned (joined s.line line)) told
      × HearsAll (fresh told.stand) lines t rest × (answers ≡ told.answers ++ rest))

  -- After some lines, and bytes of a line that has not ended, it has come so far, with these
  -- answers.
  pub record Hears (s : Live P) (lines : List (List ℕ)) (bytes : List ℕ) (t : Live P)
      (answers : List Answer) : Type 0 where
    pub between : Live P
    pub heard : HearsAll s lines between answers
    pub is : t ≡ held_open between bytes

  -- After these bytes.
  abbrev pub After : Live P → List ℕ → Live P → List Answer → Type 0
  After s bytes t answers = Hears s (ended_lines bytes) (open_line bytes) t answers

  -- A last line that is not empty is judged, and then it is said that nothing further is.
  abbrev pub ClosesLine : Stand P → Held → List Answer → Type 0
  ClosesLine a (short []) answers = answers ≡ Ended a.rounds ∷ []
  ClosesLine a line answers = (told : Told P) × Judges a line told
      × (answers ≡ told.answers ++ cond told.stand.over [] (Ended told.stand.rounds ∷ []))

  -- The answers to the end of the input; once it is over, none.
  abbrev pub Last : Live P → List Answer → Type 0
  Last s answers = ((s.stand.over ≡ true) × (answers ≡ []))
      ⊎ ((s.stand.over ≡ false) × ClosesLine s.stand s.line answers)
