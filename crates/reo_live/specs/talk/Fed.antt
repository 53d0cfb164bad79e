-- What a call that hears something has come to.
use Rattle.std.specs.Prelude.{ℕ, ◌≡◌, Bool, true, Option, List, [], ◌∷◌, ◌++◌, Result, Ok, Err}
use Rattle.reo_io.specs.Sinks.{Appended, TookPart}
use Rattle.reo_net_base.specs.declared.port.Port.{Port}
use Rattle.reo_rounds.specs.Rules.{Rules}
use Rattle.reo_live.specs.declared.base.answer.Answer.{Answer}
use Rattle.reo_live.specs.declared.base.answer.Answer.TheVariants.{Ended}
use Rattle.reo_live.specs.base.Live.{Stand, Live}
use Rattle.reo_live.specs.base.Answers.{answers_text}
use Rattle.reo_live.specs.base.Events.{Told}
use Rattle.reo_live.specs.base.Hearing.{After, Last}
use Rattle.reo_live.specs.declared.talk.fault.Going.{Going}
use Rattle.reo_live.specs.declared.talk.fault.Going.TheVariants as goings
use Rattle.reo_live.specs.declared.talk.fault.LiveFault.{LiveFault}
use Rattle.reo_live.specs.declared.talk.fault.LiveFault.TheVariants as faults
use Rattle.reo_live.specs.talk.Outcomes.{outcome_if, list_of, Says}

module _ (ports : List Port) (before now : Option (List ℕ)) where
  -- Where there is an answer it was written, and what is returned is as it says; or a part of it
  -- was, and not the whole; or memory ran out.
  abbrev pub Responds : Option Answer → Result Going LiveFault → Type 0
  Responds answer (Err faults.Failed) = TookPart before now (answers_text ports (list_of answer))
  Responds answer (Err faults.NoMemory) = now ≡ before
  Responds answer result =
      (result ≡ outcome_if answer) × Appended before now (answers_text ports (list_of answer))

  -- All answers were written, and what is returned says whether it is over.
  pub record Whole (over : Bool) (answers : List Answer) (result : Result Going LiveFault)
      : Type 0 where
    pub says : Says over answers result
    pub text : Appended before now (answers_text ports answers)

  -- One line was judged, as one of these, and it has come so far; its answer was written, or a part
  -- of it, or nothing where memory ran out.
  abbrev pub Judged : {P : Type 0} → (Told P → Type 0) → Stand P → Result Going LiveFault → Type 0
  Judged Is b (Err faults.Failed) =
      (told : Told _) × Is told × TookPart before now (answers_text ports told.answers)
  Judged Is b (Err faults.NoMemory) = now ≡ before
  Judged Is b result = (told : Told _) × Is told × (told.stand ≡ b)
      × Whole told.stand.over told.answers result

  -- It was written that nothing further is judged, after so many rounds; or a part of that was, and
  -- not the whole; or memory ran out.
  abbrev pub IsClosed : {X : Type 0} → (rounds : ℕ) → Result X LiveFault → Type 0
  IsClosed rounds (Ok _) = Appended before now (answers_text ports (Ended rounds ∷ []))
  IsClosed rounds (Err faults.Failed) =
      TookPart before now (answers_text ports (Ended rounds ∷ []))
  IsClosed rounds (Err faults.NoMemory) = now ≡ before
  IsClosed rounds (Err fault) = ⊥

  module _ {P : Type 0} (r : Rules P) (budget : ℕ) where
    -- The sink has got a part of the answers to these bytes, and not the whole.
    pub record FedPart (s : Live P) (bytes : List ℕ) : Type 0 where
      pub next : Live P
      pub answers : List Answer
      pub after : After r ports budget s bytes next answers
      pub part : TookPart before now (answers_text ports answers)

    -- The sink has got the lines of the first answers, in order and none skipped.
    pub record FedLines (s : Live P) (bytes : List ℕ) : Type 0 where
      pub next : Live P
      pub lines : List Answer
      pub rest : List Answer
      pub after : After r ports budget s bytes next (lines ++ rest)
      pub text : Appended before now (answers_text ports lines)

    -- It has come to the state after these bytes, and all answers were written.
    pub record FedAll (s : Live P) (bytes : List ℕ) (t : Live P) (result : Result Going LiveFault)
        : Type 0 where
      pub answers : List Answer
      pub after : After r ports budget s bytes t answers
      pub whole : Whole t.stand.over answers result

    -- What feeding these bytes has come to.
    abbrev pub IsFed : Live P → List ℕ → Live P → Result Going LiveFault → Type 0
    IsFed s bytes t (Err faults.Failed) = FedPart s bytes
    IsFed s bytes t (Err faults.NoMemory) = FedLines s bytes
    IsFed s bytes t result = FedAll s bytes t result

    -- The same of the answers to the end of the input.
    pub record FinishedPart (s : Live P) : Type 0 where
      pub answers : List Answer
      pub last : Last r ports budget s answers
      pub part : TookPart before now (answers_text ports answers)

    pub record FinishedLines (s : Live P) : Type 0 where
      pub lines : List Answer
      pub rest : List Answer
      pub last : Last r ports budget s (lines ++ rest)
      pub text : Appended before now (answers_text ports lines)

    pub record FinishedAll (s : Live P) (result : Result Going LiveFault) : Type 0 where
      pub answers : List Answer
      pub last : Last r ports budget s answers
      pub whole : Whole true answers result

    -- What the end of the input has come to.
    abbrev pub IsFinished : {X : Type 0} → Live P → Result X LiveFault → Type 0
    IsFinished s (Err faults.Failed) = FinishedPart s
    IsFinished s (Err faults.NoMemory) = FinishedLines s
    IsFinished s (Err fault) = FinishedAll s (Err fault)
    IsFinished s (Ok _) = FinishedAll s (Ok goings.Ended)
