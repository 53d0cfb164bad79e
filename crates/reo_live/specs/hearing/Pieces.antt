-- What one piece has come to, and the end of the input.
use Rattle.std.specs.Prelude.{ℕ, ◌≡◌, ◌++◌, Bool, true, false, Option, List, [], ◌∷◌, Result, Ok, Err}
use Rattle.reo_io.specs.Sinks.{Appended, TookPart}
use Rattle.reo_net_base.specs.declared.port.Port.{Port}
use Rattle.reo_rounds.specs.Rules.{Rules}
use Rattle.reo_live.specs.declared.base.answer.Answer.{Answer}
use Rattle.reo_live.specs.base.Live.{Live}
use Rattle.reo_live.specs.base.Answers.{answers_text}
use Rattle.reo_live.specs.base.Hearing.{After, Last}
use Rattle.reo_live.specs.declared.talk.fault.LiveFault.{LiveFault}
use Rattle.reo_live.specs.declared.talk.fault.LiveFault.TheVariants as faults
use Rattle.reo_live.specs.declared.hearing.heard.Heard.{Heard}
use Rattle.reo_live.specs.declared.hearing.heard.Heard.TheVariants as heards
use Rattle.reo_live.specs.hearing.Heard.{is_stop}

-- How hearing has ended, by why a call that hears something stopped.
abbrev pub heard_by : LiveFault → Heard
heard_by faults.Failed = heards.Broken
heard_by (faults.Wide knot) = heards.Stopped
heard_by (faults.Spent knot weight) = heards.Stopped
heard_by faults.NoMemory = heards.NoMemory

module _ (ports : List Port) (before now : Option (List ℕ)) (Come : List Answer → Type 0) where
  -- It came to some answers, which were written.
  pub record Wrote : Type 0 where
    pub answers : List Answer
    pub come : Come answers
    pub text : Appended before now (answers_text ports answers)

  -- With the last of them it is over.
  pub record WroteLast (stop : Bool) : Type 0 where
    pub front : List Answer
    pub last : Answer
    pub come : Come (front ++ last ∷ [])
    pub stop_is : is_stop last ≡ stop
    pub text : Appended before now (answers_text ports (front ++ last ∷ []))

  -- A part of them was written, and not the whole.
  pub record WrotePart : Type 0 where
    pub answers : List Answer
    pub come : Come answers
    pub part : TookPart before now (answers_text ports answers)

  -- The lines of the first of them were written.
  pub record WroteLines : Type 0 where
    pub lines : List Answer
    pub rest : List Answer
    pub come : Come (lines ++ rest)
    pub text : Appended before now (answers_text ports lines)

module _ {P : Type 0} (r : Rules P) (ports : List Port) (budget : ℕ)
    (before now : Option (List ℕ)) where
  -- With these answers it has come to this state, and it is over or not.
  abbrev pub ComesTo : Live P → List ℕ → Live P → Bool → List Answer → Type 0
  ComesTo s bytes t over answers = After r ports budget s bytes t answers × (t.stand.over ≡ over)

  -- With these answers it comes to some state.
  abbrev pub ComesSomewhere : Live P → List ℕ → List Answer → Type 0
  ComesSomewhere s bytes answers = (t : Live P) × After r ports budget s bytes t answers

  -- What hearing these bytes has come to, where it has not ended, and where it has.
  abbrev pub EndsPiece : Live P → List ℕ → Live P → Heard → Type 0
  EndsPiece s bytes t heards.Ended = WroteLast ports before now (ComesTo s bytes t true) false
  EndsPiece s bytes t heards.Stopped = WroteLast ports before now (ComesTo s bytes t true) true
  EndsPiece s bytes t heards.Many = ⊥
  EndsPiece s bytes t heards.Missed = ⊥
  EndsPiece s bytes t heards.Broken = WrotePart ports before now (ComesSomewhere s bytes)
  EndsPiece s bytes t heards.NoMemory = WroteLines ports before now (ComesSomewhere s bytes)

  abbrev pub IsPiece : {X : Type 0} → Live P → List ℕ → Live P → Result X Heard → Type 0
  IsPiece s bytes t (Ok count) = Wrote ports before now (ComesTo s bytes t false)
  IsPiece s bytes t (Err heard) = EndsPiece s bytes t heard

  -- What the end of the input has come to.
  abbrev pub IsClose : Live P → Heard → Type 0
  IsClose s heards.Ended = WroteLast ports before now (Last r ports budget s) false
  IsClose s heards.Stopped = WroteLast ports before now (Last r ports budget s) true
  IsClose s heards.Many = ⊥
  IsClose s heards.Missed = ⊥
  IsClose s heards.Broken = WrotePart ports before now (Last r ports budget s)
  IsClose s heards.NoMemory = WroteLines ports before now (Last r ports budget s)
