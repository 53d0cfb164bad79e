-- What hearing a source has come to.
use Rattle.std.specs.Prelude.{ℕ, ◌≡◌, ◌⊎◌, ◌≤◌, ◌+◌, ◌++◌, Bool, true, false, Option, List, [], ◌∷◌, length, take, Result, Ok, Err}
use Rattle.reo_io.specs.Sinks.{Appended, TookPart}
use Rattle.reo_net_base.specs.Net.{Wiring, net_of}
use Rattle.reo_net_base.specs.declared.port.Port.{Port}
use Rattle.reo_rounds.specs.Order.{HasOrder}
use Rattle.reo_rounds.specs.Rules.{Rules}
use Rattle.reo_live.specs.declared.base.answer.Answer.{Answer}
use Rattle.reo_live.specs.declared.base.answer.Answer.TheVariants as answers
use Rattle.reo_live.specs.base.Live.{Live, beginning}
use Rattle.reo_live.specs.base.Answers.{answers_text}
use Rattle.reo_live.specs.base.Hearing.{After}
use Rattle.reo_live.specs.closings.Sources.{SourceState, SourceChange, Events, AreTaken, AreTakenSoFar, SaidEnd, followed, most_events}
use Rattle.reo_live.specs.closings.Closings.{Closing, over, many, missed, ends, Closes}
use Rattle.reo_live.specs.declared.hearing.heard.Heard.{Heard}
use Rattle.reo_live.specs.declared.hearing.heard.Heard.TheVariants as heards

-- Whether an answer says that a round cannot be planned.
abbrev pub is_stop : Answer → Bool
is_stop (answers.Refused line fault) = false
is_stop (answers.Made line) = false
is_stop (answers.Ended rounds) = false
is_stop (answers.Wide round knot) = true
is_stop (answers.Spent round knot weight budget) = true

-- Nothing was left to judge.
abbrev pub IsLast : Closing → Type 0
IsLast over = Unit {0}
IsLast many = ⊥
IsLast missed = ⊥
IsLast ends = Unit {0}

-- Where there are too many bytes, one more is taken than are heard; never are more taken.
abbrev pub IsFew : Heard → (count : ℕ) → Type 0
IsFew heards.Many count = count ≡ most_events + 1
IsFew heard count = count ≤ most_events + 1

-- These bytes were taken from a source.
pub record TookFew (source : SourceChange) (heard : Heard) : Type 0 where
  pub bytes : List ℕ
  pub taken : AreTakenSoFar source.old source.new bytes
  pub few : IsFew heard (length bytes)

module _ {P : Type 0} (r : Rules P) (ports : List Port) (budget : ℕ) (w : Wiring P)
    (before now : Option (List ℕ)) where
  -- All answers were written, and hearing closes so.
  pub record HeardAll (events : Events) (closing : Closing) : Type 0 where
    pub answers : List Answer
    pub closes : Closes r ports budget w events closing answers
    pub text : Appended before now (answers_text ports answers)

  -- All answers were written, and the last says that nothing further is judged: since a round
  -- cannot be planned, or not.
  pub record HeardLast (events : Events) (stop : Bool) : Type 0 where
    pub closing : Closing
    pub is_last : IsLast closing
    pub front : List Answer
    pub last : Answer
    pub closes : Closes r ports budget w events closing (front ++ last ∷ [])
    pub stop_is : is_stop last ≡ stop
    pub text : Appended before now (answers_text ports (front ++ last ∷ []))

  -- A part of the answers was written, and not the whole.
  pub record HeardPart (events : Events) : Type 0 where
    pub closing : Closing
    pub answers : List Answer
    pub closes : Closes r ports budget w events closing answers
    pub part : TookPart before now (answers_text ports answers)

  -- The lines of the first answers were written.
  pub record HeardLines (events : Events) : Type 0 where
    pub closing : Closing
    pub lines : List Answer
    pub rest : List Answer
    pub closes : Closes r ports budget w events closing (lines ++ rest)
    pub text : Appended before now (answers_text ports lines)

  -- What hearing these events has come to.
  abbrev pub IsHeard : Events → Heard → Type 0
  IsHeard events heards.Ended = HeardLast events false
  IsHeard events heards.Stopped = HeardLast events true
  IsHeard events heards.Many = HeardAll events many
  IsHeard events heards.Missed = HeardAll events missed
  IsHeard events heards.Broken = HeardPart events
  IsHeard events heards.NoMemory = HeardLines events

  -- Some events were taken from a source, and hearing them has come to this: where no take failed and the source has not said
  -- that it ends, whatever may follow them.
  pub record HeardFrom (source : SourceChange) (heard : Heard) : Type 0 where
    pub events : Events
    pub taken : AreTaken events source
    pub few : TookFew source heard
    pub come : IsHeard events heard
    pub whatever : events.failed ≡ false
        → SaidEnd source ⊎ ((more : List ℕ) → IsHeard (followed events more) heard)

  -- So many bytes were taken from a source that was so, and those that are heard were answered.
  pub record SoFar (old new : SourceState) (live : Live P) (count : ℕ) : Type 0 where
    pub bytes : List ℕ
    pub answers : List Answer
    pub count_is : length bytes ≡ count
    pub after : After r ports budget (beginning w) (take most_events bytes) live answers
    pub text : Appended before now (answers_text ports answers)
    pub taken : AreTakenSoFar old new bytes

module _ {P : Type 0} (r : Rules P) (ports : List Port) (budget : ℕ) (mid now : Option (List ℕ))
    (source : SourceChange) where
  -- One piece more has come to a state, or hearing has ended.
  abbrev pub IsNext : Wiring P → (before : Option (List ℕ)) → (old : SourceState) → (taken : ℕ)
      → Live P → Result ℕ Heard → Type 0
  IsNext w before old taken t (Ok count) =
      SoFar r ports budget w before now old source.new t (taken + count)
  IsNext w before old taken t (Err heard) = HasOrder (net_of r.behaviour w)
      → HeardFrom r ports budget w before now (record { old = old; new = source.new }) heard

  -- So it is wherever hearing began that has come so far.
  abbrev pub GoesOn : Live P → (taken : ℕ) → Live P → Result ℕ Heard → Type 0
  GoesOn s taken t result = (w : Wiring P) (before : Option (List ℕ)) (old : SourceState)
      → SoFar r ports budget w before mid old source.old s taken
      → IsNext w before old taken t result
