-- How hearing all events closes, and what is answered to them.
use Rattle.std.specs.Prelude.{ℕ, ◌≡◌, ◌<◌, ◌≤◌, ◌++◌, Bool, true, false, List, take, length}
use Rattle.reo_net_base.specs.Net.{Wiring}
use Rattle.reo_net_base.specs.declared.port.Port.{Port}
use Rattle.reo_rounds.specs.Rules.{Rules}
use Rattle.reo_live.specs.declared.base.answer.Answer.{Answer}
use Rattle.reo_live.specs.base.Live.{Live, beginning}
use Rattle.reo_live.specs.base.Hearing.{After, Last}
use Rattle.reo_live.specs.closings.Sources.{Events, most_events}

-- A line is the last that is judged, there are too many bytes, a take failed, or the input ends.
pub data Closing : Type 0 where
  over : Closing
  many : Closing
  missed : Closing
  ends : Closing

module _ {P : Type 0} (r : Rules P) (ports : List Port) (budget : ℕ) where
  -- The first of these that holds, behind the answers to the first 2^32 bytes.
  abbrev pub ClosesBy : Events → Live P → List Answer → Closing → List Answer → Type 0
  ClosesBy events state heard over answers = (state.stand.over ≡ true) × (answers ≡ heard)
  ClosesBy events state heard many answers = (state.stand.over ≡ false)
      × (most_events < length events.bytes) × (answers ≡ heard)
  ClosesBy events state heard missed answers = (state.stand.over ≡ false)
      × (length events.bytes ≤ most_events) × (events.failed ≡ true) × (answers ≡ heard)
  ClosesBy events state heard ends answers = (state.stand.over ≡ false)
      × (length events.bytes ≤ most_events) × (events.failed ≡ false)
      × (last : List Answer) × Last r ports budget state last × (answers ≡ heard ++ last)

  -- Hearing these events of a circuit closes so, with these answers in all.
  pub record Closes (w : Wiring P) (events : Events) (closing : Closing) (answers : List Answer)
      : Type 0 where
    pub state : Live P
    pub heard : List Answer
    pub after : After r ports budget (beginning w) (take most_events events.bytes) state heard
    pub by : ClosesBy events state heard closing answers
