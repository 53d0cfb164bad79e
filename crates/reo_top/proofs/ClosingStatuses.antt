-- The statuses and the last lines of what was heard.
use Rattle.std.proofs.Common.{◌≡◌, ◌∙◌, ℕ, Bool, true, false, cond, List, [], ◌∷◌, ◌++◌, ap, sym, subst, refl, arith}
use Rattle.std.specs.Prelude.{◌≢◌}
use Rattle.reo_live.specs.declared.base.answer.Answer.{Answer}
use Rattle.reo_live.specs.closings.Sources.{Events}
use Rattle.reo_live.specs.closings.Closings.{Closing, over, many, missed, ends}
use Rattle.reo_live.specs.hearing.Heard.{is_stop, IsLast}
use Rattle.reo_command.specs.declared.command.Command.TheVariants.{Live}
use Rattle.reo_command.specs.declared.role.Role.TheVariants.{Circuit}
use Rattle.reo_command.specs.Readings.{FlatCircuit, IsCircuitText, CircuitStops, ReadsCircuit, StopsCheck}
use Rattle.reo_command.specs.Statuses.{IsAmong, statuses_of}
use Rattle.reo_command.proofs.FlatLemmas.{circuit_law}
use Rattle.reo_command.proofs.ReadLemmas.{IsOneReading, file_reading}
use Rattle.reo_top.specs.Heard.{closing_text, ends_stopped, last_status, closing_status, HearsCircuit}

ends_last : (front : List Answer) (last : Answer) → ends_stopped (front ++ last ∷ []) ≡ is_stop last
ends_last [] last = refl
ends_last (a ∷ []) last = refl
ends_last (a ∷ (b ∷ front)) last = ends_last (b ∷ front) last

-- The last answer says the status.
pub last_is : (front : List Answer) (last : Answer) (stop : Bool) → is_stop last ≡ stop → last_status (front ++ last ∷ []) ≡ cond stop 7 0
last_is front last stop is = ap (λ (b : Bool). cond b 7 0) (ends_last front last ∙ is)

pub status_last : (closing : Closing) (answers : List Answer) → IsLast closing → closing_status closing answers ≡ last_status answers
status_last over answers is = refl
status_last many answers is = absurd is
status_last missed answers is = absurd is
status_last ends answers is = refl

pub text_last : (closing : Closing) → IsLast closing → closing_text closing ≡ []
text_last over is = refl
text_last many is = absurd is
text_last missed is = absurd is
text_last ends is = refl

among_last : (stop : Bool) → IsAmong (statuses_of Live) (cond stop 7 0)
among_last true = refl
among_last false = refl

among_closing : (closing : Closing) (answers : List Answer) → IsAmong (statuses_of Live) (closing_status closing answers)
among_closing over answers = among_last (ends_stopped answers)
among_closing many answers = refl
among_closing missed answers = refl
among_closing ends answers = among_last (ends_stopped answers)

pub heard_status : (budget : ℕ) (events : Events) (flat : FlatCircuit) (bytes : List ℕ) (status : ℕ) → HearsCircuit budget events flat bytes status → IsAmong (statuses_of Live) status
heard_status budget events flat bytes status (closing, answers, closes, line) = subst (λ (k : ℕ). IsAmong (statuses_of Live) k) (sym line.1) (among_closing closing answers)

last_not_three : (stop : Bool) → ◌≢◌ {A = ℕ} (cond stop 7 0) 3
last_not_three true e = omega (arith, e)
last_not_three false e = omega (arith, e)

-- The circuit that is read, with the statuses of hearing.
pub live_reading : IsOneReading ReadsCircuit StopsCheck (statuses_of Live)
live_reading = file_reading Circuit IsCircuitText CircuitStops circuit_law (statuses_of Live) refl refl refl

-- That a take failed is said only where it did.
pub heard_three : (budget : ℕ) (events : Events) (flat : FlatCircuit) (bytes : List ℕ) (status : ℕ) → HearsCircuit budget events flat bytes status → status ≡ 3 → events.failed ≡ true
heard_three budget events flat bytes status (over, answers, closes, line) three = absurd (last_not_three (ends_stopped answers) (sym line.1 ∙ three))
heard_three budget events flat bytes status (many, answers, closes, line) three = absurd (omega (arith, line.1, three))
heard_three budget events flat bytes status (missed, answers, closes, line) three = closes.by.2
heard_three budget events flat bytes status (ends, answers, closes, line) three = absurd (last_not_three (ends_stopped answers) (sym line.1 ∙ three))
