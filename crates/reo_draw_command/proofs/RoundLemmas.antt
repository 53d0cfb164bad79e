-- The picture of a round, as what is owed.
use Rattle.std.proofs.Common.{◌≡◌, ℕ, List, ◌∷◌, refl, subst, arith}
use Rattle.std.specs.Prelude.{◌==◌, ◌||◌, ◌≢◌, true, false, IsTrue}
use Rattle.std.specs.List.{list_any}
use Rattle.reo_trace_reader.specs.declared.texts.trace.Trace.{Trace}
use Rattle.reo_runs.specs.Run.{start_of}
use Rattle.reo_draw_replay.specs.declared.showing.Shown.{Shown}
use Rattle.reo_draw_replay.specs.declared.showing.Shown.TheVariants.{Picture, NoRound, Refused}
use Rattle.reo_draw_replay.specs.Shown.{IsShown}
use Rattle.reo_command.specs.declared.stop.Stop.{Stop}
use Rattle.reo_command.specs.Claims.{Claimed, ReadsClaim, StopsVerify}
use Rattle.reo_command.specs.Fetched.{Content}
use Rattle.reo_command.specs.Stops.{stop_status}
use Rattle.reo_command.specs.Statuses.{IsAmong}
use Rattle.reo_command.proofs.ReadLemmas.{IsReadingAt}
use Rattle.reo_command.proofs.top_base.ToldLemmas.{told_status, told_not_three}
use Rattle.reo_draw_command.specs.DrawStatuses.{statuses_of_round, statuses_of_table}
use Rattle.reo_draw_command.specs.Rounds.{IsNumberOf, IsShownFor, DrawsRound, shown_text, shown_status}
use Rattle.reo_draw_command.proofs.NumberLemmas.{one_number}

-- The statuses.
status_in : (shown : Shown) → IsAmong statuses_of_round (shown_status shown)
status_in (Picture picture) = refl
status_in NoRound = refl
status_in (Refused refusal) = refl

pub shown_not_nine : (shown : Shown) → shown_status shown ≢ 9
shown_not_nine (Picture picture) e = omega (arith, e)
shown_not_nine NoRound e = omega (arith, e)
shown_not_nine (Refused refusal) e = omega (arith, e)

not_three : (shown : Shown) → shown_status shown ≢ 3
not_three (Picture picture) e = omega (arith, e)
not_three NoRound e = omega (arith, e)
not_three (Refused refusal) e = omega (arith, e)

-- A status among some is among more.
among_more : (status k : ℕ) (statuses : List ℕ) → IsAmong statuses k → IsAmong (status ∷ statuses) k
among_more status k statuses h = elim (k == status) as (λ b. IsTrue (b || list_any (λ other. k == other) statuses)) [ true ↦ refl | false ↦ h ]

-- A reading, with the statuses of rounds.
pub round_reading : (answers : List Content) → IsReadingAt ReadsClaim StopsVerify statuses_of_table answers → IsReadingAt ReadsClaim StopsVerify statuses_of_round answers
round_reading answers law = record {
  one = law.one;
  apart = law.apart;
  one_stop = law.one_stop;
  here = law.here;
  missed = law.missed;
  status = λ (s : Stop) stops. among_more 15 (stop_status s) statuses_of_table (law.status s stops);
}

module _ (word : List ℕ) (c : Claimed Trace) where
  pub round_status : (bytes : List ℕ) (status : ℕ) → DrawsRound word c bytes status → IsAmong statuses_of_round status
  round_status bytes status h = told_status (IsShownFor word c) shown_text shown_status statuses_of_round status_in bytes status h

  pub round_not_three : (bytes : List ℕ) (status : ℕ) → DrawsRound word c bytes status → status ≢ 3
  round_not_three bytes status h = told_not_three (IsShownFor word c) shown_text shown_status not_three bytes status h

  -- There is one thing to show for a word.
  abbrev Shows : ℕ → Shown → Type 0
  Shows number shown = IsShown c.work.flat.ports c.work.flat.nodes c.work.flat.homes (start_of c.work.flat.wiring c.work.script.components) c.claim number shown

  pub only_for : (number : ℕ) → IsNumberOf word number → (shown : Shown) → ((other : Shown) → Shows number other → shown ≡ other) → (other : Shown) → IsShownFor word c other → shown ≡ other
  only_for number is shown only other h = only other (subst (λ (n : ℕ). Shows n other) (one_number word h.0 number h.1 is) h.2)
