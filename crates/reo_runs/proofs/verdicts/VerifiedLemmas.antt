-- Round by round: what suits a run suits a replay, and where it stops, that may stand.
use Rattle.std.proofs.Common.{ℕ, ◌+◌, inl, inr, List, [], ◌∷◌, length, refl, sym, subst}
use Rattle.reo_net_base.specs.Net.{Net}
use Rattle.reo_players.specs.Offers.{offer_for}
use Rattle.reo_trace.specs.declared.line.RoundLine.{RoundLine}
use Rattle.reo_trace.specs.declared.line.Ending.{Ending}
use Rattle.reo_rounds.specs.Ready.{ready}
use Rattle.reo_rounds.specs.Rules.{Rules}
use Rattle.reo_rounds.specs.Stopping.{ending_by}
use Rattle.reo_rounds.proofs.RoundLemmas.{suits_also}
use Rattle.reo_weights.specs.Over.{Cause}
use Rattle.reo_weights.specs.Over.Cause.{spent, wide}
use Rattle.reo_runs.specs.Round.{State, RoundOf, net_ready}
use Rattle.reo_runs.specs.Run.{Place, Leads, EndsAs, IsRun, place_after, firsts}
use Rattle.reo_runs.specs.verdicts.Replays.{MayStop, colourings}

pub may_stop : (turn : ℕ) (cause : Cause) → MayStop turn (ending_by turn cause)
may_stop turn (spent knot weight budget) = refl
may_stop turn (wide knot) = refl

module _ {P : Type 0} (r : Rules P) (budget limit : ℕ) where
  round_kept : (turn : ℕ) (a : State P) (line : RoundLine) (b : State P) → RoundOf (firsts budget limit) r turn a line b → RoundOf colourings r turn a line b
  round_kept turn a line b d = record {
    made = suits_also r turn (ready r (offer_for a.players) a.circuit) (firsts budget limit).suits colourings.suits (λ net n rows items fits. fits.1.1.colouring) line b.circuit d.made;
    players = d.players;
  }

  leads_kept : (turn : ℕ) (p : Place P) (lines : List RoundLine) (q : Place P) → Leads (firsts budget limit) r turn p lines q → Leads colourings r turn p lines q
  leads_kept turn p [] q same = same
  leads_kept turn p (line ∷ lines) q d =
      (d.0, d.1, round_kept turn p.state line d.1 d.2, leads_kept (turn + 1) (place_after turn line p.state d.1) lines q d.3)

  stops_kept : (net : Net) (turn : ℕ) (ending : Ending) → (firsts budget limit).stops net turn ending → MayStop turn ending
  stops_kept net turn ending (inl d) = subst (MayStop turn) (sym d.1) d.0
  stops_kept net turn ending (inr d) = subst (MayStop turn) (sym d.3) (may_stop turn d.1)

  ends_kept : (turn : ℕ) (q : Place P) (ending : Ending) → EndsAs (firsts budget limit) r turn q ending → EndsAs colourings r turn q ending
  ends_kept turn q ending (inl over) = inl over
  ends_kept turn q ending (inr d) = inr (d.0, stops_kept (net_ready r q.state) turn ending d.1)

  pub run_kept : (start : Place P) (lines : List RoundLine) (ending : Ending) → IsRun (firsts budget limit) r start lines ending → IsRun colourings r start lines ending
  run_kept start lines ending run = record {
    last = run.last;
    rounds = leads_kept 1 start lines run.last run.rounds;
    ends = ends_kept (length lines + 1) run.last ending run.ends;
  }
