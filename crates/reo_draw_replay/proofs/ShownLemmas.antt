-- What there is to show of a trace.
use Rattle.std.proofs.Common.{◌≡◌, ◌∙◌, ℕ, ◌+◌, ◌<◌, ◌≤◌, List, ◌∷◌, ◌++◌, length, refl, sym, ap, subst, arith, length-append}
use Rattle.std.specs.Prelude.{Option, Some, None}
use Rattle.reo_net_base.specs.declared.port.Port.{Port}
use Rattle.reo_net_base.specs.Net.{net_of}
use Rattle.reo_kinds.specs.declared.kind.Kind.{Kind}
use Rattle.reo_trace.specs.declared.line.RoundLine.{RoundLine}
use Rattle.reo_trace_reader.specs.declared.texts.trace.Trace.{Trace}
use Rattle.reo_rounds.specs.Order.{HasOrder}
use Rattle.reo_runs.specs.Run.{Place, IsRun}
use Rattle.reo_runs.specs.at_ports.Kinds.{kind_rules}
use Rattle.reo_runs.specs.declared.verdicts.verdict.Refusal.{Refusal}
use Rattle.reo_runs.specs.declared.verdicts.verdict.Verdict.{Verdict}
use Rattle.reo_runs.specs.declared.verdicts.verdict.Verdict.TheVariants as verdicts
use Rattle.reo_runs.specs.verdicts.Laws.{OneVerdict}
use Rattle.reo_runs.specs.verdicts.Replays.{colourings}
use Rattle.reo_runs.specs.verdicts.Said.{jammed}
use Rattle.reo_runs.specs.verdicts.Verdicts.{IsRefused, IsVerdict}
use Rattle.reo_verify.specs.declared.outcome.Outcome.{Outcome}
use Rattle.reo_verify.specs.Replayed.{AreReplayed}
use Rattle.reo_verify.proofs.VerdictLemmas.{verdict_by}
use Rattle.reo_draw_rounds.specs.Rounds.{round_picture}
use Rattle.reo_draw_replay.specs.declared.showing.Shown.{Shown}
use Rattle.reo_draw_replay.specs.declared.showing.Shown.TheVariants.{Picture, NoRound, Refused}
use Rattle.reo_draw_replay.specs.Drawn.{IsDrawn}
use Rattle.reo_draw_replay.specs.Laws.{OneRound}
use Rattle.reo_draw_replay.specs.Shown.{IsShown}
use Rattle.reo_draw_replay.specs.Steps.{IsDrawnWithin, IsShownAt}

module _ (ports : List Port) (nodes : List (List ℕ)) (homes : List ℕ) (start : Place Kind) (t : Trace) (number : ℕ) where
  -- All lines are rounds.
  pub shown_by : (outcome : Outcome) (picture : Option (List ℕ)) (shown : Shown) → AreReplayed kind_rules start t.rounds outcome → IsDrawnWithin ports nodes homes start t.rounds (length t.rounds) number picture
      → IsShownAt outcome picture t.ending shown → IsShown ports nodes homes start t number shown
  shown_by outcome picture (Picture p) are within is = (
    (verdict_by kind_rules nodes homes start t outcome (verdicts.Verified outcome.rounds outcome.jammed) are (is.0, refl, refl)).0,
    subst (λ (o : Option (List ℕ)). IsDrawnWithin ports nodes homes start t.rounds (length t.rounds) number o) is.1 within,
  )
  shown_by outcome picture NoRound are within is = (
    (verdict_by kind_rules nodes homes start t outcome (verdicts.Verified outcome.rounds outcome.jammed) are (is.0, refl, refl)).0,
    subst (λ (o : Option (List ℕ)). IsDrawnWithin ports nodes homes start t.rounds (length t.rounds) number o) is.1 within,
  )
  shown_by outcome picture (Refused refusal) are within is = verdict_by kind_rules nodes homes start t outcome (verdicts.Refused refusal) are is

  -- The lines have the round that is drawn.
  within : (picture : List ℕ) → IsDrawn ports nodes homes start t.rounds number picture → (1 ≤ number → length t.rounds < number) → ⊥
  within picture d none =
      let count : length t.rounds ≡ length (d.round.right ++ d.line ∷ d.round.left) = ap (λ (ls : List RoundLine). length ls) d.round.cut in
      let some : 1 ≤ number = omega (arith, d.round.number_is) in
      omega (arith, none some, count, length-append d.round.right (d.line ∷ d.round.left), d.round.number_is)

  module _ (one_verdict : OneVerdict kind_rules) (one_round : OneRound kind_rules) (ordered : HasOrder (net_of kind_rules.behaviour start.state.circuit)) where
    one_picture : (p q : List ℕ) → IsDrawn ports nodes homes start t.rounds number p → IsDrawn ports nodes homes start t.rounds number q → p ≡ q
    one_picture p q a b =
        let same = one_round start t.rounds number a.circuit b.circuit a.line b.line a.colouring b.colouring ordered a.round b.round in
        a.is ∙ (λ i. round_picture (same.0 i) ports homes nodes (same.1 i) (same.2 i)) ∙ sym b.is

    -- A run is not refused.
    never_refused : (refusal : Refusal) → IsRun colourings kind_rules start t.rounds t.ending → IsRefused kind_rules nodes homes start t refusal → ⊥
    never_refused refusal run refused =
        let same : verdicts.Verified (length t.rounds) (jammed t.rounds) ≡ verdicts.Refused refusal =
        one_verdict nodes homes start t (verdicts.Verified (length t.rounds) (jammed t.rounds)) (verdicts.Refused refusal) ordered (run, refl, refl) refused in
        absurd cc

    one_refusal : (a b : Refusal) → IsRefused kind_rules nodes homes start t a → IsRefused kind_rules nodes homes start t b → a ≡ b
    one_refusal a b p q =
        let same : verdicts.Refused a ≡ verdicts.Refused b = one_verdict nodes homes start t (verdicts.Refused a) (verdicts.Refused b) ordered p q in
        cc

    -- There is one thing to show.
    pub one_shown : (a b : Shown) → IsShown ports nodes homes start t number a → IsShown ports nodes homes start t number b → a ≡ b
    one_shown (Picture p) (Picture q) a b = ap (λ (x : List ℕ). Picture x) (one_picture p q a.1 b.1)
    one_shown (Picture p) NoRound a b = absurd (within p a.1 b.1)
    one_shown (Picture p) (Refused refusal) a b = absurd (never_refused refusal a.0 b)
    one_shown NoRound (Picture q) a b = absurd (within q b.1 a.1)
    one_shown NoRound NoRound a b = refl
    one_shown NoRound (Refused refusal) a b = absurd (never_refused refusal a.0 b)
    one_shown (Refused refusal) (Picture q) a b = absurd (never_refused refusal b.0 a)
    one_shown (Refused refusal) NoRound a b = absurd (never_refused refusal b.0 a)
    one_shown (Refused refusal) (Refused other) a b = ap (λ (x : Refusal). Refused x) (one_refusal refusal other a b)
