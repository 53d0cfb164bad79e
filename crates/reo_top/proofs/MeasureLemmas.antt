-- What came of a run, as the line that is owed.
use Rattle.std.proofs.Common.{◌≡◌, ◌∙◌, ◌⊎◌, inl, inr, ℕ, ◌+◌, ◌≤◌, List, [], ◌∷◌, ◌++◌, length, sym, subst, ap, refl, append_assoc, arith}
use Rattle.std.proofs.lemmas.List.{length-append}
use Rattle.std.specs.Prelude.{◌≢◌, Option, Some, None}
use Rattle.reo_trace.specs.declared.line.RoundLine.{RoundLine}
use Rattle.reo_trace.specs.declared.line.Ending.{Ending}
use Rattle.reo_trace.specs.declared.line.Ending.TheVariants.{Done, Stuck, Limit, Spent, Wide}
use Rattle.reo_rounds.specs.Rules.{Rules}
use Rattle.reo_runner.specs.declared.outcome.Limits.{Limits}
use Rattle.reo_runner.specs.declared.outcome.End2.{End2}
use Rattle.reo_runner.specs.declared.outcome.End2.TheVariants as ends
use Rattle.reo_runner.specs.declared.outcome.Outcome.{Outcome}
use Rattle.reo_runner.specs.Outcome.{CameTo, Wrote}
use Rattle.reo_command.specs.Readings.{kind_rules, Runnable}
use Rattle.reo_runs.specs.Run.{Place, Leads, IsRun, firsts, place_after}
use Rattle.reo_runs.specs.Whole.{HasOneRun}
use Rattle.reo_runs.specs.Written.{moved, is_in, is_out}
use Rattle.reo_command.specs.declared.command.Command.TheVariants.{Bench}
use Rattle.reo_gen.specs.Circuits.{circuit_text}
use Rattle.reo_gen.specs.Scripts.{script_text}
use Rattle.reo_command.specs.Fetched.{text}
use Rattle.reo_command.specs.Limits.{usual_limits, firsts_for}
use Rattle.reo_command.specs.Made.{ReadsMade}
use Rattle.reo_command.specs.States.{SinkState, Change}
use Rattle.reo_command.specs.Statuses.{IsAmong, statuses_of}
use Rattle.reo_command.proofs.WorkLemmas.{run_reading}
use Rattle.reo_command.proofs.ResultLemmas.{some_is, none_is_some}
use Rattle.reo_command.specs.top_base.Cases.{Cases, IsExact, IsFair, Refuses}
use Rattle.reo_top.specs.Measures.{measure_line, measure_status, MeasuresRun, MeasuresMade, ending_for}
use Rattle.reo_command.specs.top_base.Outputs.{IsLine}
use Rattle.reo_command.proofs.top_base.CaseLemmas.{lifted, line_cases, line_written}
use Rattle.reo_top.proofs.runs.RunLemmas.{start_for}

-- The pieces of the line, one after another.
joined : (l a sa b sb c sc d sd e se f g h : List ℕ)
    → l ++ (a ++ sa) ++ (b ++ sb) ++ (c ++ sc) ++ (d ++ sd) ++ (e ++ se) ++ f ++ g ++ h ≡ l ++ (a ++ sa ++ b ++ sb ++ c ++ sc ++ d ++ sd ++ e ++ se ++ f ++ g ++ h)
joined l a sa b sb c sc d sd e se f g h = simp append_assoc

pub appended : (l m n o p q r s t a sa b sb c sc d sd e se f g h : List ℕ) → m ≡ l ++ (a ++ sa) → n ≡ m ++ (b ++ sb) → o ≡ n ++ (c ++ sc) → p ≡ o ++ (d ++ sd) → q ≡ p ++ (e ++ se) → r ≡ q ++ f → s ≡ r ++ g → t ≡ s ++ h
    → t ≡ l ++ (a ++ sa ++ b ++ sb ++ c ++ sc ++ d ++ sd ++ e ++ se ++ f ++ g ++ h)
appended l m n o p q r s t a sa b sb c sc d sd e se f g h is_m is_n is_o is_p is_q is_r is_s is_t =
    let to_n = is_n ∙ ap (λ (z : List ℕ). z ++ (b ++ sb)) is_m in
    let to_o = is_o ∙ ap (λ (z : List ℕ). z ++ (c ++ sc)) to_n in
    let to_p = is_p ∙ ap (λ (z : List ℕ). z ++ (d ++ sd)) to_o in
    let to_q = is_q ∙ ap (λ (z : List ℕ). z ++ (e ++ se)) to_p in
    let to_r = is_r ∙ ap (λ (z : List ℕ). z ++ f) to_q in
    let to_s = is_s ∙ ap (λ (z : List ℕ). z ++ g) to_r in
    is_t ∙ ap (λ (z : List ℕ). z ++ h) to_s ∙ joined l a sa b sb c sc d sd e se f g h

-- A run makes no more rounds than its limit.
led_within : {P : Type 0} (r : Rules P) (budget limit turn : ℕ) (p q : Place P) (lines : List RoundLine) → turn ≤ limit + 1 → Leads (firsts budget limit) r turn p lines q → turn + length lines ≤ limit + 1
led_within r budget limit turn p q [] low led = omega (arith, low)
led_within r budget limit turn p q (line ∷ lines) low (going, b, round, led) =
    let here : turn ≤ limit = round.made.suits.0 in
    let rest : turn + 1 + length lines ≤ limit + 1 = led_within r budget limit (turn + 1) (place_after turn line p.state b) q lines (omega (arith, here)) led in
    omega (arith, rest)

run_within : {P : Type 0} (r : Rules P) (budget limit : ℕ) (start : Place P) (lines : List RoundLine) (ending : Ending) → IsRun (firsts budget limit) r start lines ending → length lines ≤ limit
run_within r budget limit start lines ending run = let led = led_within r budget limit 1 start run.last lines (omega arith) run.rounds in omega (arith, led)

front_within : {P : Type 0} (r : Rules P) (budget limit : ℕ) (start : Place P) (lines rest : List RoundLine) (ending : Ending) → IsRun (firsts budget limit) r start (lines ++ rest) ending → length lines ≤ limit
front_within r budget limit start lines rest ending run =
    let all = run_within r budget limit start (lines ++ rest) ending run in
    let both : length (lines ++ rest) ≡ length lines + length rest = length-append lines rest in
    omega (arith, all, both)

module _ (limits : Limits) (r : Runnable) where
  end_within : (lines : List RoundLine) (before now : Option (List ℕ)) (end : End2) → Wrote kind_rules r.flat.ports limits.budget limits.rounds (start_for r) lines before now end → length lines ≤ limits.rounds
  end_within lines before now ends.Done h = run_within kind_rules limits.budget limits.rounds (start_for r) lines _ h.run
  end_within lines before now ends.Stuck h = run_within kind_rules limits.budget limits.rounds (start_for r) lines _ h.run
  end_within lines before now ends.Limit h = run_within kind_rules limits.budget limits.rounds (start_for r) lines _ h.run
  end_within lines before now (ends.Spent knot weight) h = run_within kind_rules limits.budget limits.rounds (start_for r) lines _ h.run
  end_within lines before now (ends.Wide knot) h = run_within kind_rules limits.budget limits.rounds (start_for r) lines _ h.run
  end_within lines before now ends.WriteFault h = front_within kind_rules limits.budget limits.rounds (start_for r) lines h.whole.rest _ h.whole.run
  end_within lines before now ends.NoMemory h = front_within kind_rules limits.budget limits.rounds (start_for r) lines h.whole.rest _ h.whole.run

  pub rounds_within : (before now : Option (List ℕ)) (o : Outcome) → CameTo kind_rules r.flat.ports limits.budget limits.rounds (start_for r) before now o → o.rounds ≤ limits.rounds
  rounds_within before now o came = let few = end_within came.lines before now o.end came.wrote in omega (arith, few, came.counts.rounds)

  -- The ending that the outcome stands for is that of the run.
  abbrev EndsRun : List RoundLine → Ending → Type 0
  EndsRun lines ending = IsRun (firsts_for limits) kind_rules (start_for r) lines ending

  ended : (lines : List RoundLine) (rounds : ℕ) (ending : Ending) (o : Option Ending) (known : ℕ → Ending) → rounds ≡ length lines → o ≡ Some (known rounds) → o ≡ Some ending → EndsRun lines (known (length lines)) → EndsRun lines ending
  ended lines rounds ending o known same of_o is run = subst (EndsRun lines) (ap known (sym same) ∙ some_is (known rounds) ending (Some (known rounds)) (Some ending) refl refl (sym of_o ∙ is)) run

  ended_by : (lines : List RoundLine) (before now : Option (List ℕ)) (rounds : ℕ) (ending : Ending) → rounds ≡ length lines → (end : End2) → Wrote kind_rules r.flat.ports limits.budget limits.rounds (start_for r) lines before now end
      → ending_for limits.budget rounds end ≡ Some ending → EndsRun lines ending
  ended_by lines before now rounds ending same ends.Done h is = ended lines rounds ending _ (λ n. Done n) same refl is h.run
  ended_by lines before now rounds ending same ends.Stuck h is = ended lines rounds ending _ (λ n. Stuck n) same refl is h.run
  ended_by lines before now rounds ending same ends.Limit h is = ended lines rounds ending _ (λ n. Limit n) same refl is h.run
  ended_by lines before now rounds ending same (ends.Spent knot weight) h is = ended lines rounds ending _ (λ n. Spent (n + 1) knot weight limits.budget) same refl is h.run
  ended_by lines before now rounds ending same (ends.Wide knot) h is = ended lines rounds ending _ (λ n. Wide (n + 1) knot) same refl is h.run
  ended_by lines before now rounds ending same ends.WriteFault h is = absurd (none_is_some ending None refl is)
  ended_by lines before now rounds ending same ends.NoMemory h is = absurd (none_is_some ending None refl is)

  module _ (size : ℕ) (before now : Option (List ℕ)) (o : Outcome) (came : CameTo kind_rules r.flat.ports limits.budget limits.rounds (start_for r) before now o) (ending : Ending) (is : ending_for limits.budget o.rounds o.end ≡ Some ending)
      (sink : Change SinkState) (code : ℕ) where
    abbrev line_of : List RoundLine → Ending → List ℕ
    line_of lines e = measure_line size (length r.flat.wiring.primitives) (length lines) (moved is_in r.flat.ports lines) (moved is_out r.flat.ports lines) e

    run : EndsRun came.lines ending
    run = ended_by came.lines before now o.rounds ending came.counts.rounds o.end came.wrote is

    -- What the code has made of its numbers.
    module _ (seen line : List ℕ) (primitives status : ℕ) (count : primitives ≡ length r.flat.wiring.primitives) (seen_is : seen ≡ line) (line_is : line ≡ measure_line size primitives o.rounds o.written o.delivered ending) (status_is : status ≡ measure_status ending) where
      same_line : seen ≡ line_of came.lines ending
      same_line = seen_is ∙ line_is ∙ (λ i. measure_line size (count i) (came.counts.rounds i) (came.counts.written i) (came.counts.delivered i) ending)

      as_owed : Refuses seen status sink code → Refuses (line_of came.lines ending) (measure_status ending) sink code
      as_owed h = subst (λ (l : List ℕ). Refuses l (measure_status ending) sink code) same_line (subst (λ (k : ℕ). Refuses seen k sink code) status_is h)

      pub measure_cases : Refuses seen status sink code → Cases (MeasuresRun size limits r) sink code
      measure_cases h = line_cases sink code (MeasuresRun size limits r) (line_of came.lines ending) (measure_status ending) (came.lines, ending, run, (refl, refl)) (as_owed h)

      -- There is one run.
      only : HasOneRun (firsts_for limits) kind_rules (start_for r) → (bytes : List ℕ) (other : ℕ) → MeasuresRun size limits r bytes other → IsLine (line_of came.lines ending) (measure_status ending) bytes other
      only one bytes other (lines, e, others, (is_line, is_status)) =
          let same = one lines came.lines e ending others run in
          (is_line ∙ (λ i. line_of (same.0 i) (same.1 i)), is_status ∙ ap measure_status same.1)

      pub measure_exact : HasOneRun (firsts_for limits) kind_rules (start_for r) → Refuses seen status sink code → IsExact (MeasuresRun size limits r) sink code
      measure_exact one h = λ bytes other owed. line_written sink code (line_of came.lines ending) (measure_status ending) (as_owed h) bytes other (only one bytes other owed)

-- The statuses of such lines.
not_nine : (ending : Ending) → measure_status ending ≢ 9
not_nine (Done rounds) e = omega (arith, e)
not_nine (Stuck rounds) e = omega (arith, e)
not_nine (Limit rounds) e = omega (arith, e)
not_nine (Spent round knot weight budget) e = omega (arith, e)
not_nine (Wide round knot) e = omega (arith, e)

pub measure_fair : (ending : Ending) (status : ℕ) (sink : Change SinkState) (code : ℕ) → status ≡ measure_status ending → (status ≡ 9) ⊎ IsFair sink code → IsFair sink code
measure_fair ending status sink code is (inl nine) = absurd (not_nine ending (sym is ∙ nine))
measure_fair ending status sink code is (inr fair) = fair

status_in : (ending : Ending) → IsAmong (statuses_of Bench) (measure_status ending)
status_in (Done rounds) = refl
status_in (Stuck rounds) = refl
status_in (Limit rounds) = refl
status_in (Spent round knot weight budget) = refl
status_in (Wide round knot) = refl

measured_status : (size : ℕ) (limits : Limits) (r : Runnable) (bytes : List ℕ) (status : ℕ) → MeasuresRun size limits r bytes status → IsAmong (statuses_of Bench) status
measured_status size limits r bytes status (lines, ending, _, line) = subst (λ (k : ℕ). IsAmong (statuses_of Bench) k) (sym line.1) (status_in ending)

-- The same of made work, which is read as one thing.
module _ (size : ℕ) (sink : Change SinkState) (code : ℕ) (r : Runnable) where
  pub made_cases : ReadsMade size r → Cases (MeasuresRun size usual_limits r) sink code → Cases (MeasuresMade size) sink code
  made_cases reads cases = lifted sink code (MeasuresRun size usual_limits r) (MeasuresMade size) (λ bytes status owed. (r, reads, owed)) cases

  pub made_exact : ReadsMade size r → IsExact (MeasuresRun size usual_limits r) sink code → IsExact (MeasuresMade size) sink code
  made_exact reads exact = λ bytes status (x, other, owed).
      exact bytes status (subst (λ (y : Runnable). MeasuresRun size usual_limits y bytes status) (run_reading.one (text (circuit_text size) ∷ text (script_text size) ∷ []) x r other reads) owed)

  pub made_status : Cases (MeasuresRun size usual_limits r) sink code → IsAmong (statuses_of Bench) code
  made_status (inl wrote) = measured_status size usual_limits r wrote.bytes code wrote.owed
  made_status (inr (inl broke)) = subst (λ (k : ℕ). IsAmong (statuses_of Bench) k) (sym broke.code_is) refl
  made_status (inr (inr ran_out)) = subst (λ (k : ℕ). IsAmong (statuses_of Bench) k) (sym ran_out.code_is) refl
