-- From the words to the command that they are, and to what it has come to.
use Rattle.std.proofs.Common.{◌≡◌, inl, inr, ℕ, true, false, List, [], ◌∷◌, sym, subst, refl, arith}
use Rattle.std.proofs.lemmas.Bool.{both_ways}
use Rattle.std.specs.Prelude.{◌≢◌, ◌&&◌, Option, Some, None, codes}
use Rattle.reo_command.specs.declared.command.Command.{Command}
use Rattle.reo_command.specs.declared.command.Command.TheVariants.{Run, Check, Print, Upgrade, Verify, Bench, Live, Tables, Prove, VerifyProof}
use Rattle.reo_top.specs.Answers.{IsAnsweredOver, IsHeardAs, Answered, AnsweredFor, takes_for, free_for, roles_for, names_for}
use Rattle.reo_command.specs.top_base.Answered.{IsAnswered, IsAnsweredWith}
use Rattle.reo_command.specs.top_base.Cases.{Cases, IsExact, Refuses}
use Rattle.reo_live.specs.closings.Sources.{SourceChange, Events}
use Rattle.reo_top.specs.Heard.{HearsCircuit}
use Rattle.reo_top.specs.Measures.{MeasuresMade}
use Rattle.reo_command.specs.Commands.{command_of, names_of, is_free, takes_events, roles_of}
use Rattle.reo_command.specs.Fetched.{Content}
use Rattle.reo_command.specs.top_base.Outputs.{Outputs, IsLine}
use Rattle.reo_command.specs.Limits.{budget_of}
use Rattle.reo_top.specs.Owed.{owed_of, owed_for}
use Rattle.reo_command.specs.top_base.Owed.{owed_by}
use Rattle.reo_command.specs.Readings.{ReadsCircuit, StopsCheck}
use Rattle.reo_command.specs.States.{SinkState, FilesState, Change}
use Rattle.reo_command.specs.Statuses.{IsAmong, statuses_of, statuses_for}
use Rattle.reo_command.proofs.FetchLemmas.{none_fetched}
use Rattle.reo_command.proofs.top_base.CaseLemmas.{line_cases, line_written, line_code, line_not_three}

-- The status of one line, or of a sink that failed on it.
pub line_among : (sink : Change SinkState) (code : ℕ) (statuses : List ℕ) (line : List ℕ) (status : ℕ) → IsAmong statuses status → IsAmong statuses 9 → Refuses line status sink code → IsAmong statuses code
line_among sink code statuses line status here nine h = elim (line_code sink code line status h) [
  | inl is ↦ subst (λ (k : ℕ). IsAmong statuses k) (sym is) here
  | inr is ↦ subst (λ (k : ℕ). IsAmong statuses k) (sym is) nine
]

-- What a command owes that takes no events is the same for all.
pub owed_still : (command : Command) (words : List (List ℕ)) (a b : Events) → takes_events command ≡ false → owed_of command words a ≡ owed_of command words b
owed_still Run words a b still = refl
owed_still Check words a b still = refl
owed_still Print words a b still = refl
owed_still Upgrade words a b still = refl
owed_still Verify words a b still = refl
owed_still Bench words a b still = refl
owed_still Live words a b still = absurd (both_ways true still refl)
owed_still Tables words a b still = refl
owed_still Prove words a b still = refl
owed_still VerifyProof words a b still = refl

module _ (words : List (List ℕ)) (files : Change FilesState) (source : SourceChange) (sink : Change SinkState) (code : ℕ) where
  -- What the words' command has come to.
  pub answered_at : (o : Option Command) → command_of words ≡ o → AnsweredFor o words files source sink code → Answered words files source sink code
  answered_at o is h = subst (λ (p : Option Command). AnsweredFor p words files source sink code) (sym is) h

  pub answered_as : (command : Command) (names : List (List ℕ)) → command_of words ≡ Some command → names_of command words ≡ names
      → IsAnsweredOver (takes_events command) (is_free command) (owed_of command words) (roles_of command) names files source sink code → Answered words files source sink code
  answered_as command names is named h =
      answered_at (Some command) is
      (subst (λ (ns : List (List ℕ)). IsAnsweredOver (takes_events command) (is_free command) (owed_of command words) (roles_of command) ns files source sink code) (sym named) h)

  -- With the budget of its words.
  pub live_answered : (budget : ℕ) (circuit : List ℕ) → command_of words ≡ Some Live → names_of Live words ≡ circuit ∷ [] → budget ≡ budget_of words
      → IsHeardAs (is_free Live) (λ events. owed_by ReadsCircuit StopsCheck (HearsCircuit budget events)) (roles_of Live) (circuit ∷ []) files source sink code → Answered words files source sink code
  live_answered budget circuit is named same h =
      answered_as Live (circuit ∷ []) is named
      (subst (λ (b : ℕ). IsHeardAs (is_free Live) (λ events. owed_by ReadsCircuit StopsCheck (HearsCircuit b events)) (roles_of Live) (circuit ∷ []) files source sink code) same h)

  pub answered_with : (command : Command) (names : List (List ℕ)) → command_of words ≡ Some command → names_of command words ≡ names
      → (h : Answered words files source sink code) → IsAnsweredWith (takes_events command && h.events.failed) (is_free command) (owed_of command words h.events) (roles_of command) names files sink code
  answered_with command names is named h =
      subst (λ (ns : List (List ℕ)). IsAnsweredWith (takes_events command && h.events.failed) (is_free command) (owed_of command words h.events) (roles_of command) ns files sink code) named
      (subst (λ (o : Option Command). IsAnsweredWith (takes_for o && h.events.failed) (free_for o) (owed_for o words h.events) (roles_for o) (names_for o words) files sink code) is h.answered)

  pub status_as : (command : Command) → command_of words ≡ Some command → IsAmong (statuses_of command) code → IsAmong (statuses_for (command_of words)) code
  status_as command is h = subst (λ (o : Option Command). IsAmong (statuses_for o) code) (sym is) h

  -- No file is fetched.
  pub unfetched_answered : (Owed : List Content → Outputs) (names : List (List ℕ)) → Cases (Owed []) sink code → IsExact (Owed []) sink code → code ≢ 3 → files.new ≡ files.old → IsAnswered false Owed [] names files sink code
  unfetched_answered Owed names cases exact other same = record {
    answers = [];
    fetched = none_fetched names files same;
    cases = cases;
    exact = exact;
    blames = record { only = λ three. absurd (other three); told = λ gone. absurd (both_ways false refl gone) };
  }

  -- And one line is owed.
  pub line_answered : (Owed : List Content → Outputs) (names : List (List ℕ)) (line : List ℕ) (status : ℕ) → Owed [] line status
      → ((bytes : List ℕ) (other : ℕ) → Owed [] bytes other → IsLine line status bytes other) → status ≢ 3
      → files.new ≡ files.old → Refuses line status sink code → IsAnswered false Owed [] names files sink code
  line_answered Owed names line status owed only other same h =
      unfetched_answered Owed names (line_cases sink code (Owed []) line status owed h) (λ bytes more is. line_written sink code line status h bytes more (only bytes more is)) (line_not_three sink code line status other h) same

  -- Made work is measured.
  not_three : IsAmong (statuses_of Bench) code → code ≢ 3
  not_three among three = both_ways false refl (subst (λ (k : ℕ). IsAmong (statuses_of Bench) k) three among)

  pub bench_answered : (size : ℕ) → Cases (MeasuresMade size) sink code → IsExact (MeasuresMade size) sink code → IsAmong (statuses_of Bench) code → files.new ≡ files.old
      → IsAnswered false (λ answers. MeasuresMade size) [] [] files sink code
  bench_answered size cases exact among same = unfetched_answered (λ answers. MeasuresMade size) [] cases exact (not_three among) same

  -- Words without form.
  pub none_answered : (events : Events) → files.new ≡ files.old → Refuses (codes "words refused\n") 2 sink code → IsAnswered false (owed_for None words events) [] [] files sink code
  none_answered events same h = line_answered (owed_for None words events) [] (codes "words refused\n") 2 (refl, (refl, refl)) (λ bytes status owed. owed.1) (λ e. omega (arith, e)) same h

  pub status_none : command_of words ≡ None → Refuses (codes "words refused\n") 2 sink code → IsAmong (statuses_for (command_of words)) code
  status_none is h = subst (λ (o : Option Command). IsAmong (statuses_for o) code) (sym is) (line_among sink code (statuses_for None) (codes "words refused\n") 2 refl refl h)

-- Hearing takes events.
pub live_takes : (o : Option Command) → o ≡ Some Live → takes_for o ≡ false → ⊥
live_takes o is none = both_ways (takes_for o) none (subst (λ (p : Option Command). takes_for p ≡ true) (sym is) refl)
