-- What words come to, by what they ask.
use Rattle.std.proofs.Common.{◌≡◌, ◌⊎◌, inl, inr, ℕ, false, List, [], ◌∷◌, ap, subst, refl, arith}
use Rattle.std.specs.Prelude.{Option, None, codes}
use Rattle.reo_runner.specs.declared.outcome.Limits.{Limits}
use Rattle.reo_live.specs.closings.Sources.{SourceChange}
use Rattle.reo_command.specs.declared.command.Command.{Command}
use Rattle.reo_command.specs.declared.command.Command.TheVariants.{Run, Bench, Live}
use Rattle.reo_command.specs.Amounts.{size_of}
use Rattle.reo_command.specs.Commands.{command_of, is_free, takes_events, roles_of}
use Rattle.reo_command.specs.Limits.{limits_of, budget_of}
use Rattle.reo_command.specs.Readings.{ReadsCircuit, StopsCheck, ReadsRun, StopsRun}
use Rattle.reo_command.specs.Requests.{AreOf}
use Rattle.reo_command.specs.States.{SinkState, FilesState, Change}
use Rattle.reo_command.specs.Statuses.{IsAmong, statuses_of}
use Rattle.reo_command.specs.top_base.Answered.{IsAnswered}
use Rattle.reo_command.specs.top_base.Cases.{Cases, IsExact, IsFair, Refuses, TellsFaults}
use Rattle.reo_command.specs.top_base.Owed.{owed_by}
use Rattle.reo_top.specs.Answers.{IsHeardAs}
use Rattle.reo_top.specs.Comes.{ComesTo}
use Rattle.reo_top.specs.Heard.{HearsCircuit}
use Rattle.reo_top.specs.Measures.{MeasuresMade}
use Rattle.reo_top.specs.Owed.{owed_of}
use Rattle.reo_top.specs.runs.Traces.{TracesRun}
use Rattle.reo_top.proofs.StillLemmas.{still, none, still_answered, still_run, still_bench, still_none}
use Rattle.reo_top.proofs.TopLemmas.{live_answered, live_takes, status_as, status_none}

-- The same words.
pub come_along : {R : Type 0} (words seen : List (List ℕ)) (files : Change FilesState) (source : SourceChange) (before after : R) (sink : Change SinkState) (code : ℕ) → seen ≡ words
    → ComesTo seen files source before after sink code → ComesTo words files source before after sink code
come_along words seen files source before after sink code same h = subst (λ (ws : List (List ℕ)). ComesTo ws files source before after sink code) same h

module _ {R : Type 0} (told : R → Option (List ℕ)) (given : R → List ℕ) (ends faults : R → ℕ) (source : R) (words : List (List ℕ)) (files : Change FilesState) (sink : Change SinkState) (code : ℕ) where
  abbrev Comes : Type 0
  Comes = ComesTo words files (still told given ends faults source words files sink code) source source sink code

  -- A command that takes no events.
  pub still_comes : (command : Command) (names : List (List ℕ)) → AreOf command names words → takes_events command ≡ false
      → IsAnswered (is_free command) (owed_of command words (none told given ends faults source words files sink code)) (roles_of command) names files sink code
      → IsAmong (statuses_of command) code → IsFair sink code → TellsFaults sink code → Comes
  still_comes command names asked takes answered status fair tells = record {
    answer = still_answered told given ends faults source words files sink code command names asked.command_is asked.names_are takes answered;
    honest = record { status = status_as words files (still told given ends faults source words files sink code) sink code command asked.command_is status; fair = fair; tells = tells };
    inputs = record { told = answered.fetched.same; source = λ none. refl };
  }

  -- A run, within the limits of its words.
  pub run_comes : (limits : Limits) (circuit script : List ℕ) → AreOf Run (circuit ∷ script ∷ []) words × (limits ≡ limits_of words)
      → IsAnswered (is_free Run) (owed_by ReadsRun StopsRun (TracesRun limits)) (roles_of Run) (circuit ∷ script ∷ []) files sink code
      → IsAmong (statuses_of Run) code → IsFair sink code → TellsFaults sink code → Comes
  run_comes limits circuit script asked answered status fair tells = record {
    answer = still_run told given ends faults source words files sink code limits circuit script asked.0.command_is asked.0.names_are asked.1 answered;
    honest = record { status = status_as words files (still told given ends faults source words files sink code) sink code Run asked.0.command_is status; fair = fair; tells = tells };
    inputs = record { told = answered.fetched.same; source = λ none. refl };
  }

  -- A bench, of the size that its words say.
  pub bench_comes : (size : ℕ) → AreOf Bench [] words × (size ≡ size_of words) → Cases (MeasuresMade size) sink code → IsExact (MeasuresMade size) sink code
      → IsAmong (statuses_of Bench) code → IsFair sink code → TellsFaults sink code → files.new ≡ files.old → Comes
  bench_comes size asked cases exact status fair tells same = record {
    answer = still_bench told given ends faults source words files sink code size asked.0.command_is asked.1 cases exact status same;
    honest = record { status = status_as words files (still told given ends faults source words files sink code) sink code Bench asked.0.command_is status; fair = fair; tells = tells };
    inputs = record { told = ap (λ (f : FilesState). f.told) same; source = λ none. refl };
  }

  -- Words without form.
  is_fair : ◌≡◌ {A = ℕ} 2 9 ⊎ IsFair sink code → IsFair sink code
  is_fair (inl wrong) = absurd (omega (arith, wrong))
  is_fair (inr fair) = fair

  pub none_comes : command_of words ≡ None → Refuses (codes "words refused\n") 2 sink code → ◌≡◌ {A = ℕ} 2 9 ⊎ IsFair sink code → TellsFaults sink code → files.new ≡ files.old → Comes
  none_comes is refused fair tells same = record {
    answer = still_none told given ends faults source words files sink code is same refused;
    honest = record { status = status_none words files (still told given ends faults source words files sink code) sink code is refused; fair = is_fair fair; tells = tells };
    inputs = record { told = ap (λ (f : FilesState). f.told) same; source = λ none. refl };
  }

module _ {R : Type 0} (before after : R) (words : List (List ℕ)) (files : Change FilesState) (source : SourceChange) (sink : Change SinkState) (code : ℕ) where
  -- Hearing, within the budget of its words.
  pub live_comes : (budget : ℕ) (circuit : List ℕ) → AreOf Live (circuit ∷ []) words × (budget ≡ budget_of words)
      → IsHeardAs (is_free Live) (λ events. owed_by ReadsCircuit StopsCheck (HearsCircuit budget events)) (roles_of Live) (circuit ∷ []) files source sink code
      → IsAmong (statuses_of Live) code → IsFair sink code → TellsFaults sink code → ComesTo words files source before after sink code
  live_comes budget circuit asked heard status fair tells = record {
    answer = live_answered words files source sink code budget circuit asked.0.command_is asked.0.names_are asked.1 heard;
    honest = record { status = status_as words files source sink code Live asked.0.command_is status; fair = fair; tells = tells };
    inputs = record { told = heard.answered.fetched.same; source = λ none. absurd (live_takes (command_of words) asked.0.command_is none) };
  }
