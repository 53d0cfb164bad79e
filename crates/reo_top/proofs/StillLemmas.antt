-- What a command that takes no events has come to.
use Rattle.std.proofs.Common.{◌≡◌, inr, ℕ, Bool, true, false, List, [], ◌∷◌, sym, subst, refl, arith}
use Rattle.std.specs.Prelude.{◌&&◌, Option, Some, None, codes}
use Rattle.reo_runner.specs.declared.outcome.Limits.{Limits}
use Rattle.reo_live.specs.closings.Sources.{SourceChange, Events, followed, source_change, state_of, untaken}
use Rattle.reo_command.specs.declared.command.Command.{Command}
use Rattle.reo_command.specs.declared.command.Command.TheVariants.{Run, Bench}
use Rattle.reo_command.specs.declared.role.Role.{Role}
use Rattle.reo_command.specs.Amounts.{size_of}
use Rattle.reo_command.specs.Commands.{command_of, names_of, is_free, takes_events, roles_of}
use Rattle.reo_command.specs.Fetched.{Content}
use Rattle.reo_command.specs.Limits.{limits_of}
use Rattle.reo_command.specs.Readings.{ReadsRun, StopsRun}
use Rattle.reo_command.specs.States.{SinkState, FilesState, Change}
use Rattle.reo_command.specs.Statuses.{IsAmong, statuses_of}
use Rattle.reo_top.specs.Answers.{Answered, IsAnsweredOver}
use Rattle.reo_command.specs.top_base.Answered.{IsAnswered, IsAnsweredWith}
use Rattle.reo_command.specs.top_base.Cases.{Cases, IsExact, Refuses}
use Rattle.reo_top.specs.Measures.{MeasuresMade}
use Rattle.reo_command.specs.top_base.Outputs.{Outputs}
use Rattle.reo_top.specs.Owed.{owed_of, owed_for}
use Rattle.reo_command.specs.top_base.Owed.{owed_by}
use Rattle.reo_top.specs.runs.Traces.{TracesRun}
use Rattle.reo_top.proofs.TopLemmas.{answered_as, answered_at, bench_answered, none_answered, owed_still}
use Rattle.reo_top.proofs.UntakenLemmas.{none_taken, none_taken_few}

module _ {R : Type 0} (told : R → Option (List ℕ)) (given : R → List ℕ) (ends faults : R → ℕ) (source : R) (words : List (List ℕ)) (files : Change FilesState) (sink : Change SinkState) (code : ℕ) where
  abbrev pub still : SourceChange
  still = source_change told given ends faults source source

  abbrev pub none : Events
  none = untaken (state_of told given ends faults source)

  -- For no event, and for whatever may follow.
  over_none : (takes free : Bool) (Owed : Events → List Content → Outputs) (roles : List Role) (names : List (List ℕ)) → (takes && false) ≡ false → ((events : Events) → Owed none ≡ Owed events)
      → IsAnswered free (Owed none) roles names files sink code → IsAnsweredOver takes free Owed roles names files still sink code
  over_none takes free Owed roles names no_take same h = record {
    events = none;
    taken = none_taken told given ends faults source;
    few = none_taken_few told given ends faults source code;
    misses = λ rose. absurd (omega (arith, rose));
    answered = subst (λ (failed : Bool). IsAnsweredWith failed free (Owed none) roles names files sink code) (sym no_take) h;
    untouched = λ had. refl;
    whatever = λ here. inr (λ more. subst (λ (Owes : List Content → Outputs). IsAnswered free Owes roles names files sink code) (same (followed none more)) h);
  }

  no_take : (takes : Bool) → takes ≡ false → (takes && false) ≡ false
  no_take true is = refl
  no_take false is = refl

  pub still_answered : (command : Command) (names : List (List ℕ)) → command_of words ≡ Some command → names_of command words ≡ names → takes_events command ≡ false
      → IsAnswered (is_free command) (owed_of command words none) (roles_of command) names files sink code → Answered words files still sink code
  still_answered command names is named takes h =
      answered_as words files still sink code command names is named
      (over_none (takes_events command) (is_free command) (owed_of command words) (roles_of command) names (no_take (takes_events command) takes) (λ events. owed_still command words none events takes) h)

  pub still_run : (limits : Limits) (circuit script : List ℕ) → command_of words ≡ Some Run → names_of Run words ≡ circuit ∷ script ∷ [] → limits ≡ limits_of words
      → IsAnswered (is_free Run) (owed_by ReadsRun StopsRun (TracesRun limits)) (roles_of Run) (circuit ∷ script ∷ []) files sink code → Answered words files still sink code
  still_run limits circuit script is named same h =
      still_answered Run (circuit ∷ script ∷ []) is named refl
      (subst (λ (l : Limits). IsAnswered (is_free Run) (owed_by ReadsRun StopsRun (TracesRun l)) (roles_of Run) (circuit ∷ script ∷ []) files sink code) same h)

  pub still_bench : (size : ℕ) → command_of words ≡ Some Bench → size ≡ size_of words → Cases (MeasuresMade size) sink code → IsExact (MeasuresMade size) sink code → IsAmong (statuses_of Bench) code → files.new ≡ files.old
      → Answered words files still sink code
  still_bench size is of_words cases exact among same =
      still_answered Bench [] is refl refl
      (subst (λ (n : ℕ). IsAnswered (is_free Bench) (λ answers. MeasuresMade n) [] [] files sink code) of_words (bench_answered words files still sink code size cases exact among same))

  pub still_none : command_of words ≡ None → files.new ≡ files.old → Refuses (codes "words refused\n") 2 sink code → Answered words files still sink code
  still_none is same h =
      answered_at words files still sink code None is (over_none false false (owed_for None words) [] [] refl (λ events. refl) (none_answered words files still sink code none same h))
