-- What hearing a source on the circuit of a file has come to.
use Rattle.std.proofs.Common.{◌∙◌, inl, inr, ℕ, false, List, [], ◌∷◌, sym, refl, arith}
use Rattle.std.specs.Prelude.{Option, Err}
use Rattle.reo_live.specs.closings.Sources.{SourceChange, Events, followed, source_change, state_of, untaken}
use Rattle.reo_command.specs.declared.command.Command.TheVariants.{Live}
use Rattle.reo_command.specs.declared.role.Role.TheVariants.{Circuit}
use Rattle.reo_command.specs.declared.stop.Stop.{Stop}
use Rattle.reo_command.specs.Commands.{is_free}
use Rattle.reo_command.specs.Fetched.{Content, AreFetched}
use Rattle.reo_command.specs.Readings.{FlatCircuit, IsReadAs, ReadsCircuit, StopsCheck}
use Rattle.reo_command.specs.States.{SinkState, FilesState, Change}
use Rattle.reo_command.specs.Statuses.{statuses_of}
use Rattle.reo_command.specs.top_base.Owed.{owed_by}
use Rattle.reo_command.specs.top_base.Stopped.{IsRefusedAs}
use Rattle.reo_command.proofs.ReadLemmas.{reading_at}
use Rattle.reo_command.proofs.top_base.AnswerLemmas.{refused_answered, heard_answered}
use Rattle.reo_top.specs.Answers.{IsHeardAs}
use Rattle.reo_top.specs.Heard.{HearsCircuit, IsHeardOn}
use Rattle.reo_top.proofs.ClosingStatuses.{heard_three, live_reading}
use Rattle.reo_top.proofs.UntakenLemmas.{none_taken, none_taken_few}

module _ (budget : ℕ) (name : List ℕ) (files : Change FilesState) (sink : Change SinkState) (code : ℕ) (answers : List Content) (fetched : AreFetched (Circuit ∷ []) (name ∷ []) answers files) where
  -- It was heard on.
  pub heard_over : (source : SourceChange) (flat : FlatCircuit) → ReadsCircuit answers flat → IsHeardOn budget flat source sink code
      → IsHeardAs (is_free Live) (λ events. owed_by ReadsCircuit StopsCheck (HearsCircuit budget events)) (Circuit ∷ []) (name ∷ []) files source sink code
  heard_over source flat reads heard = record {
    events = heard.events;
    taken = heard.taken;
    few = heard.few;
    misses = heard.misses;
    answered = heard_answered ReadsCircuit StopsCheck (HearsCircuit budget heard.events) (statuses_of Live) sink code answers (reading_at live_reading answers) flat reads heard.cases
        heard.events.failed heard.exact (heard_three budget heard.events flat) (Circuit ∷ []) (name ∷ []) files fetched;
    untouched = λ none. absurd (none flat reads);
    whatever = λ here. elim (heard.whatever here) [
      | inl said ↦ inl said
      | inr any ↦ inr (λ more. heard_answered ReadsCircuit StopsCheck (HearsCircuit budget (followed heard.events more)) (statuses_of Live) sink code answers (reading_at live_reading answers) flat reads (any more).cases
          false (any more).exact (λ bytes status makes three. sym here ∙ heard_three budget (followed heard.events more) flat bytes status makes three) (Circuit ∷ []) (name ∷ []) files fetched)
    ];
  }

  -- The circuit stopped the command, and nothing was taken.
  module _ {R : Type 0} (told : R → Option (List ℕ)) (given : R → List ℕ) (ends faults : R → ℕ) (source : R) where
    pub stopped_over : (stop : Stop) → IsReadAs ReadsCircuit StopsCheck answers (Err stop) → IsRefusedAs stop sink code
        → IsHeardAs (is_free Live) (λ events. owed_by ReadsCircuit StopsCheck (HearsCircuit budget events)) (Circuit ∷ []) (name ∷ []) files (source_change told given ends faults source source) sink code
    stopped_over stop stopped refused =
        let none : Events = untaken (state_of told given ends faults source) in
        record {
          events = none;
          taken = none_taken told given ends faults source;
          few = none_taken_few told given ends faults source code;
          misses = λ rose. absurd (omega (arith, rose));
          answered = refused_answered ReadsCircuit StopsCheck (HearsCircuit budget none) (statuses_of Live) sink code answers (reading_at live_reading answers) stop stopped refused (Circuit ∷ []) (name ∷ []) files fetched;
          untouched = λ had. refl;
          whatever = λ here. inr (λ more. refused_answered ReadsCircuit StopsCheck (HearsCircuit budget (followed none more)) (statuses_of Live) sink code answers (reading_at live_reading answers) stop stopped refused (Circuit ∷ []) (name ∷ []) files fetched);
        }
