-- What was written for what stopped a command, and for what it made.
use Rattle.std.proofs.Common.{◌≡◌, ◌⊎◌, inl, inr, refl, ℕ, true, false, List, arith}
use Rattle.std.proofs.lemmas.Bool.{both_ways}
use Rattle.std.specs.Prelude.{◌≢◌}
use Rattle.reo_command.specs.declared.role.Role.{Role}
use Rattle.reo_command.specs.declared.role.Role.TheVariants.{Circuit, Script, Trace, Proof}
use Rattle.reo_command.specs.declared.stop.Stop.{Stop}
use Rattle.reo_command.specs.declared.stop.Stop.TheVariants.{Missed, TooLong, Refused, NoMemory}
use Rattle.reo_command.specs.top_base.Cases.{Cases, IsExact}
use Rattle.reo_command.specs.top_base.Outputs.{Outputs, IsLine}
use Rattle.reo_command.specs.Roles.{refused_status}
use Rattle.reo_command.specs.States.{SinkState, Change}
use Rattle.reo_command.specs.top_base.Stopped.{IsRefusedAs}
use Rattle.reo_command.specs.Stops.{stop_text, stop_status}
use Rattle.reo_command.proofs.ReadLemmas.{is_missed}
use Rattle.reo_command.proofs.top_base.CaseLemmas.{line_cases, no_memory_cases, no_memory_exact, line_written, line_code, line_not_three}

-- The line of the stop is owed.
module _ (Owed : Outputs) (sink : Change SinkState) (code : ℕ) where
  pub stop_cases : (stop : Stop) → Owed (stop_text stop) (stop_status stop) → IsRefusedAs stop sink code → Cases Owed sink code
  stop_cases (Missed role) owed h = line_cases sink code Owed (stop_text (Missed role)) (stop_status (Missed role)) owed h
  stop_cases (TooLong role) owed h = line_cases sink code Owed (stop_text (TooLong role)) (stop_status (TooLong role)) owed h
  stop_cases (Refused role r) owed (inl h) = line_cases sink code Owed (stop_text (Refused role r)) (stop_status (Refused role r)) owed h
  stop_cases (Refused role r) owed (inr h) = no_memory_cases sink code Owed h
  stop_cases NoMemory owed h = no_memory_cases sink code Owed h

  -- Nothing else is owed.
  pub stop_exact : (stop : Stop) → ((bytes : List ℕ) (status : ℕ) → Owed bytes status → IsLine (stop_text stop) (stop_status stop) bytes status) → IsRefusedAs stop sink code → IsExact Owed sink code
  stop_exact (Missed role) only h = λ bytes status owed. line_written sink code (stop_text (Missed role)) (stop_status (Missed role)) h bytes status (only bytes status owed)
  stop_exact (TooLong role) only h = λ bytes status owed. line_written sink code (stop_text (TooLong role)) (stop_status (TooLong role)) h bytes status (only bytes status owed)
  stop_exact (Refused role r) only (inl h) = λ bytes status owed. line_written sink code (stop_text (Refused role r)) (stop_status (Refused role r)) h bytes status (only bytes status owed)
  stop_exact (Refused role r) only (inr h) = no_memory_exact sink code Owed h
  stop_exact NoMemory only h = no_memory_exact sink code Owed h

not_three : (role : Role) → refused_status role ≢ 3
not_three Circuit e = omega (arith, e)
not_three Script e = omega (arith, e)
not_three Trace e = omega (arith, e)
not_three Proof e = omega (arith, e)

-- The status says that a file cannot be had, or the sink failed on the line that does, exactly where it stopped the command.
pub stop_only : (stop : Stop) (sink : Change SinkState) (code : ℕ) → IsRefusedAs stop sink code → code ≡ 3 → is_missed stop ≡ true
stop_only (Missed role) sink code h three = refl
stop_only (TooLong role) sink code h three = absurd (line_not_three sink code _ 4 (λ e. omega (arith, e)) h three)
stop_only (Refused role r) sink code (inl h) three = absurd (line_not_three sink code _ (refused_status role) (not_three role) h three)
stop_only (Refused role r) sink code (inr h) three = absurd (omega (arith, h.0, three))
stop_only NoMemory sink code h three = absurd (omega (arith, h.0, three))

pub stop_told : (stop : Stop) (sink : Change SinkState) (code : ℕ) → IsRefusedAs stop sink code → is_missed stop ≡ true → (code ≡ 3) ⊎ (code ≡ 9)
stop_told (Missed role) sink code h is = line_code sink code _ _ h
stop_told (TooLong role) sink code h is = absurd (both_ways false refl is)
stop_told (Refused role r) sink code h is = absurd (both_ways false refl is)
stop_told NoMemory sink code h is = absurd (both_ways false refl is)
