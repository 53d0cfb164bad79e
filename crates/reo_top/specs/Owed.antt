-- What a command owes, by what its fetches answered.
use Rattle.std.specs.Prelude.{ℕ, ◌≡◌, List, [], Option, Some, None, codes}
use Rattle.reo_trees.specs.declared.programs_two.AnyProgram.{AnyProgram}
use Rattle.reo_syntax.specs.two.Canonical.{canonical_text_two}
use Rattle.reo_upgrade.specs.Upgraded.{upgraded, canonical_text_any}
use Rattle.reo_top.specs.inventory.Parts.{parts_text}
use Rattle.reo_command.specs.declared.command.Command.{Command}
use Rattle.reo_command.specs.declared.command.Command.TheVariants.{Run, Check, Print, Upgrade, Verify, Bench, Live, Tables, Prove, VerifyProof}
use Rattle.reo_command.specs.Claims.{ReadsClaim, StopsVerify, ReadsProof, StopsProof}
use Rattle.reo_command.specs.Fetched.{Content}
use Rattle.reo_command.specs.Limits.{limits_of, budget_of, usual_limits}
use Rattle.reo_command.specs.Amounts.{size_of}
use Rattle.reo_live.specs.closings.Sources.{Events}
use Rattle.reo_top.specs.Heard.{HearsCircuit}
use Rattle.reo_top.specs.Measures.{MeasuresMade}
use Rattle.reo_command.specs.top_base.Outputs.{Outputs, IsLine}
use Rattle.reo_command.specs.top_base.Owed.{owed_by}
use Rattle.reo_top.specs.runs.ProvedRuns.{ProvesRun}
use Rattle.reo_top.specs.runs.Traces.{TracesRun}
use Rattle.reo_top.specs.tables.Listings.{ListsTables}
use Rattle.reo_top.specs.verdicts.Judged.{JudgesTrace, JudgesProof}
use Rattle.reo_command.specs.Readings.{FlatCircuit, ReadsProgram, StopsPrint, ReadsCircuit, StopsCheck, ReadsRun, StopsRun}
use Rattle.reo_command.specs.Statuses.{done, words_refused}

-- The canonical text of a program, of its own version.
abbrev pub PrintsProgram : AnyProgram → Outputs
PrintsProgram program = IsLine (canonical_text_any program) done

-- That of the program as one of version 2.
abbrev pub UpgradesProgram : AnyProgram → Outputs
UpgradesProgram program = IsLine (canonical_text_two (upgraded program)) done

-- The parts of a circuit, line by line.
abbrev pub ListsParts : FlatCircuit → Outputs
ListsParts flat = IsLine (parts_text flat.wiring.primitives flat.wiring.joints flat.homes flat.nodes) done

-- What a command owes for its words: a run the trace of the run within the limits of its options, a check the parts of the
-- circuit, a print the canonical text of the program, an upgrade that of version 2, a verification the verdict on the trace, a
-- bench the line of the run of made work within the usual limits, whatever is fetched, live the answers to the events of the
-- source, a listing the boundary tables of the circuit within the usual budget, a proof some proved text of the run within the
-- usual limits, and the verification of one the verdict on it.
abbrev pub owed_of : Command → List (List ℕ) → Events → List Content → Outputs
owed_of Run words events = owed_by ReadsRun StopsRun (TracesRun (limits_of words))
owed_of Check words events = owed_by ReadsCircuit StopsCheck ListsParts
owed_of Print words events = owed_by ReadsProgram StopsPrint PrintsProgram
owed_of Upgrade words events = owed_by ReadsProgram StopsPrint UpgradesProgram
owed_of Verify words events = owed_by ReadsClaim StopsVerify JudgesTrace
owed_of Bench words events = λ answers. MeasuresMade (size_of words)
owed_of Live words events = owed_by ReadsCircuit StopsCheck (HearsCircuit (budget_of words) events)
owed_of Tables words events = owed_by ReadsCircuit StopsCheck (ListsTables usual_limits.budget)
owed_of Prove words events = owed_by ReadsRun StopsRun (ProvesRun usual_limits)
owed_of VerifyProof words events = owed_by ReadsProof StopsProof JudgesProof

-- The same, or the refusal of words that have no form, for which nothing is fetched.
abbrev pub owed_for : Option Command → List (List ℕ) → Events → List Content → Outputs
owed_for None words events answers = λ bytes code. (answers ≡ []) × IsLine (codes "words refused\n") words_refused bytes code
owed_for (Some command) words events answers = owed_of command words events answers
