use Rattle.std.proofs.Common.{refl, length}
use Rattle.reo_runs.specs.declared.verdicts.verdict.Verdict.TheVariants.{Verified}
use Rattle.reo_runs.specs.verdicts.Said.{jammed}
use Rattle.reo_runs.specs.Run.{start_of}
use Rattle.reo_command.specs.Limits.{limits_of}
use Rattle.reo_top_laws.proofs.CertificateLemmas.{trace_with, program_told, is_trace}
use Rattle.reo_top_laws.proofs.LimitLemmas.{few_budget, few_rounds}
use Rattle.reo_top_laws.proofs.laws.written_traces_are_verified.Goals as goal

pub returns : goal.returns
returns c words circuit script trace r code short reads t =
    let told = program_told c.circuits_are_spelled.ensures c.circuit_names_are_plain.ensures circuit r.flat reads.0 short in
    let budget = (limits_of words).budget in
    let limit = (limits_of words).rounds in
    record {
      claimed = record { work = r; claim = trace_with t.lines t.ending };
      reads = (reads, is_trace c.runs_are_trace_texts.ensures reads.0.program told r.script.components budget limit (few_budget words) (few_rounds words) t.lines t.ending trace r.flat reads.0.is t.run t.bytes_are);
      judged = (
        Verified (length t.lines) (jammed t.lines),
        c.runs_are_verified.ensures budget limit r.flat.nodes r.flat.homes (start_of r.flat.wiring r.script.components) (trace_with t.lines t.ending) t.run,
        (refl, refl),
      );
    }
