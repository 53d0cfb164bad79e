use Rattle.std.proofs.Common.{length, refl, sym, subst, arith}
use Rattle.std.specs.Prelude.{Ok}
use Rattle.reo_runs.specs.at_ports.Kinds.{kind_rules}
use Rattle.reo_runs.specs.Run.{firsts, start_of}
use Rattle.reo_proof_texts.specs.Proven.{IsProved}
use Rattle.reo_proof_texts.specs.ProofVerdicts.{IsProofVerdict}
use Rattle.reo_command.specs.Limits.{usual_limits}
use Rattle.reo_command.specs.Readings.{FlatCircuit}
use Rattle.reo_top_laws.proofs.CertificateLemmas.{program_told}
use Rattle.reo_top_laws.proofs.laws.written_proofs_are_verified.Goals as goal

pub returns : goal.returns
returns c circuit script proof r code short reads p =
    let told = program_told c.circuits_are_spelled.ensures c.circuit_names_are_plain.ensures circuit r.flat reads.0 short in
    let budget = usual_limits.budget in
    let limit = usual_limits.rounds in
    let here = c.run_proofs_are_verified.ensures reads.0.program r.script.components budget limit r.flat.nodes r.flat.homes p.rounds p.ending proof told (omega arith) (omega arith) in
    let there = subst
    (λ (flat : FlatCircuit). IsProved (firsts budget limit) kind_rules flat.ports (start_of flat.wiring r.script.components) p.rounds p.ending proof
    → IsProofVerdict kind_rules flat.ports r.flat.nodes r.flat.homes (start_of flat.wiring r.script.components) proof (Ok (length p.rounds))) (sym reads.0.is) here in
    record {
      claimed = record { work = r; claim = proof };
      reads = (reads, refl);
      judged = (Ok (length p.rounds), there p.proved, (refl, refl));
    }
