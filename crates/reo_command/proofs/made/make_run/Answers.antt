use Rattle.std.proofs.Common.{◌≡◌, ◌∙◌, ℕ, ◌<◌, ◌^◌, List, length, sym, subst}
use Rattle.reo_gen.specs.Circuits.{circuit_text}
use Rattle.reo_gen.specs.Scripts.{script_text}
use Rattle.reo_command.specs.Made.{TextsStop}
use Rattle.reo_command.specs.ReadSteps.{IsStoppedBy}
use Rattle.reo_command.proofs.MadeLemmas.{only_memory}
use Rattle.reo_command.proofs.made.make_run.Goals as goal

pub read_texts-requires-clause-circuit : goal.read_texts-requires-clause-circuit
read_texts-requires-clause-circuit c =
    let work = c.work_is_accepted.ensures c.args.size c.requires.some c.requires.few in
    subst (λ (t : List ℕ). length t < 2 ^ 32) (sym (c.as_slice.ensures ∙ c.in_ok-made.ensures.circuit)) work.circuit_short

pub read_texts-requires-clause-script : goal.read_texts-requires-clause-script
read_texts-requires-clause-script c =
    let work = c.work_is_accepted.ensures c.args.size c.requires.some c.requires.few in
    subst (λ (t : List ℕ). length t < 2 ^ 32) (sym (c.as_slice-2.ensures ∙ c.in_ok-made.ensures.script)) work.script_short

pub unreachable-requires : goal.unreachable-requires
unreachable-requires c =
    let size : ℕ = c.args.size in
    let circuit : c.as_slice.result.now ≡ circuit_text size = c.as_slice.ensures ∙ c.in_ok-made.ensures.circuit in
    let script : c.as_slice-2.result.now ≡ script_text size = c.as_slice-2.ensures ∙ c.in_ok-made.ensures.script in
    let stopped : IsStoppedBy (TextsStop (circuit_text size) (script_text size)) c.in-Err.stop = subst (λ (t : List ℕ). IsStoppedBy (TextsStop t (script_text size)) c.in-Err.stop) circuit
    (subst (λ (t : List ℕ). IsStoppedBy (TextsStop c.as_slice.result.now t) c.in-Err.stop) script c.in-Err.ensures.stop) in
    c.in_default.not-NoMemory (only_memory size (c.work_is_accepted.ensures size c.requires.some c.requires.few) c.in-Err.stop stopped)
