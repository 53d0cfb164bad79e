-- What a file is to a command.
use Rattle.std.specs.Prelude.{ℕ, List, codes}
use Rattle.reo_command.specs.declared.role.Role.{Role}
use Rattle.reo_command.specs.declared.role.Role.TheVariants.{Circuit, Script, Trace, Proof}
use Rattle.reo_command.specs.Statuses.{circuit_refused, script_refused, trace_refused, proof_refused}

-- The word for a file in the lines about it.
abbrev pub role_text : Role → List ℕ
role_text Circuit = codes "circuit"
role_text Script = codes "script"
role_text Trace = codes "trace"
role_text Proof = codes "proof"

-- The word before the refusal of its text.
abbrev pub refused_text : Role → List ℕ
refused_text Circuit = codes "circuit"
refused_text Script = codes "script"
refused_text Trace = codes "verify"
refused_text Proof = codes "proof"

-- The most bytes of a file.
abbrev pub most_bytes : Role → ℕ
most_bytes Circuit = 1048576
most_bytes Script = 1048576
most_bytes Trace = 67108864
most_bytes Proof = 67108864

-- The status of a text that is refused.
abbrev pub refused_status : Role → ℕ
refused_status Circuit = circuit_refused
refused_status Script = script_refused
refused_status Trace = trace_refused
refused_status Proof = proof_refused
