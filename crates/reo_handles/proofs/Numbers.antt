-- Numbers that are answered.
use Rattle.std.proofs.Common.{◌≡◌, ℕ}
use Rattle.reo_handles.specs.Statuses.{Answers, number_of}
use Rattle.reo_handles.specs.declared.status.CallStatus.{CallStatus}

pub answered : (Holds : CallStatus → Type 0) (status : CallStatus) (number : ℕ) → Holds status → number ≡ number_of status → Answers Holds number
answered Holds status number holds is = record { status = status; number_is = is; holds = holds }
