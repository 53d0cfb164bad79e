-- What a call that hears something returns.
use Rattle.std.specs.Prelude.{◌≡◌, Bool, true, false, Option, Some, None, List, [], ◌∷◌, ◌++◌, Result, Ok, Err}
use Rattle.reo_live.specs.declared.base.answer.Answer.{Answer}
use Rattle.reo_live.specs.declared.base.answer.Answer.TheVariants as answers
use Rattle.reo_live.specs.declared.talk.fault.Going.{Going}
use Rattle.reo_live.specs.declared.talk.fault.Going.TheVariants as goings
use Rattle.reo_live.specs.declared.talk.fault.LiveFault.{LiveFault}
use Rattle.reo_live.specs.declared.talk.fault.LiveFault.TheVariants as faults

-- What is returned behind an answer that was written.
abbrev pub outcome_of : Answer → Result Going LiveFault
outcome_of (answers.Refused line fault) = Ok goings.More
outcome_of (answers.Made line) = Ok goings.More
outcome_of (answers.Ended rounds) = Ok goings.Ended
outcome_of (answers.Wide round knot) = Err (faults.Wide knot)
outcome_of (answers.Spent round knot weight budget) = Err (faults.Spent knot weight)

-- And behind a line that has an answer or none.
abbrev pub outcome_if : Option Answer → Result Going LiveFault
outcome_if None = Ok goings.More
outcome_if (Some answer) = outcome_of answer

abbrev pub list_of : Option Answer → List Answer
list_of None = []
list_of (Some answer) = answer ∷ []

-- Whether it is over behind what is returned.
abbrev pub is_over : Result Going LiveFault → Bool
is_over (Ok goings.More) = false
is_over result = true

-- What is returned says whether it is over, and with which answer: the last.
abbrev pub Says : Bool → List Answer → Result Going LiveFault → Type 0
Says false answers result = result ≡ Ok goings.More
Says true answers result = (front : List Answer) × (last : Answer)
    × (answers ≡ front ++ last ∷ []) × (result ≡ outcome_of last)
