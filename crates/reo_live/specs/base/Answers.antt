-- The lines of answers.
use Rattle.std.specs.Prelude.{ℕ, List, ◌++◌, codes}
use Rattle.std.specs.Fmt.{decimal}
use Rattle.std.specs.List.{flat_map}
use Rattle.reo_net_base.specs.declared.port.Port.{Port}
use Rattle.reo_trace.specs.declared.line.Ending.TheVariants as endings
use Rattle.reo_trace.specs.RoundText.{round_text}
use Rattle.reo_trace.specs.EndingText.{ending_text}
use Rattle.reo_weights.specs.Over.{Cause}
use Rattle.reo_weights.specs.Over.Cause.{spent, wide}
use Rattle.reo_live.specs.declared.base.answer.Answer.{Answer}
use Rattle.reo_live.specs.declared.base.answer.Answer.TheVariants as answers
use Rattle.reo_live.specs.declared.base.fault.LineRefusal.{LineRefusal}
use Rattle.reo_live.specs.declared.base.fault.LineRefusal.TheVariants as faults

-- The answer that says why the round of a number cannot be planned.
abbrev pub stopped_by : ℕ → Cause → Answer
stopped_by round (wide knot) = answers.Wide round knot
stopped_by round (spent knot weight budget) = answers.Spent round knot weight budget

abbrev pub fault_text : LineRefusal → List ℕ
fault_text faults.Long = codes "long"
fault_text faults.Form = codes "form"
fault_text faults.Port = codes "port"
fault_text faults.Way = codes "way"
fault_text faults.Pending = codes "pending"
fault_text faults.Outside = codes "outside"
fault_text faults.Nothing = codes "none"

-- The line of a refusal.
unfoldable pub refusal_text : (line : ℕ) → LineRefusal → List ℕ
refusal_text line fault =
    codes "line " ++ (decimal line ++ (codes ": " ++ (fault_text fault ++ codes "\n")))

-- The line that says that nothing further is judged.
unfoldable pub end_text : (rounds : ℕ) → List ℕ
end_text rounds = codes "end after " ++ (decimal rounds ++ codes " rounds\n")

-- The line of an answer.
unfoldable pub answer_text : List Port → Answer → List ℕ
answer_text ports (answers.Refused line fault) = refusal_text line fault
answer_text ports (answers.Made line) = round_text ports line
answer_text ports (answers.Ended rounds) = end_text rounds
answer_text ports (answers.Wide round knot) = ending_text (endings.Wide round knot)
answer_text ports (answers.Spent round knot weight budget) =
    ending_text (endings.Spent round knot weight budget)

-- The lines of all answers, in order.
abbrev pub answers_text : List Port → List Answer → List ℕ
answers_text ports answers = flat_map (answer_text ports) answers
