-- The lines of answers end with a line feed.
use Rattle.std.proofs.Common.{◌≡◌, ◌∙◌, ◌⊎◌, inl, inr, List, [], ◌∷◌, refl}
use Rattle.std.proofs.lemmas.List.{append-nil}
use Rattle.std.specs.Prelude.{codes}
use Rattle.std.specs.Fmt.{decimal}
use Rattle.reo_net_base.specs.declared.port.Port.{Port}
use Rattle.reo_trace.specs.EndingText.{ending_text}
use Rattle.reo_live.specs.declared.base.answer.Answer.{Answer}
use Rattle.reo_live.specs.declared.base.answer.Answer.TheVariants as answers
use Rattle.reo_live.specs.base.Answers.{fault_text, refusal_text, end_text, answer_text, answers_text}
use Rattle.reo_command.proofs.top_base.LineLemmas.{Ends, after, round_ends}

answer_ends : (ports : List Port) (answer : Answer) → Ends (answer_text ports answer)
unfolding answer_text refusal_text end_text ending_text
answer_ends ports (answers.Refused line fault) = after (codes "line ") _ (after (decimal line) _ (after (codes ": ") _ (fault_text fault, refl)))
answer_ends ports (answers.Made line) = round_ends ports line
answer_ends ports (answers.Ended rounds) = after (codes "end after ") _ (after (decimal rounds) _ (codes " rounds", refl))
answer_ends ports (answers.Wide round knot) = after (codes "wide in round ") _ (after (decimal round) _ (after (codes ": knot ") _ (decimal knot, refl)))
answer_ends ports (answers.Spent round knot weight budget) =
    after (codes "spent in round ") _ (after (decimal round) _ (after (codes ": knot ") _ (after (decimal knot) _ (after (codes " weight ") _ (after (decimal weight) _ (after (codes " budget ") _ (decimal budget, refl)))))))

all_end : (ports : List Port) (answer : Answer) (others : List Answer) → Ends (answers_text ports (answer ∷ others))
all_end ports answer [] = let e = answer_ends ports answer in (e.0, append-nil (answer_text ports answer) ∙ e.1)
all_end ports answer (next ∷ others) = after (answer_text ports answer) (answers_text ports (next ∷ others)) (all_end ports next others)

-- No bytes, or bytes that end with a line feed.
pub answers_end : (ports : List Port) (given : List Answer) → (answers_text ports given ≡ []) ⊎ Ends (answers_text ports given)
answers_end ports [] = inl refl
answers_end ports (answer ∷ others) = inr (all_end ports answer others)
