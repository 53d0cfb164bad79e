-- One line that was judged, by what was written of its answer.
use Rattle.std.proofs.Common.{◌≡◌, ℕ, Option, Some, None, List, [], Result, Ok, Err, refl, sym, ap, subst}
use Rattle.reo_io.specs.Sinks.{Appended}
use Rattle.reo_net_base.specs.declared.port.Port.{Port}
use Rattle.reo_engine.specs.Engine.{Running}
use Rattle.reo_live.specs.declared.base.answer.Answer.{Answer}
use Rattle.reo_live.specs.declared.base.answer.Answer.TheVariants as answers
use Rattle.reo_live.specs.base.Answers.{answers_text}
use Rattle.reo_live.specs.base.Events.{Told}
use Rattle.reo_live.specs.declared.talk.fault.Going.{Going}
use Rattle.reo_live.specs.declared.talk.fault.Going.TheVariants as goings
use Rattle.reo_live.specs.declared.talk.fault.LiveFault.{LiveFault}
use Rattle.reo_live.specs.declared.talk.fault.LiveFault.TheVariants as faults
use Rattle.reo_live.specs.talk.Outcomes.{Says, is_over, outcome_if, list_of}
use Rattle.reo_live.specs.talk.Fed.{Responds, Whole, Judged}
use Rattle.reo_live.specs.talk.Talks.{stand_of, told_by}

says_its_own : (answer : Option Answer) → Says (is_over (outcome_if answer)) (list_of answer) (outcome_if answer)
says_its_own None = refl
says_its_own (Some (answers.Refused line fault)) = refl
says_its_own (Some (answers.Made line)) = refl
says_its_own (Some (answers.Ended rounds)) = ([], answers.Ended rounds, refl, refl)
says_its_own (Some (answers.Wide round knot)) = ([], answers.Wide round knot, refl, refl)
says_its_own (Some (answers.Spent round knot weight budget)) = ([], answers.Spent round knot weight budget, refl, refl)

module _ {P : Type 0} (Is : Told P → Type 0) (ports : List Port) (before now : Option (List ℕ)) (e : Running P) (n : ℕ) (answer : Option Answer) (is : Is (told_by e n answer)) where
  whole : (result : Result Going LiveFault) → (result ≡ outcome_if answer) × Appended before now (answers_text ports (list_of answer))
      → (told : Told P) × Is told × (told.stand ≡ stand_of e n (is_over result)) × Whole ports before now told.stand.over told.answers result
  whole result h = (
    told_by e n answer,
    is,
    ap (λ (q : Result Going LiveFault). stand_of e n (is_over q)) (sym h.0),
    record {
      says = subst (λ (q : Result Going LiveFault). Says (is_over (outcome_if answer)) (list_of answer) q) (sym h.0) (says_its_own answer);
      text = h.1;
    },
  )

  -- What was judged, and answered so.
  pub responded : (result : Result Going LiveFault) → Responds ports before now answer result → Judged ports before now Is (stand_of e n (is_over result)) result
  responded (Ok goings.More) h = whole (Ok goings.More) h
  responded (Ok goings.Ended) h = whole (Ok goings.Ended) h
  responded (Err faults.Failed) h = (told_by e n answer, is, h)
  responded (Err (faults.Wide k)) h = whole (Err (faults.Wide k)) h
  responded (Err (faults.Spent k w)) h = whole (Err (faults.Spent k w)) h
  responded (Err faults.NoMemory) h = h
