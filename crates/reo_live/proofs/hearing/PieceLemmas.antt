-- From what a call that hears something says to how hearing goes on or ends.
use Rattle.std.proofs.Common.{◌≡◌, ℕ, Bool, true, false, List, subst, refl, Result, Ok, Err}
use Rattle.std.specs.Prelude.{Option}
use Rattle.reo_io.specs.Sinks.{Appended}
use Rattle.reo_net_base.specs.declared.port.Port.{Port}
use Rattle.reo_rounds.specs.Rules.{Rules}
use Rattle.reo_live.specs.declared.base.answer.Answer.{Answer}
use Rattle.reo_live.specs.declared.base.answer.Answer.TheVariants as answers
use Rattle.reo_live.specs.base.Live.{Live}
use Rattle.reo_live.specs.base.Answers.{answers_text}
use Rattle.reo_live.specs.base.Hearing.{Last}
use Rattle.reo_live.specs.talk.Fed.{Whole, IsFed, IsFinished}
use Rattle.reo_live.specs.talk.Outcomes.{outcome_of}
use Rattle.reo_live.specs.declared.talk.fault.Going.{Going}
use Rattle.reo_live.specs.declared.talk.fault.Going.TheVariants as goings
use Rattle.reo_live.specs.declared.talk.fault.LiveFault.{LiveFault}
use Rattle.reo_live.specs.declared.talk.fault.LiveFault.TheVariants as faults
use Rattle.reo_live.specs.declared.hearing.heard.Heard.TheVariants as heards
use Rattle.reo_live.specs.hearing.Heard.{is_stop}
use Rattle.reo_live.specs.hearing.Pieces.{WroteLast, ComesTo, IsPiece, EndsPiece, IsClose, heard_by}

-- Which answer it was, by what was returned.
end_stop : (last : Answer) → Ok goings.Ended ≡ outcome_of last → is_stop last ≡ false
end_stop (answers.Refused line fault) e = refl
end_stop (answers.Made line) e = refl
end_stop (answers.Ended rounds) e = refl
end_stop (answers.Wide round knot) e = absurd (never e) where
  never : Ok goings.Ended ≡ Err (faults.Wide knot) → ⊥
  never f = cc
end_stop (answers.Spent round knot weight budget) e = absurd (never e) where
  never : Ok goings.Ended ≡ Err (faults.Spent knot weight) → ⊥
  never f = cc

no_err : {A : Type 0} (fault : LiveFault) (going : Going) → Err fault ≡ Ok going → A
no_err fault going e = absurd (never e) where
  never : Err fault ≡ Ok going → ⊥
  never f = cc

fault_stop : (fault : LiveFault) (last : Answer) → Err fault ≡ outcome_of last → is_stop last ≡ true
fault_stop fault (answers.Refused line f) e = no_err fault goings.More e
fault_stop fault (answers.Made line) e = no_err fault goings.More e
fault_stop fault (answers.Ended rounds) e = no_err fault goings.Ended e
fault_stop fault (answers.Wide round knot) e = refl
fault_stop fault (answers.Spent round knot weight budget) e = refl

module _ (ports : List Port) (before now : Option (List ℕ)) (Come : List Answer → Type 0) (all : List Answer) (come : Come all) where
  last_of : (stop : Bool) (result : Result Going LiveFault) → ((last : Answer) → result ≡ outcome_of last → is_stop last ≡ stop) → Whole ports before now true all result → WroteLast ports before now Come stop
  last_of stop result stops whole =
      let says = whole.says in
      record {
        front = says.0;
        last = says.1;
        come = subst Come says.2 come;
        stop_is = stops says.1 says.3;
        text = subst (λ (l : List Answer). Appended before now (answers_text ports l)) says.2 whole.text;
      }

module _ {P : Type 0} (r : Rules P) (ports : List Port) (budget : ℕ) (before now : Option (List ℕ)) (s : Live P) where
  -- A piece after which a line more may follow.
  pub piece_more : {X : Type 0} (x : X) (bytes : List ℕ) (t : Live P) → t.stand.over ≡ false → IsFed ports before now r budget s bytes t (Ok goings.More)
      → IsPiece r ports budget before now s bytes t (Ok x)
  piece_more x bytes t unspent fed = record { answers = fed.answers; come = (fed.after, unspent); text = fed.whole.text }

  over_last : (bytes : List ℕ) (t : Live P) (stop : Bool) (result : Result Going LiveFault) → t.stand.over ≡ true → ((last : Answer) → result ≡ outcome_of last → is_stop last ≡ stop)
      → (all : List Answer) → ComesTo r ports budget before now s bytes t true all → Whole ports before now t.stand.over all result
      → WroteLast ports before now (ComesTo r ports budget before now s bytes t true) stop
  over_last bytes t stop result over stops all come whole =
      last_of ports before now (ComesTo r ports budget before now s bytes t true) all come stop result stops (subst (λ b. Whole ports before now b all result) over whole)

  -- The piece with the event `end`.
  pub piece_ended : (bytes : List ℕ) (t : Live P) → t.stand.over ≡ true → IsFed ports before now r budget s bytes t (Ok goings.Ended)
      → EndsPiece r ports budget before now s bytes t heards.Ended
  piece_ended bytes t over fed = over_last bytes t false (Ok goings.Ended) over end_stop fed.answers (fed.after, over) fed.whole

  -- A piece in which hearing stops.
  pub piece_stopped : (fault : LiveFault) (bytes : List ℕ) (t : Live P) → t.stand.over ≡ true → IsFed ports before now r budget s bytes t (Err fault)
      → EndsPiece r ports budget before now s bytes t (heard_by fault)
  piece_stopped faults.Failed bytes t over fed = record { answers = fed.answers; come = (fed.next, fed.after); part = fed.part }
  piece_stopped (faults.Wide knot) bytes t over fed = over_last bytes t true (Err (faults.Wide knot)) over (fault_stop (faults.Wide knot)) fed.answers (fed.after, over) fed.whole
  piece_stopped (faults.Spent knot weight) bytes t over fed =
      over_last bytes t true (Err (faults.Spent knot weight)) over (fault_stop (faults.Spent knot weight)) fed.answers (fed.after, over) fed.whole
  piece_stopped faults.NoMemory bytes t over fed = record { lines = fed.lines; rest = fed.rest; come = (fed.next, fed.after); text = fed.text }

  -- The end of the input.
  pub close_ended : {X : Type 0} (x : X) → IsFinished ports before now r budget s (Ok x) → IsClose r ports budget before now s heards.Ended
  close_ended x done = last_of ports before now (Last r ports budget s) done.answers done.last false (Ok goings.Ended) end_stop done.whole

  pub close_stopped : (X : Type 0) (fault : LiveFault) → IsFinished ports before now r budget {X = X} s (Err fault) → IsClose r ports budget before now s (heard_by fault)
  close_stopped X faults.Failed done = record { answers = done.answers; come = done.last; part = done.part }
  close_stopped X (faults.Wide knot) done = last_of ports before now (Last r ports budget s) done.answers done.last true (Err (faults.Wide knot)) (fault_stop (faults.Wide knot)) done.whole
  close_stopped X (faults.Spent knot weight) done =
      last_of ports before now (Last r ports budget s) done.answers done.last true (Err (faults.Spent knot weight)) (fault_stop (faults.Spent knot weight)) done.whole
  close_stopped X faults.NoMemory done = record { lines = done.lines; rest = done.rest; come = done.last; text = done.text }
