-- What the end of the input has come to.
use Rattle.std.proofs.Common.{◌≡◌, ◌∙◌, ℕ, ◌+◌, Bool, true, false, cond, inr, Option, List, [], ◌∷◌, ◌++◌, Result, Ok, Err, refl, sym, ap, subst}
use Rattle.std.proofs.lemmas.List.{append-nil}
use Rattle.reo_io.specs.Sinks.{Appended, TookPart}
use Rattle.reo_io.proofs.Taken.{Appended-none, Appended-append, TookPart-after, TookPart-more}
use Rattle.reo_net_base.specs.Net.{net_of}
use Rattle.reo_net_base.specs.declared.port.Port.{Port}
use Rattle.reo_rounds.specs.Order.{HasOrder}
use Rattle.reo_rounds.specs.Rules.{Rules}
use Rattle.reo_engine.specs.Engine.{Running}
use Rattle.reo_live.specs.declared.base.answer.Answer.{Answer}
use Rattle.reo_live.specs.declared.base.answer.Answer.TheVariants.{Ended}
use Rattle.reo_live.specs.base.Answers.{answers_text}
use Rattle.reo_live.specs.base.Held.{Held, short, long}
use Rattle.reo_live.specs.base.Live.{Stand, Live}
use Rattle.reo_live.specs.base.Events.{Told}
use Rattle.reo_live.specs.base.Hearing.{Judges, ClosesLine, Last}
use Rattle.reo_live.specs.base.Laws.{EndingExists}
use Rattle.reo_live.specs.declared.talk.fault.Going.{Going}
use Rattle.reo_live.specs.declared.talk.fault.Going.TheVariants as goings
use Rattle.reo_live.specs.declared.talk.fault.LiveFault.{LiveFault}
use Rattle.reo_live.specs.declared.talk.fault.LiveFault.TheVariants as faults
use Rattle.reo_live.specs.talk.Fed.{Whole, Judged, IsClosed, FinishedAll, IsFinished}
use Rattle.reo_live.specs.talk.Outcomes.{Says, is_over}
use Rattle.reo_live.specs.talk.Talks.{stand_of, live_of}
use Rattle.reo_live.proofs.talk.HearLemmas.{texts_two}

-- A line that is not empty.
pub some_line : (line : Held) (empty : Bool) → empty ≡ false → (line ≡ short [] → empty ≡ true) → line ≡ short [] → ⊥
some_line line empty not when is = let e : empty ≡ true = when is in cc

module _ {P : Type 0} (r : Rules P) (ports : List Port) (budget : ℕ) where
  -- All that is answered to a line that was judged, and to the end.
  abbrev all_of : Told P → List Answer
  all_of told = told.answers ++ cond told.stand.over [] (Ended told.stand.rounds ∷ [])

  closes : (a : Stand P) (line : Held) → (line ≡ short [] → ⊥) → (told : Told P) → Judges r ports budget a line told → (answers : List Answer) → answers ≡ all_of told → ClosesLine r ports budget a line answers
  closes a (short []) some told is answers all = absurd (some refl)
  closes a (short (b ∷ bs)) some told is answers all = (told, is, all)
  closes a long some told is answers all = (told, is, all)

  module _ (old : Running P) (n : ℕ) (line : Held) where
    abbrev at : Live P
    at = live_of old n false line

    abbrev Is : Told P → Type 0
    Is = Judges r ports budget (stand_of old n false) line

    -- No line is left.
    last_none : (rounds : ℕ) → rounds ≡ old.rounds → line ≡ short [] → Last r ports budget at (Ended rounds ∷ [])
    last_none rounds same empty =
        inr (refl, subst (λ (h : Held). ClosesLine r ports budget (stand_of old n false) h (Ended rounds ∷ [])) (sym empty) (ap (λ (k : ℕ). Ended k ∷ []) same))

    module _ (before now : Option (List ℕ)) where
      pub none_finished : {X : Type 0} (rounds : ℕ) (result : Result X LiveFault) → rounds ≡ old.rounds → line ≡ short [] → IsClosed ports before now rounds result → IsFinished ports before now r budget at result
      none_finished rounds (Ok x) same empty text = record {
        answers = Ended rounds ∷ [];
        last = last_none rounds same empty;
        whole = record { says = ([], Ended rounds, refl, refl); text = text };
      }
      none_finished rounds (Err faults.Failed) same empty part = record { answers = Ended rounds ∷ []; last = last_none rounds same empty; part = part }
      none_finished rounds (Err (faults.Wide k)) same empty h = absurd h
      none_finished rounds (Err (faults.Spent k w)) same empty h = absurd h
      none_finished rounds (Err faults.NoMemory) same empty stays = record {
        lines = [];
        rest = Ended rounds ∷ [];
        last = last_none rounds same empty;
        text = subst (λ (z : Option (List ℕ)). Appended before z []) (sym stays) (Appended-none before);
      }

    module _ (some : line ≡ short [] → ⊥) where
      last_some : (told : Told P) → Is told → (answers : List Answer) → answers ≡ all_of told → Last r ports budget at answers
      last_some told is answers all = inr (refl, closes (stand_of old n false) line some told is answers all)

      over_all : (told : Told P) → told.stand.over ≡ true → told.answers ≡ all_of told
      over_all told over = sym (append-nil told.answers) ∙ ap (λ (b : Bool). told.answers ++ cond b [] (Ended told.stand.rounds ∷ [])) (sym over)

      module _ (before now : Option (List ℕ)) (e : Running P) where
        -- It is over with the line.
        over_finished : (result : Result Going LiveFault) (told : Told P) → Is told → told.stand ≡ stand_of e (n + 1) true → Whole ports before now told.stand.over told.answers result
            → FinishedAll ports before now r budget at result
        over_finished result told is same all =
            let over : told.stand.over ≡ true = ap (λ (a : Stand P). a.over) same in
            record {
              answers = told.answers;
              last = last_some told is told.answers (over_all told over);
              whole = record { says = subst (λ (b : Bool). Says b told.answers result) over all.says; text = all.text };
            }

        fault_finished : (X : Type 0) → EndingExists r → HasOrder (net_of r.behaviour old.circuit) → (fault : LiveFault) → Judged ports before now Is (stand_of e (n + 1) true) (Err fault)
            → IsFinished ports before now r budget {X = X} at (Err fault)
        fault_finished X exists order faults.Failed j = record {
          answers = all_of j.0;
          last = last_some j.0 j.1 (all_of j.0) refl;
          part = subst (λ (z : List ℕ). TookPart before now z) (sym (texts_two r ports budget j.0.answers (cond j.0.stand.over [] (Ended j.0.stand.rounds ∷ []))))
              (TookPart-more before now (answers_text ports j.0.answers) (answers_text ports (cond j.0.stand.over [] (Ended j.0.stand.rounds ∷ []))) j.2);
        }
        fault_finished X exists order (faults.Wide k) j = over_finished (Err (faults.Wide k)) j.0 j.1 j.2 j.3
        fault_finished X exists order (faults.Spent k w) j = over_finished (Err (faults.Spent k w)) j.0 j.1 j.2 j.3
        fault_finished X exists order faults.NoMemory j =
            let f = exists ports budget at order in
            record { lines = []; rest = f.0; last = f.1; text = subst (λ (z : Option (List ℕ)). Appended before z []) (sym j) (Appended-none before) }

        pub passed_finished : (X : Type 0) → EndingExists r → HasOrder (net_of r.behaviour old.circuit) → (fault : LiveFault) → Judged ports before now Is (stand_of e (n + 1) true) (Err fault)
            → (result : Result X LiveFault) → result ≡ Err fault → IsFinished ports before now r budget at result
        passed_finished X exists order fault j result is =
            subst (λ (q : Result X LiveFault). IsFinished ports before now r budget at q) (sym is) (fault_finished X exists order fault j)

      module _ (before mid now : Option (List ℕ)) (e : Running P) (rounds : ℕ) (same : rounds ≡ e.rounds) where
        more_all : (told : Told P) → told.stand ≡ stand_of e (n + 1) false → told.answers ++ Ended rounds ∷ [] ≡ all_of told
        more_all told is =
            ap (λ (k : ℕ). told.answers ++ Ended k ∷ []) same
            ∙ sym (ap (λ (a : Stand P). told.answers ++ cond a.over [] (Ended a.rounds ∷ [])) is)

        texts_more : (told : Told P) → answers_text ports (told.answers ++ Ended rounds ∷ []) ≡ answers_text ports told.answers ++ answers_text ports (Ended rounds ∷ [])
        texts_more told = texts_two r ports budget told.answers (Ended rounds ∷ [])

        -- It goes on behind the line, and was closed.
        pub more_finished : {X : Type 0} (result : Result X LiveFault) (going : Going) → going ≡ goings.More → Judged ports before mid Is (stand_of e (n + 1) (is_over (Ok going))) (Ok going) → IsClosed ports mid now rounds result
            → IsFinished ports before now r budget at result
        more_finished result goings.Ended is j h = absurd (cc)
        more_finished (Ok x) goings.More is j text = record {
          answers = j.0.answers ++ Ended rounds ∷ [];
          last = last_some j.0 j.1 (j.0.answers ++ Ended rounds ∷ []) (more_all j.0 j.2);
          whole = record {
            says = (j.0.answers, Ended rounds, refl, refl);
            text = subst (λ (z : List ℕ). Appended before now z) (sym (texts_more j.0)) (Appended-append before mid now _ _ j.3.text text);
          };
        }
        more_finished (Err faults.Failed) goings.More is j part = record {
          answers = j.0.answers ++ Ended rounds ∷ [];
          last = last_some j.0 j.1 (j.0.answers ++ Ended rounds ∷ []) (more_all j.0 j.2);
          part = subst (λ (z : List ℕ). TookPart before now z) (sym (texts_more j.0)) (TookPart-after before mid now _ _ j.3.text part);
        }
        more_finished (Err (faults.Wide k)) goings.More is j h = absurd h
        more_finished (Err (faults.Spent k w)) goings.More is j h = absurd h
        more_finished (Err faults.NoMemory) goings.More is j stays = record {
          lines = j.0.answers;
          rest = Ended rounds ∷ [];
          last = last_some j.0 j.1 (j.0.answers ++ Ended rounds ∷ []) (more_all j.0 j.2);
          text = subst (λ (z : Option (List ℕ)). Appended before z (answers_text ports j.0.answers)) (sym stays) j.3.text;
        }
