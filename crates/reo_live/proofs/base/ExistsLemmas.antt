-- There is a state after whatever is heard.
use Rattle.std.proofs.Common.{◌≡◌, ℕ, ◌+◌, Bool, true, false, inl, inr, List, [], ◌∷◌, ◌++◌, Result, Ok, Err, refl}
use Rattle.reo_net_base.specs.declared.port.Port.{Port}
use Rattle.reo_net_base.specs.Net.{Net, net_of}
use Rattle.reo_net_laws.specs.FirstLaws.{FirstExists}
use Rattle.reo_weights.specs.Laws.{OverIsDecided}
use Rattle.reo_script.specs.declared.scripts.event.Event.{Event}
use Rattle.reo_script.specs.declared.scripts.event.Event.TheVariants as events
use Rattle.reo_script.specs.declared.scripts.event.EventFault.{EventFault}
use Rattle.reo_rounds.specs.Rules.{Rules}
use Rattle.reo_live.specs.base.Lines.{ended_lines, open_line}
use Rattle.reo_live.specs.base.Held.{Held, short, long, joined}
use Rattle.reo_live.specs.base.Live.{Stand, Live, fresh, after_round, held_open}
use Rattle.reo_live.specs.declared.base.answer.Answer.{Answer}
use Rattle.reo_live.specs.declared.base.answer.Answer.TheVariants.{Made, Ended}
use Rattle.reo_live.specs.base.Answers.{stopped_by}
use Rattle.reo_rounds.specs.Lasting.{KeepsShape}
use Rattle.reo_rounds.proofs.RoundLemmas.{round_exists}
use Rattle.reo_live.specs.base.Events.{Told, Does, effect, closing, refusing}
use Rattle.reo_live.specs.declared.base.fault.LineRefusal.TheVariants as faults
use Rattle.reo_live.specs.base.Hearing.{Judges, HearsAll, After, ClosesLine, Last, cleaned}
use Rattle.reo_script.specs.scripts.Events.{EachLineIsAnswered}
use Rattle.reo_rounds.specs.Order.{HasOrder}
use Rattle.reo_live.proofs.base.OrderLemmas.{judges_order}

module _ {P : Type 0} (r : Rules P) (budget : ℕ) (first : FirstExists) (decided : OverIsDecided) where
  makes_exists : (a : Stand P) → HasOrder (net_of r.behaviour a.circuit) → (told : Told P) × Does r budget a (Ok events.Round) told
  makes_exists a old =
      let net : Net = net_of r.behaviour a.circuit in
      elim (decided budget net old.wired old.order old.is_order) [
        | inl c ↦ (closing r a (stopped_by (a.rounds + 1) c.0), inr (record { cause = c.0; over = c.1; is = refl }))
        | inr none ↦
            let found = round_exists r (a.rounds + 1) a.circuit first old budget none in (
              record { stand = after_round a found.1; answers = Made found.0 ∷ [] },
              inl (record { line = found.0; next = found.1; round = found.2; is = refl }),
            )
      ]

  does_exists : (a : Stand P) (answer : Result Event EventFault) → HasOrder (net_of r.behaviour a.circuit) → (told : Told P) × Does r budget a answer told
  does_exists a (Ok events.Nothing) old = (effect r a (Ok events.Nothing), refl)
  does_exists a (Ok (events.Write p v)) old = (effect r a (Ok (events.Write p v)), refl)
  does_exists a (Ok (events.Take p)) old = (effect r a (Ok (events.Take p)), refl)
  does_exists a (Ok (events.Withdraw p)) old = (effect r a (Ok (events.Withdraw p)), refl)
  does_exists a (Ok events.Round) old = makes_exists a old
  does_exists a (Ok events.End) old = (effect r a (Ok events.End), refl)
  does_exists a (Err fault) old = (effect r a (Err fault), refl)

  module _ (ports : List Port) (all : EachLineIsAnswered) where
    judges_exists : (a : Stand P) (h : Held) → HasOrder (net_of r.behaviour a.circuit) → (told : Told P) × Judges r ports budget a h told
    judges_exists a long old = (refusing r a faults.Long, refl)
    judges_exists a (short bytes) old =
        let answer = all bytes ports in
        let told = does_exists a answer.0 old in
        (told.0, (answer.0, answer.1, told.1))

    abbrev HearsSome : Live P → List (List ℕ) → Type 0
    HearsSome s lines = (t : Live P) × (answers : List Answer) × HearsAll r ports budget s lines t answers

    module _ (k : KeepsShape r) where
      hears_line : (s : Live P) (l : List ℕ) (ls : List (List ℕ)) (b : Bool) → s.stand.over ≡ b → HasOrder (net_of r.behaviour s.stand.circuit)
          → ((a : Stand P) → HasOrder (net_of r.behaviour a.circuit) → HearsSome (fresh a) ls) → HearsSome s (l ∷ ls)
      hears_line s l ls true e old more = (s, [], inl (e, refl, refl))
      hears_line s l ls false e old more =
          let told = judges_exists s.stand (cleaned (joined s.line l)) old in
          let rest = more told.0.stand (judges_order r k budget ports s.stand (cleaned (joined s.line l)) told.0 old told.1) in
          (rest.0, told.0.answers ++ rest.1, inr (e, told.0, rest.1, told.1, rest.2, refl))

      pub all_exists : (s : Live P) (lines : List (List ℕ)) → HasOrder (net_of r.behaviour s.stand.circuit) → HearsSome s lines
      all_exists s [] old = (s, [], (refl, refl))
      all_exists s (l ∷ ls) old = hears_line s l ls s.stand.over refl old (λ a here. all_exists (fresh a) ls here)

      pub after_exists : (s : Live P) (bytes : List ℕ) → HasOrder (net_of r.behaviour s.stand.circuit) → (t : Live P) × (answers : List Answer) × After r ports budget s bytes t answers
      after_exists s bytes old =
          let found = all_exists s (ended_lines bytes) old in
          (held_open found.0 (open_line bytes), found.1, record { between = found.0; heard = found.2; is = refl })

      closes_exists : (a : Stand P) (h : Held) → HasOrder (net_of r.behaviour a.circuit) → (answers : List Answer) × ClosesLine r ports budget a h answers
      closes_exists a (short []) old = (Ended a.rounds ∷ [], refl)
      closes_exists a (short (b ∷ bs)) old = let told = judges_exists a (short (b ∷ bs)) old in (_, (told.0, told.1, refl))
      closes_exists a long old = let told = judges_exists a long old in (_, (told.0, told.1, refl))

      last_by : (s : Live P) (b : Bool) → s.stand.over ≡ b → HasOrder (net_of r.behaviour s.stand.circuit) → (answers : List Answer) × Last r ports budget s answers
      last_by s true e old = ([], inl (e, refl))
      last_by s false e old = let found = closes_exists s.stand s.line old in (found.0, inr (e, found.1))

      pub last_exists : (s : Live P) → HasOrder (net_of r.behaviour s.stand.circuit) → (answers : List Answer) × Last r ports budget s answers
      last_exists s old = last_by s s.stand.over refl old
