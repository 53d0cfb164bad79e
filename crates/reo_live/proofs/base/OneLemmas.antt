-- There is one state after what is heard, and there are no other answers.
use Rattle.std.proofs.Common.{◌≡◌, ◌∙◌, ℕ, ◌+◌, inl, inr, List, [], ◌∷◌, ◌++◌, Result, Ok, Err, ap, sym, subst}
use Rattle.reo_net_base.specs.declared.port.Port.{Port}
use Rattle.reo_net_base.specs.Net.{net_of}
use Rattle.reo_net_laws.specs.FirstLaws.{FirstIsOne}
use Rattle.reo_weights.specs.Laws.{CauseIsOne}
use Rattle.reo_script.specs.declared.scripts.event.Event.{Event}
use Rattle.reo_script.specs.declared.scripts.event.Event.TheVariants as events
use Rattle.reo_script.specs.declared.scripts.event.EventFault.{EventFault}
use Rattle.reo_script.specs.declared.scripts.event.EventFault.TheVariants as wrongs
use Rattle.reo_script.specs.scripts.Events.{AnswersEvent}
use Rattle.reo_script.proofs.OneEvent.{only-event}
use Rattle.reo_rounds.specs.Rules.{Rules}
use Rattle.reo_live.specs.base.Lines.{ended_lines, open_line}
use Rattle.reo_live.specs.base.Held.{Held, short, long, joined}
use Rattle.reo_live.specs.base.Live.{Stand, Live, fresh, after_round, held_open}
use Rattle.reo_live.specs.declared.base.answer.Answer.{Answer}
use Rattle.reo_live.specs.declared.base.answer.Answer.TheVariants.{Made}
use Rattle.reo_live.specs.base.Answers.{stopped_by}
use Rattle.reo_rounds.specs.Lasting.{KeepsShape}
use Rattle.reo_rounds.proofs.RoundLemmas.{one_round}
use Rattle.reo_live.specs.base.Events.{Told, Does, effect, closing}
use Rattle.reo_live.specs.base.Hearing.{Judges, HearsAll, After, cleaned}
use Rattle.reo_rounds.specs.Order.{HasOrder}
use Rattle.reo_live.proofs.base.OrderLemmas.{judges_order}

-- A line has one answer.
pub one_event_answer : (line : List ℕ) (ports : List Port) (a b : Result Event EventFault) → AnswersEvent line ports a → AnswersEvent line ports b → a ≡ b
one_event_answer line ports (Ok v) b h i = only-event line ports (Ok v) b h i
one_event_answer line ports (Err wrongs.Form) b h i = only-event line ports (Err wrongs.Form) b h i
one_event_answer line ports (Err wrongs.NoPort) b h i = only-event line ports (Err wrongs.NoPort) b h i
one_event_answer line ports (Err wrongs.WrongWay) b h i = only-event line ports (Err wrongs.WrongWay) b h i
one_event_answer line ports (Err (wrongs.ItemOutside p)) b h i = only-event line ports (Err (wrongs.ItemOutside p)) b h i
one_event_answer line ports (Err wrongs.NoMemory) b h i = elim h [ ]

module _ {P : Type 0} (r : Rules P) (budget : ℕ) (one : FirstIsOne) (one_cause : CauseIsOne) where
  both_plain : (a : Stand P) (answer : Result Event EventFault) (x y : Told P) → x ≡ effect r a answer → y ≡ effect r a answer → x ≡ y
  both_plain a answer x y h g = h ∙ sym g

  does_one : (a : Stand P) (answer : Result Event EventFault) (x y : Told P) → HasOrder (net_of r.behaviour a.circuit) → Does r budget a answer x → Does r budget a answer y → x ≡ y
  does_one a (Ok events.Nothing) x y old h g = both_plain a (Ok events.Nothing) x y h g
  does_one a (Ok (events.Write p v)) x y old h g = both_plain a (Ok (events.Write p v)) x y h g
  does_one a (Ok (events.Take p)) x y old h g = both_plain a (Ok (events.Take p)) x y h g
  does_one a (Ok (events.Withdraw p)) x y old h g = both_plain a (Ok (events.Withdraw p)) x y h g
  does_one a (Ok events.Round) x y old (inl m) (inl n) =
      let same = one_round r (a.rounds + 1) a.circuit one old budget m.line n.line m.next n.next m.round n.round in
      m.is ∙ (λ i. record { stand = after_round a (same.circuit i); answers = Made (same.line i) ∷ [] }) ∙ sym n.is
  does_one a (Ok events.Round) x y old (inl m) (inr s) = absurd (m.round.suits.0 s.cause s.over)
  does_one a (Ok events.Round) x y old (inr s) (inl m) = absurd (m.round.suits.0 s.cause s.over)
  does_one a (Ok events.Round) x y old (inr s) (inr u) =
      let same = one_cause budget (net_of r.behaviour a.circuit) old.wired s.cause u.cause s.over u.over in
      s.is ∙ (λ i. closing r a (stopped_by (a.rounds + 1) (same i))) ∙ sym u.is
  does_one a (Ok events.End) x y old h g = both_plain a (Ok events.End) x y h g
  does_one a (Err wrongs.Form) x y old h g = both_plain a (Err wrongs.Form) x y h g
  does_one a (Err wrongs.NoPort) x y old h g = both_plain a (Err wrongs.NoPort) x y h g
  does_one a (Err wrongs.WrongWay) x y old h g = both_plain a (Err wrongs.WrongWay) x y h g
  does_one a (Err (wrongs.ItemOutside p)) x y old h g = both_plain a (Err (wrongs.ItemOutside p)) x y h g
  does_one a (Err wrongs.NoMemory) x y old h g = both_plain a (Err wrongs.NoMemory) x y h g

  module _ (ports : List Port) where
    pub judges_one : (a : Stand P) (k : Held) (x y : Told P) → HasOrder (net_of r.behaviour a.circuit) → Judges r ports budget a k x → Judges r ports budget a k y → x ≡ y
    judges_one a long x y old h g = h ∙ sym g
    judges_one a (short bytes) x y old h g =
        let same = one_event_answer bytes ports h.0 g.0 h.1 g.1 in
        does_one a g.0 x y old (subst (λ (answer : Result Event EventFault). Does r budget a answer x) same h.2) g.2

    module _ (k : KeepsShape r) where
      all_one : (s t u : Live P) (lines : List (List ℕ)) (x y : List Answer) → HasOrder (net_of r.behaviour s.stand.circuit) → HearsAll r ports budget s lines t x → HearsAll r ports budget s lines u y
          → (t ≡ u) × (x ≡ y)
      all_one s t u [] x y old h g = (h.0 ∙ sym g.0, h.1 ∙ sym g.1)
      all_one s t u (l ∷ ls) x y old (inl h) (inl g) = (h.1 ∙ sym g.1, h.2 ∙ sym g.2)
      all_one s t u (l ∷ ls) x y old (inl h) (inr g) = let no = h.0 in let yes = g.0 in absurd (cc)
      all_one s t u (l ∷ ls) x y old (inr h) (inl g) = let no = h.0 in let yes = g.0 in absurd (cc)
      all_one s t u (l ∷ ls) x y old (inr h) (inr g) =
          let told : g.1 ≡ h.1 = judges_one s.stand (cleaned (joined s.line l)) g.1 h.1 old g.3 h.3 in
          let rest = subst (λ (v : Told P). HearsAll r ports budget (fresh v.stand) ls u g.2) told g.4 in
          let next = judges_order r k budget ports s.stand (cleaned (joined s.line l)) h.1 old h.3 in
          let same = all_one (fresh h.1.stand) t u ls h.2 g.2 next h.4 rest in
          (same.0, h.5 ∙ (λ i. (sym told i).answers ++ same.1 i) ∙ sym g.5)

      pub after_one : (s t u : Live P) (bytes : List ℕ) (x y : List Answer) → HasOrder (net_of r.behaviour s.stand.circuit) → After r ports budget s bytes t x → After r ports budget s bytes u y → (t ≡ u) × (x ≡ y)
      after_one s t u bytes x y old h g =
          let same = all_one s h.between g.between (ended_lines bytes) x y old h.heard g.heard in
          (h.is ∙ ap (λ (v : Live P). held_open v (open_line bytes)) same.0 ∙ sym g.is, same.1)
