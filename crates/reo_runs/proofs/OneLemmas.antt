-- There is no other run.
use Rattle.std.proofs.Common.{◌≡◌, ◌∙◌, ℕ, ◌+◌, inl, inr, List, [], ◌∷◌, ap, sym, subst, length, arith}
use Rattle.std.specs.Prelude.{Option, None}
use Rattle.reo_values.specs.declared.value.Value.{Value}
use Rattle.reo_net_base.specs.Net.{Net, Wiring, net_of}
use Rattle.reo_net_base.specs.Wired.{IsWired}
use Rattle.reo_net_laws.specs.FirstLaws.{FirstIsOne}
use Rattle.reo_weights.specs.Laws.{CauseIsOne}
use Rattle.reo_players.specs.Offers.{offer_for}
use Rattle.reo_trace.specs.declared.line.RoundLine.{RoundLine}
use Rattle.reo_trace.specs.declared.line.Ending.{Ending}
use Rattle.reo_rounds.specs.Rules.{Rules}
use Rattle.reo_rounds.specs.Order.{HasOrder}
use Rattle.reo_rounds.specs.Ready.{ready}
use Rattle.reo_rounds.specs.RoundOn.{RoundOn, first_within}
use Rattle.reo_rounds.specs.Stopping.{ending_by}
use Rattle.reo_rounds.proofs.RoundLemmas.{suits_also, one_round}
use Rattle.reo_runs.specs.Round.{State, RoundOf, net_ready, advanced}
use Rattle.reo_runs.specs.Run.{Place, Leads, EndsAs, place_after, firsts}
use Rattle.reo_runs.specs.Whole.{HasOneRun}
use Rattle.reo_rounds.specs.Lasting.{KeepsShape}
use Rattle.reo_rounds.proofs.OrderLemmas.{ready_order, round_order}

module _ (budget limit : ℕ) (one_cause : CauseIsOne) where
  -- In place of one round stands one ending.
  one_stop : (net : Net) → IsWired net → (turn : ℕ) (e f : Ending) → (firsts budget limit).stops net turn e → (firsts budget limit).stops net turn f → e ≡ f
  one_stop net wired turn e f (inl p) (inl q) = p.1 ∙ sym q.1
  one_stop net wired turn e f (inl p) (inr q) = absurd (omega (arith, p.0, q.0))
  one_stop net wired turn e f (inr p) (inl q) = absurd (omega (arith, p.0, q.0))
  one_stop net wired turn e f (inr p) (inr q) = p.3 ∙ ap (ending_by turn) (one_cause budget net wired p.1 q.1 p.2 q.2) ∙ sym q.3

module _ (budget limit : ℕ) where
  -- Where a round may be made, no ending stands in its place.
  no_stop : (net : Net) (turn : ℕ) (rows : List ℕ) (items : List (Option Value)) (e : Ending) → (firsts budget limit).suits net turn rows items → (firsts budget limit).stops net turn e → ⊥
  no_stop net turn rows items e fits (inl p) = absurd (omega (arith, fits.0, p.0))
  no_stop net turn rows items e fits (inr p) = fits.1.0 p.1 p.2

module _ {P : Type 0} (r : Rules P) (budget limit : ℕ) where
  -- Where a round was made, no run ends.
  no_end : (turn : ℕ) (p : Place P) (line : RoundLine) (b : State P) (e : Ending) → p.over ≡ None → RoundOf (firsts budget limit) r turn p.state line b → EndsAs (firsts budget limit) r turn p e → ⊥
  no_end turn p line b e on round (inl over) = absurd (cc)
  no_end turn p line b e on round (inr q) = no_stop budget limit (net_ready r p.state) turn round.made.rows round.made.items e round.made.suits q.1

  -- No round was made before the ending.
  ends_here : (turn t : ℕ) (p q : Place P) (e : Ending) → t ≡ turn → p ≡ q → EndsAs (firsts budget limit) r t q e → EndsAs (firsts budget limit) r turn p e
  ends_here turn t p q e count same ends =
      subst (λ (n : ℕ). EndsAs (firsts budget limit) r n p e) count (subst (λ (s : Place P). EndsAs (firsts budget limit) r t s e) (sym same) ends)

  module _ (k : KeepsShape r) (one : FirstIsOne) (one_cause : CauseIsOne) where
    -- From one place there is one ending.
    one_end : (turn : ℕ) (p : Place P) (e f : Ending) → HasOrder (net_of r.behaviour p.state.circuit) → EndsAs (firsts budget limit) r turn p e → EndsAs (firsts budget limit) r turn p f → e ≡ f
    one_end turn p e f old (inl over) (inl also) = cc
    one_end turn p e f old (inl over) (inr q) = let on = q.0 in absurd (cc)
    one_end turn p e f old (inr q) (inl over) = let on = q.0 in absurd (cc)
    one_end turn p e f old (inr q) (inr s) = one_stop budget limit one_cause (net_ready r p.state) (ready_order r k (offer_for p.state.players) p.state.circuit old).wired turn e f q.1 s.1

    abbrev within : (turn : ℕ) (a : State P) (x : RoundLine) (b : State P) → RoundOf (firsts budget limit) r turn a x b → RoundOn (first_within budget) r turn (ready r (offer_for a.players) a.circuit) x b.circuit
    within turn a x b p = suits_also r turn (ready r (offer_for a.players) a.circuit) (firsts budget limit).suits (first_within budget) (λ net n rows items fits. fits.1) x b.circuit p.made

    same_round : (turn : ℕ) (a : State P) (x y : RoundLine) (b d : State P) → HasOrder (net_of r.behaviour a.circuit)
        → RoundOf (firsts budget limit) r turn a x b → RoundOf (firsts budget limit) r turn a y d → (x ≡ y) × (b ≡ d)
    same_round turn a x y b d old p q =
        let w : Wiring P = ready r (offer_for a.players) a.circuit in
        let net : Net = net_ready r a in
        let now : HasOrder net = ready_order r k (offer_for a.players) a.circuit old in
        let here = within turn a x b p in
        let there = within turn a y d q in
        let same = one_round r turn w one now budget x y b.circuit d.circuit here there in
        let players : b.players ≡ d.players = p.players ∙ ap (λ (rows : List ℕ). advanced net rows a.players) same.rows ∙ sym q.players in
        (same.line, λ i. record { circuit = same.circuit i; players = players i })

    one_leads : (turn t u : ℕ) (p : Place P) (xs ys : List RoundLine) (q s : Place P) (e f : Ending) → t ≡ turn + length xs → u ≡ turn + length ys → HasOrder (net_of r.behaviour p.state.circuit)
        → Leads (firsts budget limit) r turn p xs q → Leads (firsts budget limit) r turn p ys s
        → EndsAs (firsts budget limit) r t q e → EndsAs (firsts budget limit) r u s f → (xs ≡ ys) × (e ≡ f)
    one_leads turn t u p [] [] q s e f count also old d g ends other =
        (λ i. [], one_end turn p e f old (ends_here turn t p q e (omega (arith, count)) d ends) (ends_here turn u p s f (omega (arith, also)) g other))
    one_leads turn t u p [] (y ∷ ys) q s e f count also old d g ends other =
        absurd (no_end turn p y g.1 e g.0 g.2 (ends_here turn t p q e (omega (arith, count)) d ends))
    one_leads turn t u p (x ∷ xs) [] q s e f count also old d g ends other =
        absurd (no_end turn p x d.1 f d.0 d.2 (ends_here turn u p s f (omega (arith, also)) g other))
    one_leads turn t u p (x ∷ xs) (y ∷ ys) q s e f count also old d g ends other =
        let same = same_round turn p.state x y d.1 g.1 old d.2 g.2 in
        let line_same = subst (λ (z : RoundLine). Leads (firsts budget limit) r (turn + 1) (place_after turn z p.state g.1) ys s) (sym same.0) g.3 in
        let all_same = subst (λ (b : State P). Leads (firsts budget limit) r (turn + 1) (place_after turn x p.state b) ys s) (sym same.1) line_same in
        let here = round_order r k (offer_for p.state.players) (firsts budget limit).suits turn p.state.circuit x d.1.circuit d.2.made old in
        let rest = one_leads (turn + 1) t u (place_after turn x p.state d.1) xs ys q s e f (omega (arith, count)) (omega (arith, also)) here d.3 all_same ends other in
        (λ i. same.0 i ∷ rest.0 i, rest.1)

    pub one_run : (start : Place P) → HasOrder (net_of r.behaviour start.state.circuit) → HasOneRun (firsts budget limit) r start
    one_run start old xs ys e f p q =
        one_leads 1 (length xs + 1) (length ys + 1) start xs ys p.last q.last e f (omega arith) (omega arith) old p.rounds q.rounds p.ends q.ends
